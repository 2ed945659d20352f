-- A list that is cut where elements pass a test.
use Rattle.std.proofs.Common.{◌≡◌, ℕ, ◌≤◌, Bool, true, false, List, [], ◌∷◌, length, ap, sym, ◌∙◌, arith, inl, inr}
use Rattle.std.specs.List.{slice_split, list_any, position_or_len, before_first, after_first}
use Rattle.std.proofs.lemmas.Bool.{cases_lt}
use Rattle.std.proofs.lemmas.List.{take_all}
use Rattle.std.proofs.lemmas.List.Splits.{slice_split_first, slice_split_none}
use Rattle.std.proofs.lemmas.List.Sums.{fails_before_first}
use Rattle.vir_soc.proofs.AnyLemmas.{position-inside, position-none}

module _ (p : ℕ → Bool) (xs : List ℕ) where
  -- all of it is before the first, where there is none
  pub before_first-none : list_any p xs ≡ false → before_first p xs ≡ xs
  before_first-none h = let e = position-none p xs h in take_all (position_or_len p xs) xs (omega arith)

  last_of : length xs ≤ position_or_len p xs → slice_split p xs ≡ before_first p xs ∷ []
  last_of e = slice_split_none p xs (λ k d h. fails_before_first p xs k d (omega arith))
      ∙ ap (λ ys. ys ∷ []) (sym (take_all (position_or_len p xs) xs e))

  -- it is the one part
  pub split_last : list_any p xs ≡ false → slice_split p xs ≡ before_first p xs ∷ []
  split_last h = let e = position-none p xs h in last_of (omega arith)

  -- the first part, and the others
  pub split_more : list_any p xs ≡ true → slice_split p xs ≡ before_first p xs ∷ slice_split p (after_first p xs)
  split_more h = slice_split_first p xs 0 (position-inside p xs h)

  pub split_head : (tail : List (List ℕ)) × (slice_split p xs ≡ before_first p xs ∷ tail)
  split_head = elim (cases_lt (position_or_len p xs) (length xs)) [
    | inl lt ↦ (slice_split p (after_first p xs), slice_split_first p xs 0 lt)
    | inr le ↦ ([], last_of le)
  ]
