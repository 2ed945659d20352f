-- Scores under other names.
use Rattle.std.proofs.Common.{◌≡◌, ℕ, ◌+◌, ◌<◌, Bool, true, false, cond, not, ◌||◌, ◌&&◌, List, [], ◌∷◌, map, filter}
use Rattle.std.proofs.Common.{nat_eq, nat_lt, refl, sym, ap, ap₂, ◌∙◌, arith, pos, ◌-ℤ◌, Option, None, unwrap_or}
use Rattle.std.specs.FinSet as set
use Rattle.std.specs.List.{list_all}
use Rattle.vir_altset.specs.Sets.{Set}
use Rattle.vir_altset.specs.Splits.{bit}
use Rattle.vir_profile.specs.declared.ballot.Entry.{Entry}
use Rattle.vir_profile.specs.Profiles.{IsProfileOn, pairwise_weight}
use Rattle.vir_term.specs.declared.score.Score.{Score}
use Rattle.vir_term.specs.declared.score.Score.TheVariants.{Plurality, Borda, Copeland, Minimax, Condorcet}
use Rattle.vir_mean.specs.Extremes.{fold, lowered}
use Rattle.vir_mean.specs.Listings.{listed, total}
use Rattle.vir_mean.specs.Scores.{score, beats}
use Rattle.vir_mean.specs.Neutrality.{IsRenaming, renamed_set, renamed_lines}
use Rattle.vir_mean.proofs.MemberCounts.{Lists, at_head}
use Rattle.vir_mean.proofs.MemberListings.{listed_lists, often-filter, lower}
use Rattle.vir_mean.proofs.MemberSums.{member_of_listed}
use Rattle.vir_mean.proofs.PairScores.{others_in, borda_is, copeland_is, minimax_is, condorcet_is}
use Rattle.vir_mean.proofs.RenamedProfiles.{AllIn, all_in_rest, first_weight-renamed, pairwise_weight-renamed}
use Rattle.vir_mean.proofs.RenamedSets.{same_names, lists-renamed}

all_in_filter : (a : Set) (t : ℕ → Bool) (list : List ℕ) → AllIn a list → AllIn a (filter t list)
all_in_filter a t list within x some = within x (step (t x) _ _ (often-filter t x list) some)
  where
    step : (b : Bool) (m n : ℕ) → m ≡ cond b n 0 → 0 < m → 0 < n
    step b m n is some = grind arith

module _ (f : ℕ → ℕ) (a : Set) (renaming : IsRenaming f a) where
  -- ---- over lists of members
  others_in-renamed : (x : ℕ) → set.contains a x ≡ true → (list : List ℕ) → AllIn a list → others_in (f x) (map f list)
      ≡ map f (others_in x list)
  others_in-renamed x inside [] within = refl
  others_in-renamed x inside (y ∷ list) within =
      ap₂ (λ b kept. cond (not b) (f y ∷ kept) kept) (same_names f a renaming x y inside (within y (at_head y list)))
      (others_in-renamed x inside list (all_in_rest a y list within))
      ∙ step (nat_eq x y)
    where
      step : (b : Bool) → cond (not b) (f y ∷ map f (others_in x list)) (map f (others_in x list))
          ≡ map f (cond (not b) (y ∷ others_in x list) (others_in x list))
      step true = refl
      step false = refl

  total-renamed : (g h : ℕ → ℕ) → ((y : ℕ) → set.contains a y ≡ true → g (f y) ≡ h y) → (list : List ℕ) → AllIn a list
      → total g (map f list) ≡ total h list
  total-renamed g h same [] within = refl
  total-renamed g h same (y ∷ list) within = ap₂ (λ m n. m + n) (same y (within y (at_head y list)))
      (total-renamed g h same list (all_in_rest a y list within))

  lowest-renamed : (g h : ℕ → ℕ) → ((y : ℕ) → set.contains a y ≡ true → g (f y) ≡ h y) → (list : List ℕ) → AllIn a list
      → fold (lower g) None (map f list) ≡ fold (lower h) None list
  lowest-renamed g h same [] within = refl
  lowest-renamed g h same (y ∷ list) within = ap₂ (λ n before. lowered before n) (same y (within y (at_head y list)))
      (lowest-renamed g h same list (all_in_rest a y list within))

  list_all-renamed : (t u : ℕ → Bool) → ((y : ℕ) → set.contains a y ≡ true → t (f y) ≡ u y) → (list : List ℕ)
      → AllIn a list → list_all t (map f list) ≡ list_all u list
  list_all-renamed t u same [] within = refl
  list_all-renamed t u same (y ∷ list) within = ap₂ (λ b c. b && c) (same y (within y (at_head y list)))
      (list_all-renamed t u same list (all_in_rest a y list within))

  -- the members, and the list of their new names
  all_listed : AllIn a (listed a)
  all_listed = member_of_listed a

  new_listed : Lists (renamed_set f a) (map f (listed a))
  new_listed = lists-renamed f a renaming a (λ x member. member) (listed a) (listed_lists a)

  module _ (p : List Entry) (on : IsProfileOn a p) where
    beats-renamed : (x y : ℕ) → set.contains a x ≡ true → set.contains a y ≡ true → beats (renamed_lines f p) (f x)
        (f y) ≡ beats p x y
    beats-renamed x y with_x with_y = ap₂ nat_lt (pairwise_weight-renamed f a renaming p on y x with_y with_x)
        (pairwise_weight-renamed f a renaming p on x y with_x with_y)

    -- each score of what has a new name is what it was
    pub score-renamed : (s : Score) (x : ℕ) → set.contains a x ≡ true → score s (renamed_set f a) (renamed_lines f p)
        (f x) ≡ score s a p x
    score-renamed Plurality x inside = ap pos (first_weight-renamed f a renaming p on x inside)
    score-renamed Borda x inside =
        borda_is (renamed_set f a) (renamed_lines f p) (f x) (map f (listed a)) new_listed
        ∙ ap (λ list. pos (total (pairwise_weight (renamed_lines f p) (f x)) list))
        (others_in-renamed x inside (listed a) all_listed)
        ∙ ap pos (total-renamed _ (pairwise_weight p x) (λ y member. pairwise_weight-renamed f a renaming p on x y
        inside member) (others_in x (listed a)) (all_in_filter a _ (listed a) all_listed))
        ∙ sym (borda_is a p x (listed a) (listed_lists a))
    score-renamed Copeland x inside =
        copeland_is (renamed_set f a) (renamed_lines f p) (f x) (map f (listed a)) new_listed
        ∙ ap₂ (λ (m n : ℕ). pos m -ℤ pos n)
        (total-renamed _ (λ y. bit (beats p x y)) (λ y member. ap bit (beats-renamed x y inside member)) (listed a)
        all_listed)
        (total-renamed _ (λ y. bit (beats p y x)) (λ y member. ap bit (beats-renamed y x member inside)) (listed a)
        all_listed)
        ∙ sym (copeland_is a p x (listed a) (listed_lists a))
    score-renamed Minimax x inside =
        minimax_is (renamed_set f a) (renamed_lines f p) (f x) (map f (listed a)) new_listed
        ∙ ap (λ list. pos (unwrap_or (fold (lower (pairwise_weight (renamed_lines f p) (f x))) None list) 0))
        (others_in-renamed x inside (listed a) all_listed)
        ∙ ap (λ (o : Option ℕ). pos (unwrap_or o 0)) (lowest-renamed _ (pairwise_weight p x)
        (λ y member. pairwise_weight-renamed f a renaming p on x y inside member) (others_in x (listed a))
        (all_in_filter a _ (listed a) all_listed))
        ∙ sym (minimax_is a p x (listed a) (listed_lists a))
    score-renamed Condorcet x inside =
        condorcet_is (renamed_set f a) (renamed_lines f p) (f x) (map f (listed a)) new_listed
        ∙ ap (λ b. pos (bit b)) (list_all-renamed _ (λ y. nat_eq y x || beats p x y)
        (λ y member. ap₂ (λ b c. b || c) (same_names f a renaming y x member inside)
        (beats-renamed x y inside member)) (listed a) all_listed)
        ∙ sym (condorcet_is a p x (listed a) (listed_lists a))
