-- Searches through lists that are put together.
use Rattle.std.proofs.Common.{◌≡◌, ℕ, zero, suc, ◌+◌, ◌<◌, List, [], ◌∷◌, ◌++◌, length, take, drop, get_or, refl, sym}
use Rattle.std.proofs.Common.{ap, ◌∙◌}
use Rattle.std.proofs.Common.{subst, arith, append_assoc}
use Rattle.std.proofs.lemmas.Grind.{flat_map-append}
use Rattle.std.proofs.lemmas.List.{append-nil}
use Rattle.std.proofs.lemmas.List.Elements.{All-append}
use Rattle.std.specs.List.{All, flat_map}
use Rattle.vir_refute.specs.Cases.{Case}
use Rattle.vir_find.specs.Outcomes.{IsFirst}

-- the list as what stands before a place, what stands there, and the rest
pub parted : {A : Type 0} (g : ℕ → List A) (xs : List ℕ) (i : ℕ) → i < length xs
    → flat_map g xs ≡ flat_map g (take i xs)
    ++ (g (get_or xs i 0) ++ flat_map g (drop (suc i) xs))
parted g [] i inside = absurd (omega arith)
parted g (x ∷ xs) zero inside = refl
parted g (x ∷ xs) (suc i) inside = ap (λ ys. g x ++ ys) (parted g xs i (omega arith))
    ∙ sym (append_assoc (g x) (flat_map g (take i xs)) _)

pub parted_so_far : {A : Type 0} (g : ℕ → List A) (xs : List ℕ) (i : ℕ) → i < length xs → flat_map g (take (suc i) xs)
    ≡ flat_map g (take i xs) ++ g (get_or xs i 0)
parted_so_far g [] i inside = absurd (omega arith)
parted_so_far g (x ∷ xs) zero inside = append-nil (g x)
parted_so_far g (x ∷ xs) (suc i) inside = ap (λ ys. g x ++ ys) (parted_so_far g xs i (omega arith))
    ∙ sym (append_assoc (g x) (flat_map g (take i xs)) _)

module _ (Wanted : Case → Type 0) where
  abbrev Unwanted : Case → Type 0
  Unwanted c = Wanted c → ⊥

  pub none_further : (g : ℕ → List Case) (xs : List ℕ) (i : ℕ) → i < length xs
      → All (λ c. Wanted c → ⊥) (flat_map g (take i xs)) → All (λ c. Wanted c → ⊥) (g (get_or xs i 0))
      → All (λ c. Wanted c → ⊥) (flat_map g (take (i + 1) xs))
  none_further g xs i inside before here =
      subst (λ j. All (λ c. Wanted c → ⊥) (flat_map g (take j xs))) (one_more i)
      (subst (All (λ c. Wanted c → ⊥)) (sym (parted_so_far g xs i inside))
      (All-append (λ c. Wanted c → ⊥) (flat_map g (take i xs)) (g (get_or xs i 0)) before here))
    where
      one_more : (i : ℕ) → suc i ≡ i + 1
      one_more i = omega arith

  pub first_later : (before here after list : List Case) (c : Case) → list ≡ before ++ (here ++ after)
      → All (λ c. Wanted c → ⊥) before → IsFirst Wanted here c → IsFirst Wanted list c
  first_later before here after list c is none first = record {
    before = before ++ first.before;
    after = first.after ++ after;
    place = is ∙ ap (λ cs. before ++ (cs ++ after)) first.place
        ∙ ap (λ cs. before ++ cs) (append_assoc first.before (c ∷ first.after) after)
        ∙ sym (append_assoc before first.before (c ∷ (first.after ++ after)));
    earlier = All-append (λ c. Wanted c → ⊥) before first.before none first.earlier;
    wanted = first.wanted;
  }

  pub first_at : (g : ℕ → List Case) (xs : List ℕ) (i : ℕ) (c : Case) → i < length xs
      → All (λ c. Wanted c → ⊥) (flat_map g (take i xs)) → IsFirst Wanted (g (get_or xs i 0)) c
      → IsFirst Wanted (flat_map g xs) c
  first_at g xs i c inside none first = first_later (flat_map g (take i xs)) (g (get_or xs i 0))
      (flat_map g (drop (suc i) xs)) (flat_map g xs) c (parted g xs i inside) none first
