-- Sums, least numbers, tests of all, and what tests keep, compared.
use Rattle.std.proofs.Common.{◌≡◌, ℕ, ◌<◌, ◌≤◌, Bool, true, false, true≢false, ◌||◌, ◌&&◌, nat_eq, List, [], ◌∷◌, refl}
use Rattle.std.proofs.Common.{sym, ap, ◌∙◌, subst, arith, eqb-true}
use Rattle.std.specs.FinSet as set
use Rattle.std.specs.List.{list_all, list_any}
use Rattle.vir_altset.specs.Sets.{Set, IsPart}
use Rattle.vir_altset.specs.SetLaws.{contains-retain}
use Rattle.vir_altset.specs.Splits.{bit}
use Rattle.vir_mean.specs.Listings.{total, least}
use Rattle.vir_mean.proofs.MemberCounts.{often}

-- a sum of numbers that are no less is no less
pub total-no_less : (f g : ℕ → ℕ) (list : List ℕ) → ((y : ℕ) → f y ≤ g y) → total f list ≤ total g list
total-no_less f g [] each = omega arith
total-no_less f g (y ∷ rest) each = let first = each y in let more = total-no_less f g rest each in omega arith

-- and it is greater where one of them is
pub total-greater : (f g : ℕ → ℕ) (list : List ℕ) (x : ℕ) → ((y : ℕ) → f y ≤ g y) → 0 < often x list → f x < g x
    → total f list < total g list
total-greater f g [] x each some greater = absurd (omega arith)
total-greater f g (y ∷ rest) x each some greater =
    elim (nat_eq x y) as (λ b. nat_eq x y ≡ b → total f (y ∷ rest) < total g (y ∷ rest)) [
      | true ↦ λ e.
          let first : f y < g y = subst (λ z. f z < g z) (eqb-true x y e) greater in
          let more = total-no_less f g rest each in
          omega arith
      | false ↦ λ e.
          let first = each y in
          let more = total-greater f g rest x each (let here = ap bit e in omega arith) greater in
          omega arith
    ] refl

-- the least of numbers that are no less is no less
pub least-no_less : (f g : ℕ → ℕ) (list : List ℕ) → ((y : ℕ) → f y ≤ g y) → least f list ≤ least g list
least-no_less f g [] each = omega arith
least-no_less f g (y ∷ []) each = each y
least-no_less f g (y ∷ z ∷ rest) each = let first = each y in let more = least-no_less f g (z ∷ rest) each
    in omega arith

-- what is true of all, a weaker test is true of
pub list_all-weaker : (t u : ℕ → Bool) (list : List ℕ) → ((y : ℕ) → t y ≡ true → u y ≡ true) → list_all t list ≡ true
    → list_all u list ≡ true
list_all-weaker t u [] weaker all = refl
list_all-weaker t u (y ∷ rest) weaker all = step (t y) (u y) (list_all t rest) (list_all u rest) (weaker y)
    (list_all-weaker t u rest weaker) all
  where
    step : (b c d e : Bool) → (b ≡ true → c ≡ true) → (d ≡ true → e ≡ true) → (b && d) ≡ true → (c && e) ≡ true
    step b c d e first more all = grind arith

-- what is true of all is true of each
pub list_all-each : (t : ℕ → Bool) (list : List ℕ) → list_all t list ≡ true → (y : ℕ) → list_any (nat_eq y) list ≡ true
    → t y ≡ true
list_all-each t [] all y there = absurd (true≢false (sym there))
list_all-each t (z ∷ rest) all y there = step (nat_eq y z) (t z) (list_all t rest) (list_any (nat_eq y) rest) (t y) all
    there (λ e. ap t (eqb-true y z e)) (λ more. list_all-each t rest more y)
  where
    step : (same first more later here : Bool) → (first && more) ≡ true → (same || later) ≡ true
        → (same ≡ true → here ≡ first) → (more ≡ true → later ≡ true → here ≡ true) → here ≡ true
    step same first more later here all there is after = grind arith

-- what a test keeps of a set, a weaker one keeps
pub retain-weaker : (a : Set) (t u : ℕ → Bool) → ((y : ℕ) → t y ≡ true → u y ≡ true) → IsPart (set.retain a t)
    (set.retain a u)
retain-weaker a t u weaker y kept = contains-retain a u y ∙ step (set.contains a y) (t y) (u y) (weaker y)
    (sym (contains-retain a t y) ∙ kept)
  where
    step : (b c d : Bool) → (c ≡ true → d ≡ true) → (b && c) ≡ true → (b && d) ≡ true
    step b c d weaker kept = grind arith

-- tests that keep the same agree on a member
pub retain-tells : (a : Set) (t u : ℕ → Bool) (y : ℕ) → set.contains a y ≡ true → set.retain a t ≡ set.retain a u → t y
    ≡ u y
retain-tells a t u y inside same = step (set.contains a y) (t y) (u y) inside (sym (contains-retain a t y)
    ∙ ap (λ s. set.contains s y) same ∙ contains-retain a u y)
  where
    step : (b c d : Bool) → b ≡ true → (b && c) ≡ (b && d) → c ≡ d
    step b c d inside same = grind arith
