-- How large weights are, and that they never rise with the place.
use Rattle.std.proofs.Common.{◌≡◌, ℕ, zero, suc, ◌-◌, ◌<◌, ◌≤◌, Bool, true, false, cond, ◌&&◌, nat_eq, nat_le}
use Rattle.std.proofs.Common.{nat_lt, List, [], ◌∷◌, length, get_or, refl, ap, ◌∙◌, arith}
use Rattle.std.specs.Prelude.{slice_get, unwrap_or}
use Rattle.std.proofs.lemmas.Bool.Decides.{nat_tests}
use Rattle.vir_positional.specs.declared.weight_form.WeightForm.{WeightForm}
use Rattle.vir_positional.specs.declared.weight_form.WeightForm.TheVariants as form
use Rattle.vir_positional.specs.WeightLists.{falls_from, are_weights, last_weight}
use Rattle.vir_positional.specs.Weights.{weight_of, IsForm}

-- ---- lists that never rise
-- the weight at a place: past the end the last one
abbrev weight_at : ℕ → List ℕ → ℕ → ℕ
weight_at before [] i = before
weight_at before (w ∷ rest) zero = w
weight_at before (w ∷ rest) (suc i) = weight_at w rest i

last-cons : (w v : ℕ) (rest : List ℕ) → last_weight (w ∷ v ∷ rest) ≡ last_weight (v ∷ rest)
last-cons w v rest = let e : suc (suc (length rest)) - 1 ≡ suc (suc (length rest) - 1) = omega arith
    in ap (λ k. get_or (w ∷ v ∷ rest) k 0) e

listed_weight : (before : ℕ) (list : List ℕ) (i : ℕ) → 0 < length list → unwrap_or (slice_get list i) (last_weight list)
    ≡ weight_at before list i
listed_weight before [] i some = absurd (omega arith)
listed_weight before (w ∷ []) zero some = refl
listed_weight before (w ∷ []) (suc i) some = refl
listed_weight before (w ∷ v ∷ rest) zero some = refl
listed_weight before (w ∷ v ∷ rest) (suc i) some = ap (unwrap_or (slice_get (v ∷ rest) i)) (last-cons w v rest)
    ∙ listed_weight w (v ∷ rest) i (omega arith)

first_falls : (w before : ℕ) (b : Bool) → (nat_le w before && b) ≡ true → w ≤ before
first_falls w before b falls = grind (arith, nat_tests)

rest_falls : (a b : Bool) → (a && b) ≡ true → b ≡ true
rest_falls a b falls = grind arith

weight_at-le : (before : ℕ) (list : List ℕ) (i : ℕ) → falls_from before list ≡ true → weight_at before list i ≤ before
weight_at-le before [] i falls = omega arith
weight_at-le before (w ∷ rest) zero falls = first_falls w before (falls_from w rest) falls
weight_at-le before (w ∷ rest) (suc i) falls =
    let first = first_falls w before (falls_from w rest) falls in
    let later = weight_at-le w rest i (rest_falls _ _ falls) in
    omega arith

weight_at-falls : (before : ℕ) (list : List ℕ) (i j : ℕ) → falls_from before list ≡ true → i ≤ j → weight_at before list
    j ≤ weight_at before list i
weight_at-falls before [] i j falls after = omega arith
weight_at-falls before (w ∷ rest) zero zero falls after = omega arith
weight_at-falls before (w ∷ rest) zero (suc j) falls after = weight_at-le w rest j (rest_falls _ _ falls)
weight_at-falls before (w ∷ rest) (suc i) zero falls after = absurd (omega arith)
weight_at-falls before (w ∷ rest) (suc i) (suc j) falls after = weight_at-falls w rest i j (rest_falls _ _ falls)
    (omega arith)

some_weights : (list : List ℕ) → are_weights list ≡ true → 0 < length list
some_weights list are = step (length list) _ are
  where
    step : (n : ℕ) (b : Bool) → (nat_lt 0 n && b) ≡ true → 0 < n
    step n b h = grind (arith, nat_tests)

falling_weights : (list : List ℕ) → are_weights list ≡ true → falls_from 1000000 list ≡ true
falling_weights list are = rest_falls _ _ (rest_falls _ _ are)

-- ---- weights of a form
-- no weight is above 1,000,000, on up to 1,024 places
pub weight-le : (kept : WeightForm) → IsForm kept → (n i : ℕ) → n ≤ 1024 → weight_of kept i n ≤ 1000000
weight-le form.Plurality is n i few = step (nat_eq i 0)
  where
    step : (b : Bool) → cond b 1 0 ≤ 1000000
    step true = omega arith
    step false = omega arith
weight-le form.Borda is n i few = omega arith
weight-le (form.List list) is n i few = let same = listed_weight 1000000 list i (some_weights list is) in let most =
    weight_at-le 1000000 list i (falling_weights list is) in omega arith

-- no weight is greater than that of a place nearer the front
pub weight-falls : (kept : WeightForm) → IsForm kept → (n i j : ℕ) → i ≤ j → weight_of kept j n ≤ weight_of kept i n
weight-falls form.Plurality is n i j after = step (nat_eq i 0) (nat_eq j 0) (λ e. front i j after e)
  where
    front : (i j : ℕ) → i ≤ j → nat_eq j 0 ≡ true → nat_eq i 0 ≡ true
    front i j after e = grind (arith, nat_tests)

    step : (b c : Bool) → (c ≡ true → b ≡ true) → cond c 1 0 ≤ cond b 1 0
    step b c implied = grind arith
weight-falls form.Borda is n i j after = omega arith
weight-falls (form.List list) is n i j after =
    let one = listed_weight 1000000 list i (some_weights list is) in
    let other = listed_weight 1000000 list j (some_weights list is) in
    let fall = weight_at-falls 1000000 list i j (falling_weights list is) after in
    omega arith
