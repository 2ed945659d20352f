-- How many voters put one alternative before another, and how many put it after.
use Rattle.std.proofs.Common.{◌≡◌, ℕ, ◌+◌, ◌≤◌, Bool, true, false, cond, List, [], ◌∷◌, nat_eq, refl, ap, ◌∙◌, arith}
use Rattle.std.proofs.lemmas.Bool.Decides.{nat_tests}
use Rattle.std.proofs.lemmas.List.Elements.{All-head, All-tail}
use Rattle.std.proofs.lemmas.List.Sums.{sum_by-cons}
use Rattle.std.specs.FinSet as set
use Rattle.vir_altset.specs.Sets.{Set}
use Rattle.vir_altset.specs.Splits.{bit}
use Rattle.vir_profile.specs.declared.ballot.Entry.{Entry}
use Rattle.vir_profile.specs.Orders.{times, IsListing, puts_before}
use Rattle.vir_profile.specs.Profiles.{IsProfileOn, total_weight, pairwise_weight}
use Rattle.vir_profile.proofs.OrderLaws.{times-cons}

-- an order with x in it puts one of x and y before the other, and not both
pub puts_before-one : (x y : ℕ) → nat_eq x y ≡ false → (order : List ℕ) → 1 ≤ times x order
    → bit (puts_before x y order) + bit (puts_before y x order) ≡ 1
puts_before-one x y apart [] some = absurd (omega arith)
puts_before-one x y apart (z ∷ rest) some =
    let sum = times-cons x z rest in
    step (nat_eq z x) (nat_eq z y) (puts_before x y rest) (puts_before y x rest) (times x rest) (not_both x y z apart)
    (omega arith) (puts_before-one x y apart rest)
  where
    not_both : (x y z : ℕ) → nat_eq x y ≡ false → nat_eq z x ≡ true → nat_eq z y ≡ false
    not_both x y z apart is_x = grind (arith, nat_tests)

    step : (is_x is_y first second : Bool) (t : ℕ) → (is_x ≡ true → is_y ≡ false) → 1 ≤ cond is_x 1 0 + t
        → (1 ≤ t → bit first + bit second ≡ 1)
        → bit (cond is_y false (cond is_x true first)) + bit (cond is_x false (cond is_y true second)) ≡ 1
    step is_x is_y first second t not_both some rest = grind arith

-- of two alternatives, one of which is in the set, each voter puts one before the other
pub pairwise_weight-both : (a : Set) (x y : ℕ) → nat_eq x y ≡ false → set.contains a x ≡ true → (lines : List Entry)
    → IsProfileOn a lines
    → pairwise_weight lines x y + pairwise_weight lines y x ≡ total_weight lines
pairwise_weight-both a x y apart member [] on = refl
pairwise_weight-both a x y apart member (line ∷ rest) on =
    let first = All-head (λ line. IsListing a line.order) line rest on x ∙ ap (λ b. cond b 1 0) member in
    let one = puts_before-one x y apart line.order (omega arith) in
    let later = pairwise_weight-both a x y apart member rest (All-tail (λ line. IsListing a line.order) line rest on) in
    let before = sum_by-cons (λ (line : Entry). cond (puts_before x y line.order) line.weight 0) line rest in
    let after = sum_by-cons (λ (line : Entry). cond (puts_before y x line.order) line.weight 0) line rest in
    let all = sum_by-cons (λ (line : Entry). line.weight) line rest in
    let here = step (puts_before x y line.order) (puts_before y x line.order) line.weight one in
    omega arith
  where
    step : (b c : Bool) (w : ℕ) → bit b + bit c ≡ 1 → cond b w 0 + cond c w 0 ≡ w
    step b c w one = grind arith
