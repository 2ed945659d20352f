-- Which of two alternatives an order puts before the other.
use Rattle.std.proofs.Common.{◌≡◌, ℕ, zero, suc, ◌+◌, ◌<◌, ◌≤◌, Bool, true, false, cond, List, [], ◌∷◌, length}
use Rattle.std.proofs.Common.{get_or, nat_eq, nat_lt, refl, sym, ap, ap₂, ◌∙◌, arith, eqb-true, subst}
use Rattle.std.proofs.lemmas.Bool.Decides.{nat_tests}
use Rattle.std.specs.FinSet as set
use Rattle.vir_altset.specs.Sets.{all}
use Rattle.vir_profile.specs.Orders.{IsListing, puts_before, times}
use Rattle.vir_profile.proofs.OrderLaws.{listed_member, listed_once, member_of_all, range_of_member, times-cons}
use Rattle.vir_tables.specs.Additions.{AreAlternatives}
use Rattle.vir_tables.specs.Table.{IsAlternative}
use Rattle.vir_tables.proofs.Cells.{eq_itself}

-- ---- what an order lists
abbrev pub bit : Bool → ℕ
bit b = cond b 1 0

-- how often x stands in an order, by recursion
abbrev pub occurs : ℕ → List ℕ → ℕ
occurs x [] = 0
occurs x (y ∷ ys) = bit (nat_eq x y) + occurs x ys

turn : (x y : ℕ) → nat_eq y x ≡ nat_eq x y
turn x y = grind (arith, nat_tests)

times-occurs : (x : ℕ) (order : List ℕ) → times x order ≡ occurs x order
times-occurs x [] = refl
times-occurs x (y ∷ ys) = times-cons x y ys ∙ ap₂ (λ b n. bit b + n) (turn x y) (times-occurs x ys)

pub is_alternative : (m x : ℕ) → set.contains (all m) x ≡ true → IsAlternative m x
is_alternative m x h = let r = range_of_member m x h in record { low = r.0; high = r.1 }

pub occurs_once : (m : ℕ) (order : List ℕ) → IsListing (all m) order → (x : ℕ) → occurs x order ≤ 1
occurs_once m order lists x = let e = times-occurs x order in let one = listed_once (all m) order lists x in omega arith

pub occurs_each : (m : ℕ) (order : List ℕ) → IsListing (all m) order → (x : ℕ) → IsAlternative m x → occurs x order ≡ 1
occurs_each m order lists x r = sym (times-occurs x order) ∙ lists x ∙ ap bit (member_of_all m x (r.low, r.high))

pub occurs_at : (order : List ℕ) (i : ℕ) → i < length order → 0 < occurs (get_or order i 0) order
occurs_at [] i h = absurd (omega arith)
occurs_at (z ∷ order) zero h = let e = ap bit (eq_itself z) in omega arith
occurs_at (z ∷ order) (suc i) h = let k : 0 < occurs (get_or order i 0) order = occurs_at order i (omega arith)
    in omega arith

-- what an order of all alternatives lists are alternatives
pub listed_alternatives : (m : ℕ) (order : List ℕ) → IsListing (all m) order → AreAlternatives m order
listed_alternatives m order lists = record {
  each = λ i h. is_alternative m (get_or order i 0) (listed_member (all m) order lists _
      (let e = times-occurs (get_or order i 0) order in let some = occurs_at order i h in omega arith));
}

-- ---- what an order puts before what
-- no order puts an alternative before itself
pub puts_itself : (a : ℕ) (o : List ℕ) → puts_before a a o ≡ false
puts_itself a [] = refl
puts_itself a (z ∷ o) = step (nat_eq z a) (puts_before a a o) (puts_itself a o)
  where
    step : (c r : Bool) → r ≡ false → cond c false (cond c true r) ≡ false
    step c r h = grind arith

-- what stands further on isn't what stands in front
not_in_front : (y z q : ℕ) (o : List ℕ) → q < length o → get_or o q 0 ≡ y → occurs y (z ∷ o) ≤ 1 → nat_eq z y ≡ false
not_in_front y z q o h e one = step (nat_eq y z) (nat_eq z y) (occurs y o) one
    (subst (λ x. 0 < occurs x o) e (occurs_at o q h)) (turn y z)
  where
    step : (c d : Bool) (n : ℕ) → bit c + n ≤ 1 → 0 < n → d ≡ c → d ≡ false
    step c d n h k e = grind arith

in_front : (z y : ℕ) → z ≡ y → nat_eq z y ≡ true
in_front z y e = grind (arith, nat_tests)

lower_suc : (p q : ℕ) → nat_lt (suc p) (suc q) ≡ nat_lt p q
lower_suc p q = grind (arith, nat_tests)

lower_than_0 : (p : ℕ) → nat_lt p 0 ≡ false
lower_than_0 p = grind (arith, nat_tests)

zero_lower : (q : ℕ) → nat_lt 0 (suc q) ≡ true
zero_lower q = grind (arith, nat_tests)

-- an order puts before what stands at a lower place
pub lower_is_before : (x y p q : ℕ) (o : List ℕ) → p < length o → q < length o → get_or o p 0 ≡ x → get_or o q 0 ≡ y
    → occurs x o ≤ 1 → occurs y o ≤ 1 → nat_lt p q ≡ puts_before x y o
lower_is_before x y p q [] hp hq px qy ox oy = absurd (omega arith)
lower_is_before x y p zero (z ∷ o) hp hq px qy ox oy = lower_than_0 p ∙ sym (ap (λ c. cond c false (cond (nat_eq z x)
    true (puts_before x y o))) (in_front z y qy))
lower_is_before x y zero (suc q) (z ∷ o) hp hq px qy ox oy =
    zero_lower q ∙ sym (ap₂ (λ c d. cond c false (cond d true (puts_before x y o)))
    (not_in_front y z q o (omega arith) qy oy) (in_front z x px))
lower_is_before x y (suc p) (suc q) (z ∷ o) hp hq px qy ox oy =
    lower_suc p q
    ∙ lower_is_before x y p q o (omega arith) (omega arith) px qy (omega arith) (omega arith)
    ∙ sym (ap₂ (λ c d. cond c false (cond d true (puts_before x y o)))
    (not_in_front y z q o (omega arith) qy oy) (not_in_front x z p o (omega arith) px ox))

-- what a test of both ends tells
pub member_of_range : (m x : ℕ) → 1 ≤ x → x ≤ m → set.contains (all m) x ≡ true
member_of_range m x low high = member_of_all m x (low, high)

-- where an alternative stands
pub record StandsAt (x : ℕ) (o : List ℕ) : Type 0 where
  pub place : ℕ
  pub within : place < length o
  pub here : get_or o place 0 ≡ x

stands_at : (x : ℕ) (o : List ℕ) → 0 < occurs x o → StandsAt x o
stands_at x [] h = absurd (omega arith)
stands_at x (z ∷ o) h = elim (nat_eq x z) as (λ c. nat_eq x z ≡ c → 0 < bit c + occurs x o → StandsAt x (z ∷ o)) [
  | true ↦ λ e k. record { place = 0; within = omega arith; here = sym (eqb-true x z e) }
  | false ↦ λ e k. let r = stands_at x o (omega arith)
      in record { place = suc r.place; within = let w = r.within in omega arith; here = r.here }
] refl h

pub each_stands : (m x : ℕ) (o : List ℕ) → IsListing (all m) o → IsAlternative m x → StandsAt x o
each_stands m x o lists hx = stands_at x o (let e = occurs_each m o lists x hx in omega arith)
