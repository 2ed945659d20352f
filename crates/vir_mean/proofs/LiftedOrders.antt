-- What an order says of alternatives, by where a lifted one stands and by the order without it.
use Rattle.std.proofs.Common.{◌≡◌, ℕ, suc, ◌+◌, ◌<◌, ◌≤◌, Bool, true, false, cond, not, ◌&&◌, nat_eq, nat_lt, List, []}
use Rattle.std.proofs.Common.{◌∷◌, refl, sym, ap, ◌∙◌, subst, arith, eqb-true}
use Rattle.std.proofs.lemmas.Bool.Decides.{nat_tests}
use Rattle.std.specs.FinSet as set
use Rattle.vir_altset.specs.Sets.{Set}
use Rattle.vir_altset.specs.Splits.{bit}
use Rattle.vir_profile.specs.declared.ballot.Entry.{Entry}
use Rattle.vir_profile.specs.Orders.{times, IsListing, puts_before, begins_with}
use Rattle.vir_profile.proofs.OrderLaws.{times-cons}
use Rattle.vir_mean.specs.FixedOrders.{place}
use Rattle.vir_mean.specs.Lifts.{without, Raises}

-- x against y, where neither is a: by the order without a
puts_before-without : (a x y : ℕ) → nat_eq a x ≡ false → nat_eq a y ≡ false → (order : List ℕ) → puts_before x y order
    ≡ puts_before x y (without a order)
puts_before-without a x y not_x not_y [] = refl
puts_before-without a x y not_x not_y (z ∷ rest) = step (puts_before x y rest) (without a rest)
    (puts_before-without a x y not_x not_y rest)
  where
    step : (b : Bool) (others : List ℕ) → b ≡ puts_before x y others
        → cond (nat_eq z y) false (cond (nat_eq z x) true b)
        ≡ puts_before x y (cond (not (nat_eq a z)) (z ∷ others) others)
    step b others is = grind (arith, nat_tests)

-- x against a: by the two places
puts_before-lifted : (a x : ℕ) → nat_eq a x ≡ false → (order : List ℕ) → puts_before x a order
    ≡ nat_lt (place x (without a order)) (place a order)
puts_before-lifted a x apart [] = refl
puts_before-lifted a x apart (z ∷ rest) = step (puts_before x a rest) (place a rest) (without a rest)
    (puts_before-lifted a x apart rest)
  where
    step : (b : Bool) (m : ℕ) (others : List ℕ) → b ≡ nat_lt (place x others) m
        → cond (nat_eq z a) false (cond (nat_eq z x) true b)
        ≡ nat_lt (place x (cond (not (nat_eq a z)) (z ∷ others) others)) (cond (nat_eq a z) 0 (suc m))
    step b m others is = grind (arith, nat_tests)

-- a against y, where a stands in the order
lifted-puts_before : (a y : ℕ) → nat_eq a y ≡ false → (order : List ℕ) → 0 < times a order → puts_before a y order
    ≡ nat_lt (place a order) (suc (place y (without a order)))
lifted-puts_before a y apart [] some = absurd (omega arith)
lifted-puts_before a y apart (z ∷ rest) some =
    step (puts_before a y rest) (place a rest) (times a rest) (without a rest) (subst (λ n. 0 < n) (times-cons a z rest)
    some) (lifted-puts_before a y apart rest)
  where
    step : (b : Bool) (m t : ℕ) (others : List ℕ) → 0 < cond (nat_eq z a) 1 0 + t
        → (0 < t → b ≡ nat_lt m (suc (place y others)))
        → cond (nat_eq z y) false (cond (nat_eq z a) true b) ≡ nat_lt (cond (nat_eq a z) 0 (suc m))
        (suc (place y (cond (not (nat_eq a z)) (z ∷ others) others)))
    step b m t others some is = grind (arith, nat_tests)

-- an order with a begins with it, where none stands before a
begins_with-lifted : (a : ℕ) (order : List ℕ) → 0 < times a order → begins_with a order ≡ nat_eq (place a order) 0
begins_with-lifted a [] some = absurd (omega arith)
begins_with-lifted a (z ∷ rest) some = step (place a rest)
  where
    step : (m : ℕ) → nat_eq z a ≡ nat_eq (cond (nat_eq a z) 0 (suc m)) 0
    step m = grind (arith, nat_tests)

-- and with another, where some stand before a, and without a it begins with that one
begins_with-without : (a x : ℕ) → nat_eq a x ≡ false → (order : List ℕ) → begins_with x order
    ≡ (not (nat_eq (place a order) 0) && begins_with x (without a order))
begins_with-without a x apart [] = refl
begins_with-without a x apart (z ∷ rest) = step (place a rest) (without a rest)
  where
    step : (m : ℕ) (others : List ℕ) → nat_eq z x ≡ (not (nat_eq (cond (nat_eq a z) 0 (suc m)) 0)
        && begins_with x (cond (not (nat_eq a z)) (z ∷ others) others))
    step m others = grind (arith, nat_tests)

-- nothing is put before itself
pub puts_before-itself : (x : ℕ) (order : List ℕ) → puts_before x x order ≡ false
puts_before-itself x [] = refl
puts_before-itself x (z ∷ rest) = step (nat_eq z x) (puts_before x x rest) (puts_before-itself x rest)
  where
    step : (b c : Bool) → c ≡ false → cond b false (cond b true c) ≡ false
    step b c is = grind arith

-- ---- a line that is lifted
module _ (a : Set) (x : ℕ) (inside : set.contains a x ≡ true) where
  stands : (order : List ℕ) → IsListing a order → 0 < times x order
  stands order lists = let is = lists x ∙ ap (λ b. cond b 1 0) inside in omega arith

  module _ (before after : Entry) (on : IsListing a before.order) (on_after : IsListing a after.order)
      (raised : Raises x before after) where
    abbrev rest : List ℕ
    rest = without x before.order

    -- what is said of the line after by the order without x, said by that of the line before
    by_rest : {B : Type 0} (tell : List ℕ → B) (b : B) → b ≡ tell (without x after.order) → b ≡ tell rest
    by_rest tell b is = is ∙ ap tell (sym raised.agrees.others)

    first_before : begins_with x before.order ≡ nat_eq (place x before.order) 0
    first_before = begins_with-lifted x before.order (stands before.order on)

    first_after : begins_with x after.order ≡ nat_eq (place x after.order) 0
    first_after = begins_with-lifted x after.order (stands after.order on_after)

    other_after : (y : ℕ) → nat_eq x y ≡ false → begins_with y after.order ≡ (not (nat_eq (place x after.order) 0)
        && begins_with y rest)
    other_after y apart = by_rest (λ order. not (nat_eq (place x after.order) 0) && begins_with y order) _
        (begins_with-without x y apart after.order)

    pub line_begins : bit (begins_with x before.order) ≤ bit (begins_with x after.order)
    line_begins = step _ _ _ _ first_before first_after raised.nearer
      where
        step : (b c : Bool) (m n : ℕ) → b ≡ nat_eq m 0 → c ≡ nat_eq n 0 → n ≤ m → bit b ≤ bit c
        step b c m n e f h = grind (arith, nat_tests)

    pub line_begins_no_more : (y : ℕ) → nat_eq x y ≡ false → bit (begins_with y after.order) ≤ bit
        (begins_with y before.order)
    line_begins_no_more y apart = step _ _ _ _ _ (begins_with-without x y apart before.order) (other_after y apart)
        raised.nearer
      where
        step : (b c d : Bool) (m n : ℕ) → b ≡ (not (nat_eq m 0) && d) → c ≡ (not (nat_eq n 0) && d) → n ≤ m
            → bit c ≤ bit b
        step b c d m n e f h = grind (arith, nat_tests)

    -- where it doesn't begin with y any more, it begins with x
    pub line_begins_with_either : (y : ℕ) → nat_eq x y ≡ false → bit (begins_with x before.order)
        + bit (begins_with y before.order) ≤ bit (begins_with x after.order) + bit (begins_with y after.order)
    line_begins_with_either y apart = step _ _ _ _ _ _ _ first_before first_after
        (begins_with-without x y apart before.order) (other_after y apart) raised.nearer
      where
        step : (u v b c d : Bool) (m n : ℕ) → u ≡ nat_eq m 0 → v ≡ nat_eq n 0 → b ≡ (not (nat_eq m 0) && d) → c
            ≡ (not (nat_eq n 0) && d) → n ≤ m → bit u + bit b ≤ bit v + bit c
        step u v b c d m n is_u is_v e f h = grind (arith, nat_tests)

    against_before : (y : ℕ) → nat_eq x y ≡ false → puts_before x y before.order ≡ nat_lt (place x before.order)
        (suc (place y rest))
    against_before y apart = lifted-puts_before x y apart before.order (stands before.order on)

    against_after : (y : ℕ) → nat_eq x y ≡ false → puts_before x y after.order ≡ nat_lt (place x after.order)
        (suc (place y rest))
    against_after y apart = by_rest (λ order. nat_lt (place x after.order) (suc (place y order))) _
        (lifted-puts_before x y apart after.order (stands after.order on_after))

    for_after : (y : ℕ) → nat_eq x y ≡ false → puts_before y x after.order ≡ nat_lt (place y rest) (place x after.order)
    for_after y apart = by_rest (λ order. nat_lt (place y order) (place x after.order)) _
        (puts_before-lifted x y apart after.order)

    -- nothing loses against another than x
    pub line_puts_before : (y : ℕ) → nat_eq x y ≡ false → (z : ℕ) → bit (puts_before z y before.order) ≤ bit
        (puts_before z y after.order)
    line_puts_before y apart z = elim (nat_eq x z) as (λ b. nat_eq x z ≡ b → bit (puts_before z y before.order) ≤ bit
        (puts_before z y after.order)) [
          | true ↦ λ e. subst (λ z. bit (puts_before z y before.order) ≤ bit (puts_before z y after.order))
              (eqb-true x z e)
              (step _ _ _ _ _ (against_before y apart) (against_after y apart) raised.nearer)
          | false ↦ λ e. same _ _ (puts_before-without x z y e apart before.order
              ∙ sym (by_rest (puts_before z y) _ (puts_before-without x z y e apart after.order)))
        ] refl
      where
        step : (b c : Bool) (m n k : ℕ) → b ≡ nat_lt m (suc k) → c ≡ nat_lt n (suc k) → n ≤ m → bit b ≤ bit c
        step b c m n k e f h = grind (arith, nat_tests)

        same : (b c : Bool) → b ≡ c → bit b ≤ bit c
        same b c e = grind arith

    -- and another than x wins against nothing
    pub line_puts_no_more_before : (y : ℕ) → nat_eq x y ≡ false → (z : ℕ) → bit (puts_before y z after.order) ≤ bit
        (puts_before y z before.order)
    line_puts_no_more_before y apart z = elim (nat_eq x z) as (λ b. nat_eq x z ≡ b → bit (puts_before y z after.order) ≤
        bit (puts_before y z before.order)) [
          | true ↦ λ e. subst (λ z. bit (puts_before y z after.order) ≤ bit (puts_before y z before.order))
              (eqb-true x z e)
              (step _ _ _ _ _ (puts_before-lifted x y apart before.order) (for_after y apart) raised.nearer)
          | false ↦ λ e. same _ _ (by_rest (puts_before y z) _ (puts_before-without x y z apart e after.order)
              ∙ sym (puts_before-without x y z apart e before.order))
        ] refl
      where
        step : (b c : Bool) (m n k : ℕ) → b ≡ nat_lt k m → c ≡ nat_lt k n → n ≤ m → bit c ≤ bit b
        step b c m n k e f h = grind (arith, nat_tests)

        same : (b c : Bool) → b ≡ c → bit b ≤ bit c
        same b c e = grind arith

    -- either x stands before y or y before x
    pub line_puts_either : (y : ℕ) → nat_eq x y ≡ false → bit (puts_before x y before.order)
        + bit (puts_before y x before.order) ≤ bit (puts_before x y after.order) + bit (puts_before y x after.order)
    line_puts_either y apart = step _ _ _ _ _ _ _ (against_before y apart) (puts_before-lifted x y apart before.order)
        (against_after y apart) (for_after y apart)
      where
        step : (b c d e : Bool) (m n k : ℕ) → b ≡ nat_lt m (suc k) → c ≡ nat_lt k m → d ≡ nat_lt n (suc k) → e
            ≡ nat_lt k n → bit b + bit c ≤ bit d + bit e
        step b c d e m n k is_b is_c is_d is_e = grind (arith, nat_tests)
