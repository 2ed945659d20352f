-- Which of two alternatives an order has first.
use Rattle.std.proofs.Common.{◌≡◌, ℕ, Bool, true, false, cond, ◌||◌, List, [], ◌∷◌, ◌++◌, nat_eq, Option, Some, None}
use Rattle.std.proofs.Common.{refl, sym, ap, ◌∙◌, arith, subst}
use Rattle.std.proofs.lemmas.Bool.Decides.{nat_tests}
use Rattle.std.specs.List.{find, list_any}
use Rattle.vir_profile.specs.Orders.{puts_before}
use Rattle.vir_tables.specs.Pairs.{is_one_of}
use Rattle.vir_tables.proofs.FirstPlaces.{is_at}

-- where none passes in front, the first one is further on
pub find-behind : (t : ℕ → Bool) (front behind : List ℕ) → list_any t front ≡ false → find t (front ++ behind)
    ≡ find t behind
find-behind t [] behind none = refl
find-behind t (z ∷ front) behind none = step (t z) (list_any t front) none (find-behind t front behind)
  where
    step : (b c : Bool) → (b || c) ≡ false → (c ≡ false → find t (front ++ behind) ≡ find t behind)
        → cond b (Some z) (find t (front ++ behind)) ≡ find t behind
    step true c h later = absurd cc
    step false c h later = later h

-- one is the first of the two where it is before the other
pub puts_before-find : (x y : ℕ) (order : List ℕ) → nat_eq x y ≡ false → puts_before x y order
    ≡ is_at x (find (is_one_of x y) order)
puts_before-find x y [] apart = refl
puts_before-find x y (z ∷ order) apart =
    step (nat_eq z x) (nat_eq z y) refl refl (puts_before-find x y order apart)
  where
    step : (b c : Bool) → nat_eq z x ≡ b → nat_eq z y ≡ c
        → puts_before x y order ≡ is_at x (find (is_one_of x y) order)
        → cond c false (cond b true (puts_before x y order))
        ≡ is_at x (cond (b || c) (Some z) (find (is_one_of x y) order))
    step true true e f later = grind (arith, nat_tests)
    step true false e f later = sym e
    step false true e f later = sym e
    step false false e f later = later

-- a test of two, whichever is named first
pub is_one_of-turned : (x y z : ℕ) → is_one_of x y z ≡ is_one_of y x z
is_one_of-turned x y z = grind arith

pub puts_before-find_second : (x y : ℕ) (order : List ℕ) → nat_eq x y ≡ false → puts_before y x order
    ≡ is_at y (find (is_one_of x y) order)
puts_before-find_second x y order apart =
    puts_before-find y x order turned ∙ (λ i. is_at y (find (λ z. is_one_of-turned y x z i) order))
  where
    turned : nat_eq y x ≡ false
    turned = grind (arith, nat_tests)

-- what is found passes
pub found_passes : (t : ℕ → Bool) (order : List ℕ) (z : ℕ) → find t order ≡ Some z → t z ≡ true
found_passes t [] z h = absurd cc
found_passes t (y ∷ order) z h = step (t y) refl (found_passes t order z) h
  where
    step : (b : Bool) → t y ≡ b → (find t order ≡ Some z → t z ≡ true) → cond b (Some y) (find t order) ≡ Some z
        → t z ≡ true
    step true e later h = subst (λ u. t u ≡ true) (cc h) e
    step false e later h = later h

-- ---- the weights of a line for the one and for the other
module _ (x y w : ℕ) (order : List ℕ) (apart : nat_eq x y ≡ false) where
  abbrev pub weights : ℕ × ℕ
  weights = (cond (puts_before x y order) w 0, cond (puts_before y x order) w 0)

  by_found : (found : Option ℕ) → find (is_one_of x y) order ≡ found → weights
      ≡ (cond (is_at x found) w 0, cond (is_at y found) w 0)
  by_found found e =
      let first : puts_before x y order ≡ is_at x found = puts_before-find x y order apart ∙ ap (is_at x) e in
      let second : puts_before y x order ≡ is_at y found =
      puts_before-find_second x y order apart ∙ ap (is_at y) e in
      rw (first, second) refl

  pub weights-first : (z : ℕ) → find (is_one_of x y) order ≡ Some z → z ≡ x → weights ≡ (w, 0)
  weights-first z e is =
      let same : nat_eq z x ≡ true = grind (arith, nat_tests) in
      let other : nat_eq z y ≡ false = grind (arith, nat_tests) in
      by_found (Some z) e ∙ rw (same, other) refl

  pub weights-second : (z : ℕ) → find (is_one_of x y) order ≡ Some z → (z ≡ x → ⊥) → weights ≡ (0, w)
  weights-second z e other =
      let none : nat_eq z x ≡ false = grind (arith, nat_tests) in
      let passes = found_passes (is_one_of x y) order z e in
      by_found (Some z) e ∙ rw (none, second (nat_eq z x) (nat_eq z y) none passes) refl
    where
      second : (b c : Bool) → b ≡ false → (b || c) ≡ true → c ≡ true
      second true c h k = absurd cc
      second false c h k = k

  pub weights-none : find (is_one_of x y) order ≡ None → weights ≡ (0, 0)
  weights-none e = by_found None e
