-- Members with values above the average and below it.
use Rattle.std.proofs.Common.{◌≡◌, ◌≢◌, ℕ, suc, ◌+◌, ◌-◌, ◌<◌, ◌≤◌, Bool, true, false, cond, nat_eq, List, [], ◌∷◌, map}
use Rattle.std.proofs.Common.{refl, sym, ap, ◌∙◌, subst, arith, eqb-true, pos, ℤ, ◌+ℤ◌, ◌*ℤ◌, ◌<ℤ◌, ◌≤ℤ◌}
use Rattle.std.proofs.Math.IntN.{*ℤ_comm, *ℤ-zero, suc_ℤ-*ℤ}
use Rattle.std.proofs.lemmas.Bool.Decides.{nat_tests}
use Rattle.std.proofs.lemmas.Int.{ints, by_lt_z}
use Rattle.std.specs.FinSet as set
use Rattle.vir_altset.specs.Sets.{Set}
use Rattle.vir_altset.specs.SetLaws.{contains-remove}
use Rattle.vir_altset.specs.Splits.{bit}
use Rattle.vir_altset.proofs.SizeLaws.{HasMember, len-remove, member_of_len}
use Rattle.vir_mean.specs.Listings.{listed, total}
use Rattle.vir_mean.specs.Eliminators.{sum, sum_of, scaled}
use Rattle.vir_mean.proofs.MemberCounts.{often, at_head}
use Rattle.vir_mean.proofs.MemberSums.{member_of_listed, often-listed_member, len-listed}

-- ---- sums
sum-le : (f g : ℕ → ℤ) (list : List ℕ) → ((x : ℕ) → 0 < often x list → f x ≤ℤ g x) → sum (map f list) ≤ℤ sum
    (map g list)
sum-le f g [] under = omega (arith, ints)
sum-le f g (x ∷ rest) under =
    let here = under x (at_head x rest) in
    let later = sum-le f g rest (λ y some. under y (omega arith)) in
    omega (arith, ints)

sum-lt : (f g : ℕ → ℤ) (list : List ℕ) (w : ℕ) → 0 < often w list → ((x : ℕ) → 0 < often x list → f x ≤ℤ g x)
    → f w <ℤ g w → sum (map f list) <ℤ sum (map g list)
sum-lt f g [] w some under less = absurd (omega arith)
sum-lt f g (x ∷ rest) w some under less = elim (nat_eq w x) as (λ b. nat_eq w x ≡ b → sum (map f (x ∷ rest)) <ℤ sum
    (map g (x ∷ rest))) [
      | true ↦ λ e.
          let here : f x <ℤ g x = subst (λ z. f z <ℤ g z) (eqb-true w x e) less in
          let later = sum-le f g rest (λ y more. under y (omega arith)) in
          omega (arith, ints)
      | false ↦ λ e.
          let here = under x (at_head x rest) in
          let there = in_rest (nat_eq w x) (often w rest) e some in
          let later = sum-lt f g rest w there (λ y more. under y (omega arith)) less in
          omega (arith, ints)
    ] refl
  where
    in_rest : (b : Bool) (n : ℕ) → b ≡ false → 0 < bit b + n → 0 < n
    in_rest b n apart some = grind arith

-- a number once more
once_more : (v : ℤ) (n : ℕ) → v *ℤ pos (1 + n) ≡ v +ℤ v *ℤ pos n
once_more v n =
    let one : 1 + n ≡ suc n = omega arith in
    let turned = *ℤ_comm v (pos n) in
    ap (λ k. v *ℤ pos k) one ∙ *ℤ_comm v (pos (suc n)) ∙ suc_ℤ-*ℤ (pos n) v ∙ (omega (arith, ints))

sum-constant : (v : ℤ) (list : List ℕ) → sum (map (λ x. v) list) ≡ v *ℤ pos (total (λ x. 1) list)
sum-constant v [] = sym (*ℤ-zero v)
sum-constant v (x ∷ rest) = ap (λ z. v +ℤ z) (sum-constant v rest) ∙ sym (once_more v (total (λ x. 1) rest))

-- what is compared with the sum, as a sum
scaled-sum : (f : ℕ → ℤ) (a : Set) (x : ℕ) → sum (map (λ y. f x) (listed a)) ≡ scaled f a x
scaled-sum f a x = sum-constant (f x) (listed a) ∙ ap (λ n. f x *ℤ pos n) (sym (len-listed a))

-- ---- a member with the least value
pub record LowIn (f : ℕ → ℤ) (list : List ℕ) : Type 0 where
  pub one : ℕ
  pub listed : 0 < often one list
  pub low : (x : ℕ) → 0 < often x list → f one ≤ℤ f x

low_in : (f : ℕ → ℤ) (x : ℕ) (rest : List ℕ) → LowIn f (x ∷ rest)
low_in f x [] =
    record { one = x; listed = at_head x []; low = λ y some. only (nat_eq y x) (λ e. ap f (eqb-true y x e)) some }
  where
    only : (b : Bool) {u v : ℤ} → (b ≡ true → u ≡ v) → 0 < bit b + 0 → v ≤ℤ u
    only true same some = let is = same refl in omega (arith, ints)
    only false same some = absurd (omega arith)
low_in f x (y ∷ rest) = more (low_in f y rest)
  where
    either : (b : Bool) (n : ℕ) {u v z : ℤ} → (b ≡ true → u ≡ v) → z ≤ℤ v → (0 < n → z ≤ℤ u) → 0 < bit b + n → z ≤ℤ u
    either true n same first later some = let is = same refl in omega (arith, ints)
    either false n same first later some = later (omega arith)

    more : LowIn f (y ∷ rest) → LowIn f (x ∷ y ∷ rest)
    more before = by_lt_z (f x) (f before.one)
        (λ less. record {
          one = x;
          listed = at_head x (y ∷ rest);
          low = λ z some. either (nat_eq z x) (often z (y ∷ rest)) (λ e. ap f (eqb-true z x e)) (omega (arith, ints))
              (λ later. let low = before.low z later in omega (arith, ints)) some;
        })
        (λ same. record {
          one = before.one;
          listed = (let some = before.listed in omega arith);
          low = λ z some. either (nat_eq z x) (often z (y ∷ rest)) (λ e. ap f (eqb-true z x e)) same (before.low z)
              some;
        })

pub record LowMember (f : ℕ → ℤ) (a : Set) : Type 0 where
  pub one : ℕ
  pub member : set.contains a one ≡ true
  pub low : (x : ℕ) → set.contains a x ≡ true → f one ≤ℤ f x

in_listed : (a : Set) (x : ℕ) → set.contains a x ≡ true → 0 < often x (listed a)
in_listed a x member = let once = often-listed_member a x member in omega arith

pub low_member : (f : ℕ → ℤ) (a : Set) (w : ℕ) → set.contains a w ≡ true → LowMember f a
low_member f a w member = some (listed a) (in_listed a w member) (member_of_listed a) (in_listed a)
  where
    some : (list : List ℕ) → 0 < often w list → ((x : ℕ) → 0 < often x list → set.contains a x ≡ true)
        → ((x : ℕ) → set.contains a x ≡ true → 0 < often x list) → LowMember f a
    some [] stands inside all = absurd (omega arith)
    some (x ∷ rest) stands inside all = let least = low_in f x rest
        in record { one = least.one; member = inside least.one least.listed; low = λ y is. least.low y (all y is) }

-- ---- the average
-- a member with a value above all others' is above the average
pub leader_above : (f : ℕ → ℤ) (a : Set) (w : ℕ) → set.contains a w ≡ true → 2 ≤ set.len a
    → ((y : ℕ) → set.contains a y ≡ true → y ≢ w → f y <ℤ f w) → sum_of f a <ℤ scaled f a w
leader_above f a w member two leads =
    subst (λ z. sum_of f a <ℤ z) (scaled-sum f a w)
    (sum-lt f (λ x. f w) (listed a) other.one (in_listed a other.one inside.1)
    (λ x some. under x (member_of_listed a x some)) (leads other.one inside.1 (eq_apart other.one w inside.0)))
  where
    other : HasMember (set.remove a w)
    other = member_of_len (set.remove a w) (set.len a - 2) (let less = len-remove a w
        ∙ ap (λ b. cond b (set.len a - 1) (set.len a)) member in omega arith)

    apart : (x : ℕ) → set.contains (set.remove a w) x ≡ true → (nat_eq x w ≡ false) × (set.contains a x ≡ true)
    apart x is = (grind (arith, nat_tests, contains-remove), grind (arith, nat_tests, contains-remove))

    inside : (nat_eq other.one w ≡ false) × (set.contains a other.one ≡ true)
    inside = apart other.one other.member

    eq_apart : (x y : ℕ) → nat_eq x y ≡ false → x ≢ y
    eq_apart x y e = grind (arith, nat_tests)

    under : (x : ℕ) → set.contains a x ≡ true → f x ≤ℤ f w
    under x is = elim (nat_eq x w) as (λ b. nat_eq x w ≡ b → f x ≤ℤ f w) [
      | true ↦ λ e. let same = ap f (eqb-true x w e) in omega (arith, ints)
      | false ↦ λ e. let less = leads x is (eq_apart x w e) in omega (arith, ints)
    ] refl

module _ (f : ℕ → ℤ) (a : Set) (w : ℕ) (member : set.contains a w ≡ true) (above : sum_of f a <ℤ scaled f a w)
    (least : LowMember f a) where
  -- where a member is above the average, it isn't the least
  pub low_less : f least.one <ℤ f w
  low_less = by_lt_z (f least.one) (f w) (λ less. less) (λ level.
      let under = sum-le (λ x. f w) f (listed a) (λ x some. let low = least.low x (member_of_listed a x some)
      in omega (arith, ints)) in
      let same = scaled-sum f a w in
      absurd (omega (arith, ints)))

  -- and the least is below the average
  pub low_below : scaled f a least.one <ℤ sum_of f a
  low_below = subst (λ z. z <ℤ sum_of f a) (scaled-sum f a least.one)
      (sum-lt (λ x. f least.one) f (listed a) w (in_listed a w member)
      (λ x some. least.low x (member_of_listed a x some)) low_less)
