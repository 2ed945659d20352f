-- Whom an eliminator rejects under a lift: where the lifted member goes after it, it went before, and where all
-- went before, it goes with all or not at all.
use Rattle.std.proofs.Common.{◌≡◌, ℕ, ◌+◌, ◌<◌, Bool, true, false, true≢false, not, nat_eq, List, [], ◌∷◌, map, sym, ap}
use Rattle.std.proofs.Common.{◌∙◌, subst, refl, arith, eqb-true, ℤ, pos, ◌+ℤ◌, ◌*ℤ◌, ◌≤ℤ◌, ◌<ℤ◌, int_lt, int_le}
use Rattle.std.proofs.lemmas.Int.{ints}
use Rattle.std.specs.FinSet as set
use Rattle.vir_altset.specs.Sets.{Set}
use Rattle.vir_altset.specs.Splits.{bit}
use Rattle.vir_mean.specs.declared.elimination.Elimination.{Elimination}
use Rattle.vir_mean.specs.declared.elimination.Elimination.TheVariants.{Max, Min, Below, Upto}
use Rattle.vir_mean.specs.Eliminators.{sum, sum_of, is_least, scaled, goes}
use Rattle.vir_mean.specs.Listings.{listed, total}
use Rattle.vir_mean.proofs.MemberCounts.{often, often-listed, at_head, total_same, len_within}
use Rattle.vir_mean.proofs.Leaders.{list_any-none, list_any-each, itself, not_less, test_not_less, less_of, test_less}
use Rattle.vir_mean.proofs.Leaders.{Leads, leads_of_test, test_of_leads, Leader, leader_of, other_than, IsLift}
use Rattle.vir_mean.proofs.Leaders.{leads_still}

-- ---- sums of whole numbers
abbrev sums : (ℕ → ℤ) → List ℕ → ℤ
sums f list = sum (map f list)

sums-no_less : (f g : ℕ → ℤ) (list : List ℕ) → ((y : ℕ) → 0 < often y list → f y ≤ℤ g y) → sums f list ≤ℤ sums g list
sums-no_less f g [] each = omega (arith, ints)
sums-no_less f g (y ∷ rest) each = step (f y) (g y) (sums f rest) (sums g rest) (each y (at_head y rest))
    (sums-no_less f g rest (λ z some. each z (omega arith)))
  where
    step : (u v m n : ℤ) → u ≤ℤ v → m ≤ℤ n → (u +ℤ m) ≤ℤ (v +ℤ n)
    step u v m n first more = omega (arith, ints)

sums-greater : (f g : ℕ → ℤ) (list : List ℕ) (x : ℕ) → ((y : ℕ) → 0 < often y list → f y ≤ℤ g y) → 0 < often x list
    → f x <ℤ g x → sums f list <ℤ sums g list
sums-greater f g [] x each some greater = absurd (omega arith)
sums-greater f g (y ∷ rest) x each some greater = elim (nat_eq x y) as (λ b. nat_eq x y ≡ b → sums f (y ∷ rest) <ℤ sums
    g (y ∷ rest)) [
      | true ↦ λ e. first (f y) (g y) (sums f rest) (sums g rest) (subst (λ z. f z <ℤ g z) (eqb-true x y e) greater)
          (sums-no_less f g rest (λ z some. each z (omega arith)))
      | false ↦ λ e. later (f y) (g y) (sums f rest) (sums g rest) (each y (at_head y rest))
          (sums-greater f g rest x (λ z some. each z (omega arith)) (let here = ap bit e in omega arith) greater)
    ] refl
  where
    first : (u v m n : ℤ) → u <ℤ v → m ≤ℤ n → (u +ℤ m) <ℤ (v +ℤ n)
    first u v m n less more = omega (arith, ints)

    later : (u v m n : ℤ) → u ≤ℤ v → m <ℤ n → (u +ℤ m) <ℤ (v +ℤ n)
    later u v m n less more = omega (arith, ints)

sums-plus : (f g : ℕ → ℤ) (list : List ℕ) → sums (λ y. f y +ℤ g y) list ≡ sums f list +ℤ sums g list
sums-plus f g [] = omega (arith, ints)
sums-plus f g (y ∷ rest) = ap (λ z. (f y +ℤ g y) +ℤ z) (sums-plus f g rest) ∙ step (f y) (g y) (sums f rest)
    (sums g rest)
  where
    step : (u v m n : ℤ) → (u +ℤ v) +ℤ (m +ℤ n) ≡ (u +ℤ m) +ℤ (v +ℤ n)
    step u v m n = omega (arith, ints)

-- a product as a sum of equal numbers
sums-constant : (u : ℤ) (list : List ℕ) → u *ℤ pos (total (λ _. 1) list) ≡ sums (λ _. u) list
sums-constant u [] = omega (arith, ints)
sums-constant u (y ∷ rest) = step u (total (λ _. 1) rest) ∙ ap (λ z. u +ℤ z) (sums-constant u rest)
  where
    step : (u : ℤ) (n : ℕ) → u *ℤ pos (1 + n) ≡ u +ℤ (u *ℤ pos n)
    step u n = omega (arith, ints)

-- ---- over the members of a set
listed_member : (a : Set) (y : ℕ) → 0 < often y (listed a) → set.contains a y ≡ true
listed_member a y some = step (set.contains a y) (often y (listed a)) (often-listed a y) some
  where
    step : (b : Bool) (n : ℕ) → n ≡ bit b → 0 < n → b ≡ true
    step b n is some = grind arith

member_listed : (a : Set) (y : ℕ) → set.contains a y ≡ true → 0 < often y (listed a)
member_listed a y member = let once = often-listed a y ∙ ap bit member in omega arith

scaled-sums : (f : ℕ → ℤ) (a : Set) (y : ℕ) → scaled f a y ≡ sums (λ _. f y) (listed a)
scaled-sums f a y = ap (λ n. f y *ℤ pos n) (len_within a a (λ z member. member) ∙ total_same _ _ (listed a)
    (λ z some. ap bit (listed_member a z some))) ∙ sums-constant (f y) (listed a)

-- one whose f is greatest isn't below the average
pub leader_average : (f : ℕ → ℤ) (a : Set) (y : ℕ) → Leads f a y → sum_of f a ≤ℤ scaled f a y
leader_average f a y leads = subst (λ z. sum_of f a ≤ℤ z) (sym (scaled-sums f a y))
    (sums-no_less f (λ _. f y) (listed a) (λ z some. leads z (listed_member a z some)))

-- and it is above it, where some member's f is less
pub leader_above_average : (f : ℕ → ℤ) (a : Set) (y x : ℕ) → Leads f a y → set.contains a x ≡ true → f x <ℤ f y
    → sum_of f a <ℤ scaled f a y
leader_above_average f a y x leads member less = subst (λ z. sum_of f a <ℤ z) (sym (scaled-sums f a y))
    (sums-greater f (λ _. f y) (listed a) x (λ z some. leads z (listed_member a z some)) (member_listed a x member)
    less)

scaled-no_less : (f : ℕ → ℤ) (a : Set) (y z : ℕ) → f y ≤ℤ f z → scaled f a y ≤ℤ scaled f a z
scaled-no_less f a y z no_less = rw (scaled-sums f a y, scaled-sums f a z) (sums-no_less (λ _. f y) (λ _. f z)
    (listed a) (λ _ _. no_less))

-- ---- the tests, as orders
pub most_of : (u v : ℤ) → int_le u v ≡ true → u ≤ℤ v
most_of u v test = grind (arith, ints)

pub test_most : (u v : ℤ) → u ≤ℤ v → int_le u v ≡ true
test_most u v most = grind (arith, ints)

-- no member's f is less than that of y
abbrev pub IsLeast : (ℕ → ℤ) → Set → ℕ → Type 0
IsLeast f a y = (z : ℕ) → set.contains a z ≡ true → f y ≤ℤ f z

pub least_of_test : (f : ℕ → ℤ) (a : Set) (y : ℕ) → is_least f a y ≡ true → IsLeast f a y
least_of_test f a y test z member = not_less (f z) (f y) (list_any-each (λ z. int_lt (f z) (f y)) a (turn _ test) z
    member)
  where
    turn : (b : Bool) → not b ≡ true → b ≡ false
    turn b h = grind arith

pub test_of_least : (f : ℕ → ℤ) (a : Set) (y : ℕ) → IsLeast f a y → is_least f a y ≡ true
test_of_least f a y least = ap not (list_any-none (λ z. int_lt (f z) (f y)) a (λ z member. test_not_less (f z) (f y)
    (least z member)))

-- ---- under a lift
at_most : (u v w : ℤ) → u ≤ℤ v → v ≤ℤ w → u ≤ℤ w
at_most u v w one other = omega (arith, ints)

contrapositive : (b c : Bool) → (c ≡ false → b ≡ false) → b ≡ true → c ≡ true
contrapositive b c then holds = grind arith

-- where all members pass
abbrev pub AllPass : (ℕ → Bool) → Set → Type 0
AllPass t a = (y : ℕ) → set.contains a y ≡ true → t y ≡ true

module _ {a : Set} {x : ℕ} {f g : ℕ → ℤ} (lift : IsLift a x f g) where
  -- against the average, x doesn't fall
  balance : (sum_of g a +ℤ scaled f a x) ≤ℤ (sum_of f a +ℤ scaled g a x)
  balance = rw (scaled-sums f a x, scaled-sums g a x)
      (rw (← sums-plus g (λ _. f x) (listed a), ← sums-plus f (λ _. g x) (listed a)) (sums-no_less _ _ (listed a) each))
    where
      each : (y : ℕ) → 0 < often y (listed a) → (g y +ℤ f x) ≤ℤ (f y +ℤ g x)
      each y some = elim (nat_eq x y) as (λ b. nat_eq x y ≡ b → (g y +ℤ f x) ≤ℤ (f y +ℤ g x)) [
        | true ↦ λ e. subst (λ z. (g z +ℤ f x) ≤ℤ (f z +ℤ g x)) (eqb-true x y e) (swap (g x) (f x))
        | false ↦ λ e. add (f x) (g x) (f y) (g y) lift.rises (lift.falls y (listed_member a y some) (other_than x y e))
      ] refl
        where
          swap : (u v : ℤ) → (u +ℤ v) ≤ℤ (v +ℤ u)
          swap u v = omega (arith, ints)

          add : (u v m n : ℤ) → u ≤ℤ v → n ≤ℤ m → (n +ℤ u) ≤ℤ (m +ℤ v)
          add u v m n rises falls = omega (arith, ints)

  least_still : IsLeast g a x → IsLeast f a x
  least_still least z member = elim (nat_eq x z) as (λ b. nat_eq x z ≡ b → f x ≤ℤ f z) [
    | true ↦ λ e. subst (λ z. f x ≤ℤ f z) (eqb-true x z e) (itself (f x))
    | false ↦ λ e. step (f x) (g x) (f z) (g z) lift.rises (least z member) (lift.falls z member (other_than x z e))
  ] refl
    where
      step : (u v m n : ℤ) → u ≤ℤ v → v ≤ℤ n → n ≤ℤ m → u ≤ℤ m
      step u v m n rises least falls = omega (arith, ints)

  -- where x goes after the lift, it went before
  pub goes_no_sooner : (kind : Elimination) → goes kind g a x ≡ true → goes kind f a x ≡ true
  goes_no_sooner Max gone = contrapositive _ _
      (λ stays. test_of_leads g a x (leads_still lift (leads_of_test f a x stays))) gone
  goes_no_sooner Min gone = test_of_least f a x (least_still (least_of_test g a x gone))
  goes_no_sooner Below gone = test_less (scaled f a x) (sum_of f a) (step (sum_of g a) (sum_of f a) (scaled f a x)
      (scaled g a x) balance (less_of (scaled g a x) (sum_of g a) gone))
    where
      step : (s t m n : ℤ) → (s +ℤ m) ≤ℤ (t +ℤ n) → n <ℤ s → m <ℤ t
      step s t m n balanced less = omega (arith, ints)
  goes_no_sooner Upto gone = test_most (scaled f a x) (sum_of f a) (step (sum_of g a) (sum_of f a) (scaled f a x)
      (scaled g a x) balance (most_of (scaled g a x) (sum_of g a) gone))
    where
      step : (s t m n : ℤ) → (s +ℤ m) ≤ℤ (t +ℤ n) → n ≤ℤ s → m ≤ℤ t
      step s t m n balanced most = omega (arith, ints)

  -- where all are least, or at most at the average, x leads
  level_least : AllPass (is_least f a) a → Leads f a x
  level_least all y member = least_of_test f a y (all y member) x lift.inside

  level_average : AllPass (goes Upto f a) a → Leads f a x
  level_average all y member = at_most (f y) (f leader.one) (f x) (leader.leads y member)
      (not_less (f x) (f leader.one) (level (int_lt (f x) (f leader.one)) refl))
    where
      leader : Leader f a
      leader = leader_of f a x lift.inside

      no_more : (s t : ℤ) → s <ℤ t → t ≤ℤ s → ⊥
      no_more s t above most = absurd (omega (arith, ints))

      level : (b : Bool) → int_lt (f x) (f leader.one) ≡ b → b ≡ false
      level true e = absurd (no_more (sum_of f a) (scaled f a leader.one) (leader_above_average f a leader.one x
          leader.leads lift.inside (less_of (f x) (f leader.one) e)) (most_of (scaled f a leader.one) (sum_of f a)
          (all leader.one leader.member)))
      level false e = refl

  -- where all would go before the lift, and x goes after it, all would go after it
  pub all_go_still : (kind : Elimination) → AllPass (goes kind f a) a → goes kind g a x ≡ true → AllPass (goes kind g a)
      a
  all_go_still Max all gone y member = let leader = leader_of f a x lift.inside
      in absurd (true≢false (sym (all leader.one leader.member) ∙ test_of_leads f a leader.one leader.leads))
  all_go_still Min all gone y member = test_of_least g a y (λ z there. at_most (g y) (g x) (g z)
      (leads_still lift (level_least all) y member) (least_of_test g a x gone z there))
  all_go_still Below all gone y member = let leader = leader_of f a x lift.inside
      in absurd (no_less (sum_of f a) (scaled f a leader.one) (leader_average f a leader.one leader.leads)
      (less_of (scaled f a leader.one) (sum_of f a) (all leader.one leader.member)))
    where
      no_less : (s t : ℤ) → s ≤ℤ t → t <ℤ s → ⊥
      no_less s t least less = absurd (omega (arith, ints))
  all_go_still Upto all gone y member = test_most (scaled g a y) (sum_of g a) (at_most (scaled g a y) (scaled g a x)
      (sum_of g a) (scaled-no_less g a y x (leads_still lift (level_average all) y member))
      (most_of (scaled g a x) (sum_of g a) gone))
