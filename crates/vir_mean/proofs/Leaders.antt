-- The members of a set whom none passes, and what a lift does to them.
use Rattle.std.proofs.Common.{◌≡◌, ◌≢◌, inl, inr, ℕ, Bool, true, false, true≢false, not, ◌||◌, ◌&&◌, nat_eq, List, []}
use Rattle.std.proofs.Common.{◌∷◌, refl, sym, ap, ◌∙◌, subst, arith, eqb-true, ℤ, ◌≤ℤ◌, ◌<ℤ◌, int_lt}
use Rattle.std.proofs.lemmas.Bool.Decides.{nat_tests}
use Rattle.std.proofs.lemmas.Int.{ints}
use Rattle.std.specs.FinSet as set
use Rattle.std.specs.List.{list_any}
use Rattle.vir_altset.specs.Sets.{Set}
use Rattle.vir_altset.specs.SetLaws.{contains-empty, contains-insert, contains-retain, same_members}
use Rattle.vir_mean.specs.Eliminators.{is_passed}
use Rattle.vir_mean.specs.declared.elimination.Elimination.TheVariants.{Max}
use Rattle.vir_mean.specs.Properties.{just, StaysOrBecomes}
use Rattle.vir_mean.proofs.EliminatedSplits.{goes_same, retain_same}
use Rattle.vir_mean.proofs.MemberCounts.{in_items, finds}

-- ---- tests of the members of a set
-- a number stands in a list that begins with it
first_there : (y : ℕ) (b : Bool) → (nat_eq y y || b) ≡ true
first_there y b = grind (arith, nat_tests)

-- and in one with it further on
later_there : (b c : Bool) → c ≡ true → (b || c) ≡ true
later_there b c there = grind arith

-- where no member passes a test, none is found
pub list_any-none : (t : ℕ → Bool) (a : Set) → ((z : ℕ) → set.contains a z ≡ true → t z ≡ false)
    → list_any t (set.items a) ≡ false
list_any-none t a none = go (set.items a) (λ z there. none z (in_items a z ∙ there))
  where
    step : (b c : Bool) → b ≡ false → c ≡ false → (b || c) ≡ false
    step b c first more = grind arith

    go : (list : List ℕ) → ((z : ℕ) → list_any (nat_eq z) list ≡ true → t z ≡ false) → list_any t list ≡ false
    go [] none = refl
    go (z ∷ rest) none = step (t z) (list_any t rest) (none z (first_there z _))
        (go rest (λ y there. none y (later_there _ _ there)))

-- where none is found, no member passes
pub list_any-each : (t : ℕ → Bool) (a : Set) → list_any t (set.items a) ≡ false → (z : ℕ) → set.contains a z ≡ true
    → t z ≡ false
list_any-each t a none z member = elim (t z) as (λ b. t z ≡ b → b ≡ false) [
  | true ↦ λ e. absurd (true≢false (sym (finds t (set.items a) z (sym (in_items a z) ∙ member) e) ∙ none))
  | false ↦ λ e. refl
] refl

pub itself : (u : ℤ) → u ≤ℤ u
itself u = omega (arith, ints)

pub not_less : (u v : ℤ) → int_lt u v ≡ false → v ≤ℤ u
not_less u v test = grind (arith, ints)

pub test_not_less : (u v : ℤ) → v ≤ℤ u → int_lt u v ≡ false
test_not_less u v least = grind (arith, ints)

pub less_of : (u v : ℤ) → int_lt u v ≡ true → u <ℤ v
less_of u v test = grind (arith, ints)

pub test_less : (u v : ℤ) → u <ℤ v → int_lt u v ≡ true
test_less u v less = grind (arith, ints)

-- ---- a greatest number
-- no member's f is greater than that of y
abbrev pub Leads : (ℕ → ℤ) → Set → ℕ → Type 0
Leads f a y = (z : ℕ) → set.contains a z ≡ true → f z ≤ℤ f y

pub leads_of_test : (f : ℕ → ℤ) (a : Set) (y : ℕ) → is_passed f a y ≡ false → Leads f a y
leads_of_test f a y test z member = not_less (f y) (f z) (list_any-each (λ z. int_lt (f y) (f z)) a test z member)

pub test_of_leads : (f : ℕ → ℤ) (a : Set) (y : ℕ) → Leads f a y → is_passed f a y ≡ false
test_of_leads f a y leads = list_any-none (λ z. int_lt (f y) (f z)) a (λ z member. test_not_less (f y) (f z)
    (leads z member))

-- a member of a list whose f is greatest
record Greatest (f : ℕ → ℤ) (list : List ℕ) : Type 0 where
  pub one : ℕ
  pub there : list_any (nat_eq one) list ≡ true
  pub leads : (z : ℕ) → list_any (nat_eq z) list ≡ true → f z ≤ℤ f one

after : (u v w : ℤ) → int_lt v w ≡ true → u ≤ℤ v → u ≤ℤ w
after u v w less most = grind (arith, ints)

-- what holds of the first and of the others holds of each
each_there : (P : ℕ → Type 0) (y : ℕ) (rest : List ℕ) → P y → ((z : ℕ) → list_any (nat_eq z) rest ≡ true → P z)
    → (z : ℕ) → list_any (nat_eq z) (y ∷ rest) ≡ true → P z
each_there P y rest first others z there = elim (nat_eq z y) as (λ b. nat_eq z y ≡ b → (b || list_any (nat_eq z) rest)
    ≡ true → P z) [
      | true ↦ λ e _. subst P (sym (eqb-true z y e)) first
      | false ↦ λ e more. others z more
    ] refl there

greatest_of : (f : ℕ → ℤ) (y : ℕ) (rest : List ℕ) → Greatest f (y ∷ rest)
greatest_of f y [] =
    record {
      one = y;
      there = first_there y false;
      leads = each_there (λ z. f z ≤ℤ f y) y [] (itself (f y))
          (λ z there. absurd (true≢false (sym there)));
    }
greatest_of f y (x ∷ rest) = either (greatest_of f x rest)
  where
    either : Greatest f (x ∷ rest) → Greatest f (y ∷ x ∷ rest)
    either g = elim (int_lt (f g.one) (f y)) as (λ b. int_lt (f g.one) (f y) ≡ b → Greatest f (y ∷ x ∷ rest)) [
      | true ↦ λ e.
          record {
            one = y;
            there = first_there y _;
            leads = each_there (λ z. f z ≤ℤ f y) y (x ∷ rest) (itself (f y))
                (λ z there. after (f z) (f g.one) (f y) e (g.leads z there));
          }
      | false ↦ λ e. record {
        one = g.one;
        there = later_there _ _ g.there;
        leads = each_there (λ z. f z ≤ℤ f g.one) y (x ∷ rest) (not_less (f g.one) (f y) e) g.leads;
      }
    ] refl

-- a member of a set whose f is greatest
pub record Leader (f : ℕ → ℤ) (a : Set) : Type 0 where
  pub one : ℕ
  pub member : set.contains a one ≡ true
  pub leads : Leads f a one

-- a set with a member has one
pub leader_of : (f : ℕ → ℤ) (a : Set) (x : ℕ) → set.contains a x ≡ true → Leader f a
leader_of f a x inside = go (set.items a) (sym (in_items a x) ∙ inside) (in_items a)
  where
    go : (list : List ℕ) → list_any (nat_eq x) list ≡ true → ((z : ℕ) → set.contains a z ≡ list_any (nat_eq z) list)
        → Leader f a
    go [] there is = absurd (true≢false (sym there))
    go (y ∷ rest) there is = let g = greatest_of f y rest
        in record { one = g.one; member = is g.one ∙ g.there; leads = λ z member. g.leads z (sym (is z) ∙ member) }

-- ---- the leaders under a lift
-- the members whom none passes
abbrev pub leaders : (ℕ → ℤ) → Set → Set
leaders f a = set.retain a (λ y. not (is_passed f a y))

pub leader_leads : (f : ℕ → ℤ) (a : Set) (y : ℕ) → set.contains (leaders f a) y ≡ true → is_passed f a y ≡ false
leader_leads f a y leader = step (set.contains a y) (is_passed f a y) (sym (contains-retain a _ y) ∙ leader)
  where
    step : (b c : Bool) → (b && not c) ≡ true → c ≡ false
    step b c kept = grind arith

pub other_than : (x y : ℕ) → nat_eq x y ≡ false → y ≢ x
other_than x y apart = grind (arith, nat_tests)

-- x's number doesn't fall, and no other rises
pub record IsLift (a : Set) (x : ℕ) (f g : ℕ → ℤ) : Type 0 where
  pub inside : set.contains a x ≡ true
  pub rises : f x ≤ℤ g x
  pub falls : (y : ℕ) → set.contains a y ≡ true → y ≢ x → g y ≤ℤ f y

-- x leads still
pub leads_still : {a : Set} {x : ℕ} {f g : ℕ → ℤ} → IsLift a x f g → Leads f a x → Leads g a x
leads_still {a} {x} {f} {g} lift leads z member = elim (nat_eq x z) as (λ b. nat_eq x z ≡ b → g z ≤ℤ g x) [
  | true ↦ λ e. subst (λ z. g z ≤ℤ g x) (eqb-true x z e) (itself (g x))
  | false ↦ λ e. step (f x) (g x) (f z) (g z) lift.rises (leads z member) (lift.falls z member (other_than x z e))
] refl
  where
    step : (u v w z : ℤ) → u ≤ℤ v → w ≤ℤ u → z ≤ℤ w → z ≤ℤ v
    step u v w z rises leads falls = omega (arith, ints)

-- where x rises, it leads alone
leads_alone : {a : Set} {x : ℕ} {f g : ℕ → ℤ} → IsLift a x f g → Leads f a x → f x <ℤ g x → leaders g a ≡ just x
leads_alone {a} {x} {f} {g} lift leads greater = same_members (leaders g a) (just x) (λ y. contains-retain a _ y
    ∙ step y ∙ sym (contains-insert set.empty x y ∙ ap (λ b. nat_eq y x || b) (contains-empty y)))
  where
    turn : (x y : ℕ) → nat_eq x y ≡ nat_eq y x
    turn x y = grind (arith, nat_tests)

    passed : (u v w z : ℤ) → u <ℤ v → w ≤ℤ u → z ≤ℤ w → int_lt z v ≡ true
    passed u v w z greater leads falls = grind (arith, ints)

    out : (b c e : Bool) → e ≡ false → (b ≡ true → c ≡ true) → (b && not c) ≡ (e || false)
    out b c e apart goes = grind arith

    kept : (b c e : Bool) → b ≡ true → c ≡ false → e ≡ true → (b && not c) ≡ (e || false)
    kept b c e member stays same = grind arith

    step : (y : ℕ) → (set.contains a y && not (is_passed g a y)) ≡ (nat_eq y x || false)
    step y = elim (nat_eq x y) as (λ b. nat_eq x y ≡ b → (set.contains a y && not (is_passed g a y))
        ≡ (nat_eq y x || false)) [
          | true ↦ λ e.
              subst (λ z. (set.contains a z && not (is_passed g a z)) ≡ (nat_eq z x || false)) (eqb-true x y e)
              (kept _ _ _ lift.inside (test_of_leads g a x (leads_still lift leads))
              (turn x x ∙ ap (nat_eq x) (eqb-true x y e) ∙ e))
          | false ↦ λ e. out _ _ _ (turn y x ∙ e) (λ member. finds (λ z. int_lt (g y) (g z)) (set.items a) x
              (sym (in_items a x) ∙ lift.inside) (passed (f x) (g x) (f y) (g y) greater (leads y member)
              (lift.falls y member (other_than x y e))))
        ] refl

-- those whom none passes stay, or become x alone, where x rises as soon as another changes
pub leaders_stay_or_become : {a : Set} {x : ℕ} {f g : ℕ → ℤ} → IsLift a x f g
    → (Leads f a x → (y : ℕ) → set.contains a y ≡ true → y ≢ x → g y ≢ f y → f x <ℤ g x)
    → Leads f a x → StaysOrBecomes x (leaders f a) (leaders g a)
leaders_stay_or_become {a} {x} {f} {g} lift moves leads = elim (int_lt (f x) (g x)) as (λ b. int_lt (f x) (g x) ≡ b
    → StaysOrBecomes x (leaders f a) (leaders g a)) [
      | true ↦ λ e. inr (leads_alone lift leads (less_of (f x) (g x) e))
      | false ↦ λ e. inl (retain_same a _ _ (λ y member. ap not (goes_same g f a (level e) Max y member)))
    ] refl
  where
    not_less_itself : (u : ℤ) → int_lt u u ≡ false
    not_less_itself u = grind (arith, ints)

    same : (u v : ℤ) → u ≤ℤ v → v ≤ℤ u → u ≡ v
    same u v least most = omega (arith, ints)

    level : int_lt (f x) (g x) ≡ false → (y : ℕ) → set.contains a y ≡ true → g y ≡ f y
    level e y member = elim (nat_eq x y) as (λ b. nat_eq x y ≡ b → g y ≡ f y) [
      | true ↦ λ k. subst (λ z. g z ≡ f z) (eqb-true x y k) (same (g x) (f x) (not_less (f x) (g x) e) lift.rises)
      | false ↦ λ k. same (g y) (f y) (lift.falls y member (other_than x y k))
          (not_less (g y) (f y) (unmoved k (int_lt (g y) (f y)) refl))
    ] refl
      where
        unmoved : nat_eq x y ≡ false → (b : Bool) → int_lt (g y) (f y) ≡ b → b ≡ false
        unmoved k true h =
            absurd
            (true≢false
            (sym
            (test_less (f x) (g x) (moves leads y member (other_than x y k)
            (λ e. true≢false (sym h ∙ ap (λ z. int_lt z (f y)) e ∙ not_less_itself (f y))))) ∙ e))
        unmoved k false h = refl
