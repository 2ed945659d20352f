-- How many members the first members of a set in a fixed order are.
use Rattle.std.proofs.Common.{◌≡◌, ℕ, zero, suc, ◌+◌, ◌-◌, ◌≤◌, min, Bool, true, false, cond, not, ◌||◌, ◌&&◌, nat_eq}
use Rattle.std.proofs.Common.{nat_lt, List, refl, sym, ap, ◌∙◌, arith, eqb-true}
use Rattle.std.proofs.lemmas.Bool.Decides.{nat_tests}
use Rattle.std.specs.FinSet as set
use Rattle.vir_altset.specs.Sets.{Set, IsPart}
use Rattle.vir_altset.specs.SetLaws.{contains-insert, contains-remove, contains-remove-same, contains-retain}
use Rattle.vir_altset.specs.SetLaws.{same_members}
use Rattle.vir_altset.proofs.SizeLaws.{len-empty, len-insert, len-remove, len_of_member, len-part, each_set}
use Rattle.vir_mean.specs.FixedOrders.{is_ahead, is_among_first, first_members}

first_part : (k : ℕ) (order : List ℕ) (a : Set) → IsPart (first_members k order a) a
first_part k order a x member = grind (arith, contains-retain)

-- ---- a fixed order is a strict total order
ahead_not_behind : (order : List ℕ) (x y : ℕ) → is_ahead order x y ≡ true → is_ahead order y x ≡ false
ahead_not_behind order x y ahead = grind (arith, nat_tests)

not_ahead_of_itself : (order : List ℕ) (x : ℕ) → is_ahead order x x ≡ false
not_ahead_of_itself order x = grind (arith, nat_tests)

ahead_of_ahead : (order : List ℕ) (x y z : ℕ) → is_ahead order x y ≡ true → is_ahead order y z ≡ true
    → is_ahead order x z ≡ true
ahead_of_ahead order x y z first second = grind (arith, nat_tests)

one_ahead : (order : List ℕ) (x y : ℕ) → nat_eq y x ≡ false → is_ahead order x y ≡ false → is_ahead order y x ≡ true
one_ahead order x y other not_ahead = grind (arith, nat_tests)

-- ---- the last member
record IsLastOf (order : List ℕ) (a : Set) (z : ℕ) : Type 0 where
  pub member : set.contains a z ≡ true
  pub behind : (y : ℕ) → set.contains a y ≡ true → nat_eq y z ≡ false → is_ahead order z y ≡ true

record HasLast (order : List ℕ) (a : Set) : Type 0 where
  pub last : ℕ
  pub is : IsLastOf order a last

-- of two, one is not the other where one alone is a member
other_member : (a : Set) (x y : ℕ) → set.contains a x ≡ false → set.contains a y ≡ true → nat_eq y x ≡ false
other_member a x y out member = elim (nat_eq y x) as (λ b. nat_eq y x ≡ b → b ≡ false) [
  | true ↦ λ e. sym member ∙ ap (set.contains a) (eqb-true y x e) ∙ out
  | false ↦ λ e. refl
] refl

member_before_insert : (a : Set) (x y : ℕ) → set.contains (set.insert a x) y ≡ true → nat_eq y x ≡ false
    → set.contains a y ≡ true
member_before_insert a x y member other = grind (arith, contains-insert)

-- a new member that is last
last_new : (order : List ℕ) (a : Set) (x : ℕ) → ((y : ℕ) → set.contains a y ≡ true → is_ahead order x y ≡ true)
    → HasLast order (set.insert a x)
last_new order a x all = record {
  last = x;
  is = record {
    member = grind (arith, nat_tests, contains-insert);
    behind = λ y member other. all y (member_before_insert a x y member other);
  };
}

-- a new member that isn't
last_old : (order : List ℕ) (a : Set) (x z : ℕ) → IsLastOf order a z → is_ahead order z x ≡ true
    → HasLast order (set.insert a x)
last_old order a x z old ahead = record {
  last = z;
  is = record {
    member = (let member = old.member in grind (arith, contains-insert));
    behind = λ y member other. elim (nat_eq y x) as (λ b. nat_eq y x ≡ b → is_ahead order z y ≡ true) [
      | true ↦ λ e. ap (is_ahead order z) (eqb-true y x e) ∙ ahead
      | false ↦ λ e. old.behind y (member_before_insert a x y member e) other
    ] refl;
  };
}

last_more : (order : List ℕ) (a : Set) (x : ℕ) → set.contains a x ≡ false → HasLast order a
    → HasLast order (set.insert a x)
last_more order a x out some =
    let z = some.last in
    elim (is_ahead order x z) as (λ b. is_ahead order x z ≡ b → HasLast order (set.insert a x)) [
      | true ↦ λ e. last_new order a x (λ y member. elim (nat_eq y z) as (λ b. nat_eq y z ≡ b → is_ahead order x y
          ≡ true) [
            | true ↦ λ same. ap (is_ahead order x) (eqb-true y z same) ∙ e
            | false ↦ λ other. ahead_of_ahead order x z y e (some.is.behind y member other)
          ] refl)
      | false ↦ λ e. last_old order a x z some.is (one_ahead order x z (other_member a x z out some.is.member) e)
    ] refl

-- a set with a member has a last one
last_of : (order : List ℕ) (a : Set) → 1 ≤ set.len a → HasLast order a
last_of order = each_set (λ a. 1 ≤ set.len a → HasLast order a)
    (λ some. absurd (let none = len-empty in omega arith))
    (λ a x out before some. elim (nat_eq (set.len a) 0) as (λ b. nat_eq (set.len a) 0 ≡ b
    → HasLast order (set.insert a x)) [
      | true ↦ λ e. last_new order a x (λ y member. absurd (let many = len_of_member a y member in let none =
          eqb-true (set.len a) 0 e in omega arith))
      | false ↦ λ e. last_more order a x out (before (some_of (set.len a) e))
    ] refl)
  where
    some_of : (n : ℕ) → nat_eq n 0 ≡ false → 1 ≤ n
    some_of n other = grind (arith, nat_tests)

-- ---- how many are first
module _ (k : ℕ) (order : List ℕ) (a : Set) (z : ℕ) (last : IsLastOf order a z) where
  -- before the last member stand all others
  ahead_of_last : set.retain a (is_ahead order z) ≡ set.remove a z
  ahead_of_last = same_members _ _ (λ x. contains-retain a (is_ahead order z) x
      ∙ step (set.contains a x) (is_ahead order z x) (nat_eq x z) (λ e. ap (is_ahead order z) (eqb-true x z e)
      ∙ not_ahead_of_itself order z) (last.behind x)
      ∙ sym (contains-remove a z x))
    where
      step : (in_a ahead same : Bool) → (same ≡ true → ahead ≡ false) → (in_a ≡ true → same ≡ false → ahead ≡ true)
          → (in_a && ahead) ≡ (not same && in_a)
      step in_a ahead same itself others = grind arith

  -- and it stands before none of them
  ahead_of_other : (x : ℕ) → set.contains a x ≡ true → nat_eq x z ≡ false → set.retain a (is_ahead order x)
      ≡ set.retain (set.remove a z) (is_ahead order x)
  ahead_of_other x member other = same_members _ _ (λ y. contains-retain a (is_ahead order x) y
      ∙ step (set.contains a y) (is_ahead order x y) (nat_eq y z) (λ e. ap (is_ahead order x) (eqb-true y z e)
      ∙ ahead_not_behind order z x (last.behind x member other))
      ∙ ap (λ b. b && is_ahead order x y) (sym (contains-remove a z y))
      ∙ sym (contains-retain (set.remove a z) (is_ahead order x) y))
    where
      step : (in_a ahead same : Bool) → (same ≡ true → ahead ≡ false) → (in_a && ahead) ≡ ((not same && in_a) && ahead)
      step in_a ahead same itself = grind arith

  -- whether fewer than k others are there
  abbrev few : Bool
  few = nat_lt (set.len (set.remove a z)) k

  -- the last is among the first where fewer than k others are there
  first_members-last : first_members k order a ≡ cond few (set.insert (first_members k order (set.remove a z)) z)
      (first_members k order (set.remove a z))
  first_members-last = same_members _ _ (λ x. contains-retain a (is_among_first k order a) x
      ∙ step (set.contains a x) (is_among_first k order a x) (is_among_first k order (set.remove a z) x) (nat_eq x z)
      few
      (λ e. ap (set.contains a) (eqb-true x z e) ∙ last.member)
      (λ e. ap (is_among_first k order a) (eqb-true x z e) ∙ ap (λ s. nat_lt (set.len s) k) ahead_of_last)
      (λ member other. ap (λ s. nat_lt (set.len s) k) (ahead_of_other x member other))
      ∙ ap (λ b. (few && nat_eq x z) || (b && is_among_first k order (set.remove a z) x)) (sym (contains-remove a z x))
      ∙ ap (λ b. (few && nat_eq x z) || b)
      (sym (contains-retain (set.remove a z) (is_among_first k order (set.remove a z)) x))
      ∙ sym (perhaps few (first_members k order (set.remove a z)) x))
    where
      step : (in_a here without same few : Bool) → (same ≡ true → in_a ≡ true) → (same ≡ true → here ≡ few)
          → (in_a ≡ true → same ≡ false → here ≡ without)
          → (in_a && here) ≡ ((few && same) || ((not same && in_a) && without))
      step in_a here without same few member at_last others = grind arith

      perhaps : (b : Bool) (s : Set) (x : ℕ) → set.contains (cond b (set.insert s z) s) x
          ≡ ((b && nat_eq x z) || set.contains s x)
      perhaps true s x = contains-insert s z x
      perhaps false s x = refl

-- the size of a set with one more member where there is room
len-perhaps : (few : Bool) (s : Set) (z n k : ℕ) → nat_lt n k ≡ few → set.len s ≡ min k n → set.contains s z ≡ false
    → set.len (cond few (set.insert s z) s) ≡ min k (suc n)
len-perhaps true s z n k room size out = len-insert s z ∙ ap (λ b. cond b (set.len s) (set.len s + 1)) out
    ∙ step (set.len s) n k room size
  where
    step : (m n k : ℕ) → nat_lt n k ≡ true → m ≡ min k n → m + 1 ≡ min k (suc n)
    step m n k room size = grind (arith, nat_tests)
len-perhaps false s z n k room size out = step (set.len s) n k room size
  where
    step : (m n k : ℕ) → nat_lt n k ≡ false → m ≡ min k n → m ≡ min k (suc n)
    step m n k room size = grind (arith, nat_tests)

len-first : (n k : ℕ) (order : List ℕ) (a : Set) → set.len a ≡ n → set.len (first_members k order a) ≡ min k n
len-first zero k order a size = let part = len-part (first_members k order a) a (first_part k order a) in omega arith
len-first (suc n) k order a size =
    let some = last_of order a (omega arith) in
    let z = some.last in
    let less : set.len (set.remove a z) ≡ n = len-remove a z ∙ ap (λ b. cond b (set.len a - 1) (set.len a))
    some.is.member ∙ omega arith in
    let out : set.contains (first_members k order (set.remove a z)) z ≡ false = contains-retain (set.remove a z)
    (is_among_first k order (set.remove a z)) z ∙ ap (λ b. b && is_among_first k order (set.remove a z) z)
    (contains-remove-same a z) in
    ap set.len (first_members-last k order a z some.is)
    ∙ len-perhaps (nat_lt (set.len (set.remove a z)) k) (first_members k order (set.remove a z)) z n k
    (ap (λ m. nat_lt m k) (sym less)) (len-first n k order (set.remove a z) less) out

-- the first k members are k, or all where there are fewer
pub len-first_members : (k : ℕ) (order : List ℕ) (a : Set) → set.len (first_members k order a) ≡ min k (set.len a)
len-first_members k order a = len-first (set.len a) k order a refl
