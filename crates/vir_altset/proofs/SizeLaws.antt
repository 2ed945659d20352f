-- How many members sets have.
use Rattle.std.proofs.Common.{◌≡◌, ℕ, zero, suc, ◌+◌, ◌-◌, ◌≤◌, Bool, true, false, not, cond, ◌&&◌, ◌||◌, List, [], ◌∷◌}
use Rattle.std.proofs.Common.{nat_eq, nat_lt, nat_le, refl, sym, ap, ◌∙◌, arith, subst}
use Rattle.std.proofs.lemmas.Bool.Decides.{nat_tests}
use Rattle.std.specs.FinSet as set
use Rattle.std.specs.Cmp.{nat_cmp_total, unsigned_tied}
use Rattle.std.specs.List.{list_any}
use Rattle.std.specs.Ordering.{nat_cmp, eq_by_cmp}
use Rattle.vir_altset.specs.Sets.{Set, all, limit, IsBounded, IsPart}
use Rattle.vir_altset.specs.SetLaws.{contains-empty, contains-all, contains-remove-same, contains-difference}
use Rattle.vir_altset.specs.SetLaws.{same_members, set_members}
use Rattle.vir_altset.specs.Splits.{bit}

pub len-empty : set.len (set.empty {R = nat_cmp}) ≡ 0
len-empty = set.len-empty nat_cmp

pub len-insert : (a : Set) (x : ℕ) → set.len (set.insert a x) ≡ cond (set.contains a x) (set.len a) (set.len a + 1)
len-insert a x = set.len-insert nat_cmp_total a x

pub len-remove : (a : Set) (x : ℕ) → set.len (set.remove a x) ≡ cond (set.contains a x) (set.len a - 1) (set.len a)
len-remove a x = set.len-remove nat_cmp_total a x

-- a set has no members just where it is empty
pub empty_of_len : (a : Set) → set.len a ≡ 0 → a ≡ set.empty
empty_of_len a none = set.empty_of_len a none

pub len_of_empty : (a : Set) → a ≡ set.empty → set.len a ≡ 0
len_of_empty a none = ap set.len none ∙ len-empty

-- a set with a member has at least one
pub len_of_member : (a : Set) (x : ℕ) → set.contains a x ≡ true → 1 ≤ set.len a
len_of_member a x member = elim (nat_eq (set.len a) 0) as (λ t. nat_eq (set.len a) 0 ≡ t → 1 ≤ set.len a) [
  | true ↦ λ t. let none : set.len a ≡ 0 = grind (arith, nat_tests)
      in cc (member, ap (λ s. set.contains s x) (empty_of_len a none), contains-empty x)
  | false ↦ λ t. grind (arith, nat_tests)
] refl

-- a member of a set
pub record HasMember (a : Set) : Type 0 where
  pub one : ℕ
  pub member : set.contains a one ≡ true

-- a set of at least one has a member
pub member_of_len : (a : Set) (n : ℕ) → set.len a ≡ suc n → HasMember a
member_of_len a n some = found (set.items a) (set.contains-items a)
  where
    itself : (x : ℕ) → nat_eq x x ≡ true
    itself x = grind (arith, nat_tests)

    found : (xs : List ℕ) → ((x : ℕ) → set.contains a x ≡ list_any (eq_by_cmp nat_cmp x) xs) → HasMember a
    found [] items = absurd (let none : set.len a ≡ 0 =
        len_of_empty a (same_members a set.empty (λ x. items x ∙ sym (contains-empty x))) in omega arith)
    found (x ∷ xs) items =
        record {
          one = x;
          member = items x ∙ ap (λ b. b || list_any (eq_by_cmp nat_cmp x) xs) (unsigned_tied x x
              ∙ itself x);
        }

-- a member taken out and put back
pub insert-remove : (a : Set) (x : ℕ) → set.contains a x ≡ true → set.insert (set.remove a x) x ≡ a
insert-remove a x member = same_members _ _ (λ y. grind (arith, nat_tests, set_members))

-- what holds of the empty set, and goes over from a set to one with a further member, holds of each set
module _ (P : Set → Type 0) (none : P set.empty) (more : (a : Set) (x : ℕ) → set.contains a x ≡ false → P a
    → P (set.insert a x)) where
  by_len : (n : ℕ) (a : Set) → set.len a ≡ n → P a
  by_len zero a n = subst P (sym (empty_of_len a n)) none
  by_len (suc k) a n =
      let some = member_of_len a k n in
      let rest : set.len (set.remove a some.one) ≡ k = len-remove a some.one
      ∙ ap (λ b. cond b (set.len a - 1) (set.len a)) some.member ∙ omega arith in
      subst P (insert-remove a some.one some.member) (more (set.remove a some.one) some.one
      (contains-remove-same a some.one) (by_len k (set.remove a some.one) rest))

  pub each_set : (a : Set) → P a
  each_set a = by_len (set.len a) a refl

-- two sets with no member in common make up a
abbrev pub MakeUp : Set → Set → Set → Type 0
MakeUp b c a = (x : ℕ) → bit (set.contains b x) + bit (set.contains c x) ≡ bit (set.contains a x)

made_up_of_empty : (c a : Set) → MakeUp set.empty c a → c ≡ a
made_up_of_empty c a whole = same_members c a (λ x. grind (arith, nat_tests, set_members, whole x))

made_up_less : (b c a : Set) (x : ℕ) → set.contains b x ≡ false → MakeUp (set.insert b x) c a
    → MakeUp b c (set.remove a x)
made_up_less b c a x out whole y = grind (arith, nat_tests, set_members, whole y)

member_made_up : (b c a : Set) (x : ℕ) → MakeUp (set.insert b x) c a → set.contains a x ≡ true
member_made_up b c a x whole = grind (arith, nat_tests, set_members, whole x)

-- the sizes of two sets that make up a add up to that of a
pub len-make_up : (b c a : Set) → MakeUp b c a → set.len b + set.len c ≡ set.len a
len-make_up b = each_set (λ b. (c a : Set) → MakeUp b c a → set.len b + set.len c ≡ set.len a)
    (λ c a whole. let none = len-empty in let same : set.len c ≡ set.len a = ap set.len (made_up_of_empty c a whole)
    in omega arith)
    (λ b x out sum c a whole.
    let member = member_made_up b c a x whole in
    let rest = sum c (set.remove a x) (made_up_less b c a x out whole) in
    let less : set.len (set.remove a x) ≡ set.len a - 1 = len-remove a x ∙ ap (λ b. cond b (set.len a - 1) (set.len a))
    member in
    let more : set.len (set.insert b x) ≡ set.len b + 1 = len-insert b x ∙ ap (λ t. cond t (set.len b) (set.len b + 1))
    out in
    let some = len_of_member a x member in
    omega arith)
    b

-- a part, and what is left of the set without it
pub len-difference : (a d : Set) → IsPart d a → set.len d + set.len (set.difference a d) ≡ set.len a
len-difference a d part = len-make_up d (set.difference a d) a (λ x. grind (arith, nat_tests, set_members, part x))

-- what a test keeps, and what is left
pub len-retain : (a : Set) (p : ℕ → Bool) → set.len (set.retain a p) + set.len (set.difference a (set.retain a p))
    ≡ set.len a
len-retain a p = len-make_up _ _ a (λ x. grind (arith, nat_tests, set_members))

-- a part is no larger than the set
pub len-part : (d a : Set) → IsPart d a → set.len d ≤ set.len a
len-part d a part = omega (arith, len-difference a d part)

-- a part that is no smaller than the set is the set
pub whole_part : (d a : Set) → IsPart d a → set.len a ≤ set.len d → d ≡ a
whole_part d a part large = same_members d a (λ x.
    step (set.contains d x) (set.contains a x) (part x) (sym (contains-difference a d x) ∙ ap (λ s. set.contains s x)
    nothing_left ∙ contains-empty x))
  where
    nothing_left : set.difference a d ≡ set.empty
    nothing_left = empty_of_len (set.difference a d) (let sum = len-difference a d part in omega arith)

    step : (in_d in_a : Bool) → (in_d ≡ true → in_a ≡ true) → (in_a && not in_d) ≡ false → in_d ≡ in_a
    step d a part none = grind (arith, part)

-- the size of a union of sets with no member in common
pub len-union : (a b : Set) → ((x : ℕ) → set.contains a x ≡ true → set.contains b x ≡ false) → set.len (set.union a b)
    ≡ set.len a + set.len b
len-union a b apart = sym (len-make_up a b (set.union a b) (λ x. grind (arith, nat_tests, set_members, apart x)))

-- the numbers 1 to m are m numbers
pub len-all : (m : ℕ) → set.len (all m) ≡ m
unfolding all
len-all zero = len-empty
len-all (suc m) = len-insert (all m) (suc m) ∙ ap (λ b. cond b (set.len (all m)) (set.len (all m) + 1))
    (contains-all m (suc m) ∙ above m) ∙ (let size = len-all m in omega arith)
  where
    above : (m : ℕ) → (nat_lt 0 (suc m) && nat_le (suc m) m) ≡ false
    above m = grind (arith, nat_tests)

-- a set of alternatives is a part of all of them
pub part_of_all : (a : Set) → IsBounded a → IsPart a (all limit)
part_of_all a bounded x member = contains-all limit x ∙ inside x (bounded.within x member)
  where
    inside : (x : ℕ) → (1 ≤ x) × (x ≤ limit) → (nat_lt 0 x && nat_le x limit) ≡ true
    inside x within = let low = within.0 in let high = within.1 in grind (arith, nat_tests)

-- a set of alternatives has no more members than there are alternatives
pub len-bounded : (a : Set) → IsBounded a → set.len a ≤ limit
len-bounded a bounded = let size = len-all limit in let part = len-part a (all limit) (part_of_all a bounded)
    in omega arith
