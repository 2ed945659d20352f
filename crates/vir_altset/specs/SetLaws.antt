-- The laws of finite sets at sets of numbers, where two numbers are one member just where they are equal.
-- (The program's promises don't stand on this file.)
use Rattle.std.specs.Prelude.{◌≡◌, ◌≢◌, ◌<◌, ◌≤◌, ℕ, zero, suc, Bool, true, false, not, ◌&&◌, ◌||◌, List, nat_eq}
use Rattle.std.specs.Prelude.{nat_lt, nat_le}
use Rattle.std.specs.FinSet as set
use Rattle.std.specs.FinSet.{nat_cmp-IsAntisymmetric}
use Rattle.std.specs.Cmp.{nat_cmp_total, unsigned_tied}
use Rattle.std.specs.List.{list_any}
use Rattle.std.specs.Ordering.{nat_cmp}
use Rattle.std.proofs.Common.{sym, ap, ◌∙◌, arith}
use Rattle.std.proofs.lemmas.Bool.Decides.{nat_tests}
use Rattle.vir_altset.specs.Sets.{Set, all}

pub contains-empty : (x : ℕ) → set.contains (set.empty {R = nat_cmp}) x ≡ false
contains-empty x = set.contains-empty nat_cmp x

pub contains-insert : (a : Set) (y x : ℕ) → set.contains (set.insert a y) x ≡ (nat_eq x y || set.contains a x)
contains-insert a y x = set.contains-insert nat_cmp_total a y x ∙ ap (λ b. b || set.contains a x) (unsigned_tied x y)

pub contains-remove : (a : Set) (y x : ℕ) → set.contains (set.remove a y) x ≡ (not (nat_eq x y) && set.contains a x)
contains-remove a y x = set.contains-remove nat_cmp_total a y x ∙ ap (λ b. not b && set.contains a x)
    (unsigned_tied x y)

pub contains-union : (a b : Set) (x : ℕ) → set.contains (set.union a b) x ≡ (set.contains a x || set.contains b x)
contains-union a b x = set.contains-union nat_cmp_total a b x

pub contains-intersection : (a b : Set) (x : ℕ) → set.contains (set.intersection a b) x
    ≡ (set.contains a x && set.contains b x)
contains-intersection a b x = set.contains-intersection nat_cmp_total a b x

pub contains-difference : (a b : Set) (x : ℕ) → set.contains (set.difference a b) x
    ≡ (set.contains a x && not (set.contains b x))
contains-difference a b x = set.contains-difference nat_cmp_total a b x

pub contains-retain : (a : Set) (p : ℕ → Bool) (x : ℕ) → set.contains (set.retain a p) x ≡ (set.contains a x && p x)
contains-retain a p x = set.contains-retain a p x (λ y tie. ap p (sym (nat_cmp-IsAntisymmetric x y tie)))

pub contains-from_list : (xs : List ℕ) (x : ℕ) → set.contains (set.from_list {R = nat_cmp} xs) x
    ≡ list_any (λ y. nat_eq y x) xs
contains-from_list xs x = set.contains-from_list_nat xs x

none_up_to_0 : (x : ℕ) → false ≡ (nat_lt 0 x && nat_le x 0)
none_up_to_0 x = grind (arith, nat_tests)

one_more : (m x : ℕ) → (nat_eq x (suc m) || (nat_lt 0 x && nat_le x m)) ≡ (nat_lt 0 x && nat_le x (suc m))
one_more m x = grind (arith, nat_tests)

pub contains-all : (m x : ℕ) → set.contains (all m) x ≡ (nat_lt 0 x && nat_le x m)
unfolding all
contains-all zero x = contains-empty x ∙ none_up_to_0 x
contains-all (suc m) x = contains-insert (all m) (suc m) x ∙ ap (λ b. nat_eq x (suc m) || b) (contains-all m x)
    ∙ one_more m x

pub contains-insert-same : (a : Set) (x : ℕ) → set.contains (set.insert a x) x ≡ true
contains-insert-same a x = grind (arith, nat_tests, contains-insert)

pub contains-insert-other : (a : Set) (y x : ℕ) → x ≢ y → set.contains (set.insert a y) x ≡ set.contains a x
contains-insert-other a y x apart = grind (arith, nat_tests, contains-insert)

pub contains-remove-same : (a : Set) (x : ℕ) → set.contains (set.remove a x) x ≡ false
contains-remove-same a x = grind (arith, nat_tests, contains-remove)

pub contains-remove-other : (a : Set) (y x : ℕ) → x ≢ y → set.contains (set.remove a y) x ≡ set.contains a x
contains-remove-other a y x apart = grind (arith, nat_tests, contains-remove)

up_to : (m x : ℕ) (b : Bool) → 0 < x → x ≤ m → ((nat_lt 0 x && nat_le x m) && b) ≡ b
up_to m x b positive within = grind (arith, nat_tests)

-- of the numbers 1 to m, a test keeps those that it is true of
pub contains-retain_all : (m : ℕ) (p : ℕ → Bool) (x : ℕ) → 0 < x → x ≤ m → set.contains (set.retain (all m) p) x ≡ p x
contains-retain_all m p x positive within = contains-retain (all m) p x ∙ ap (λ b. b && p x) (contains-all m x)
    ∙ up_to m x (p x) positive within

-- two sets with the same members are equal
pub same_members : (a b : Set) → ((x : ℕ) → set.contains a x ≡ set.contains b x) → a ≡ b
same_members a b same = set.same_set nat_cmp_total nat_cmp-IsAntisymmetric a b same

-- which numbers a set contains, for each operation
pub ruleset set_members = (
  contains-empty,
  contains-insert,
  contains-remove,
  contains-union,
  contains-intersection,
  contains-difference,
  contains-retain,
  contains-all,
  contains-from_list,
)
