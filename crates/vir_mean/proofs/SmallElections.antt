-- Elections of two and of three alternatives, in which what a rule does is computed.
use Rattle.std.proofs.Common.{◌≡◌, ℕ, Bool, true, false, not, ◌&&◌, nat_lt, nat_le, List, [], ◌∷◌, map, All}
use Rattle.std.proofs.Common.{ℤ, pos, ◌*ℤ◌, int_lt, int_le, refl, sym, ap, ap₂, ◌∙◌, arith}
use Rattle.std.proofs.lemmas.Bool.Decides.{nat_tests}
use Rattle.std.proofs.lemmas.List.Elements.{All-nil, All-cons}
use Rattle.std.specs.Cmp.{nat_cmp_total}
use Rattle.std.specs.FinSet as set
use Rattle.std.specs.List.{list_any}
use Rattle.vir_altset.specs.SetLaws.{contains-all}
use Rattle.vir_altset.specs.Sets.{Set, all}
use Rattle.vir_altset.specs.Splits.{bit}
use Rattle.vir_altset.proofs.SizeLaws.{len-all}
use Rattle.vir_profile.specs.declared.ballot.Entry.{Entry}
use Rattle.vir_profile.specs.Orders.{IsListing}
use Rattle.vir_mean.specs.declared.elimination.Elimination.{Elimination}
use Rattle.vir_mean.specs.declared.elimination.Elimination.TheVariants.{Max, Min, Below, Upto}
use Rattle.vir_profile.specs.Elections.{IsElection}
use Rattle.vir_mean.specs.Eliminators.{goes, sum}
use Rattle.vir_mean.specs.Listings.{listed}
use Rattle.vir_mean.proofs.MemberCounts.{often, Lists, listing_of}
use Rattle.vir_mean.proofs.MemberListings.{any_listings, listed_lists, sum_listings}

-- a line of so many voters
abbrev pub line : ℕ → List ℕ → Entry
line voters preferred = record { weight = voters; order = preferred }

-- the order has each number from 1 to m once
abbrev pub HasEach : ℕ → List ℕ → Type 0
HasEach m order = (x : ℕ) → often x order ≡ bit (nat_lt 0 x && nat_le x m)

-- so it lists them
pub each_listed : (m : ℕ) (order : List ℕ) → HasEach m order → Lists (all m) order
each_listed m order each = record { each = λ x. each x ∙ sym (ap bit (contains-all m x)) }

-- all orders of these lines are such
abbrev pub HaveEach : ℕ → List Entry → Type 0
HaveEach m [] = Unit {0}
HaveEach m (entry ∷ rest) = HasEach m entry.order × HaveEach m rest

-- so the lines are a profile on these numbers, and both an election
pub election : (m : ℕ) (lines : List Entry) → HaveEach m lines → IsElection (all m) lines
election m lines have = record { positive = contains-all m 0; lists = go lines have }
  where
    go : (entries : List Entry) → HaveEach m entries → All (λ entry. IsListing (all m) entry.order) entries
    go [] have = All-nil (λ entry. IsListing (all m) entry.order)
    go (entry ∷ rest) have =
        All-cons (λ e. IsListing (all m) e.order) entry rest
        (listing_of (all m) entry.order (each_listed m entry.order have.0)) (go rest have.1)

-- ---- two alternatives
abbrev pub two : Set
two = all 2

pub one_two : HasEach 2 (1 ∷ 2 ∷ [])
one_two x = grind (arith, nat_tests)

pub two_one : HasEach 2 (2 ∷ 1 ∷ [])
two_one x = grind (arith, nat_tests)

-- a test of both, by their numbers
pub any_of_two : (t : ℕ → Bool) → list_any t (set.items two) ≡ list_any t (1 ∷ 2 ∷ [])
any_of_two t = any_listings t two (1 ∷ 2 ∷ []) (each_listed 2 (1 ∷ 2 ∷ []) one_two)

-- ---- three alternatives
abbrev pub three : Set
three = all 3

abbrev pub by_number : List ℕ
by_number = 1 ∷ 2 ∷ 3 ∷ []

pub one_two_three : HasEach 3 by_number
one_two_three x = grind (arith, nat_tests)

pub two_one_three : HasEach 3 (2 ∷ 1 ∷ 3 ∷ [])
two_one_three x = grind (arith, nat_tests)

pub three_one_two : HasEach 3 (3 ∷ 1 ∷ 2 ∷ [])
three_one_two x = grind (arith, nat_tests)

pub three_two_one : HasEach 3 (3 ∷ 2 ∷ 1 ∷ [])
three_two_one x = grind (arith, nat_tests)

pub lists_three : Lists three by_number
lists_three = each_listed 3 by_number one_two_three

-- a test of all three, by their numbers
pub any_of_three : (t : ℕ → Bool) → list_any t (set.items three) ≡ list_any t by_number
any_of_three t = any_listings t three by_number lists_three

-- whether one of three goes, by their numbers
abbrev pub goes_of_three : Elimination → (ℕ → ℤ) → ℕ → Bool
goes_of_three Max f x = list_any (λ y. int_lt (f x) (f y)) by_number
goes_of_three Min f x = not (list_any (λ y. int_lt (f y) (f x)) by_number)
goes_of_three Below f x = int_lt (f x *ℤ pos 3) (sum (map f by_number))
goes_of_three Upto f x = int_le (f x *ℤ pos 3) (sum (map f by_number))

sum_of_three : (f : ℕ → ℤ) → sum (map f (listed three)) ≡ sum (map f by_number)
sum_of_three f = sum_listings f three (listed three) by_number (listed_lists three) lists_three

pub goes_three : (kind : Elimination) (f : ℕ → ℤ) (x : ℕ) → goes kind f three x ≡ goes_of_three kind f x
goes_three Max f x = any_of_three (λ y. int_lt (f x) (f y))
goes_three Min f x = ap not (any_of_three (λ y. int_lt (f y) (f x)))
goes_three Below f x = ap₂ (λ n s. int_lt (f x *ℤ pos n) s) (len-all 3) (sum_of_three f)
goes_three Upto f x = ap₂ (λ n s. int_le (f x *ℤ pos n) s) (len-all 3) (sum_of_three f)

-- a set that lacks a member of another doesn't have all of it
pub lacks : (a d : Set) (x : ℕ) → set.contains a x ≡ true → set.contains d x ≡ false → set.is_subset a d ≡ false
lacks a d x inside outside = elim (set.is_subset a d) as (λ b. set.is_subset a d ≡ b → b ≡ false) [
  | true ↦ λ e. sym (set.is_subset-contains nat_cmp_total a d e x inside) ∙ outside
  | false ↦ λ e. refl
] refl
