-- What many laws of meanings rest on: sets without members, profiles on what is deferred, and loops by their turns.
use Rattle.std.proofs.Common.{◌≡◌, ◌≢◌, ℕ, zero, suc, ◌+◌, ◌<◌, ◌≤◌, Bool, true, false, cond, ◌||◌, List, refl, sym, ap}
use Rattle.std.proofs.Common.{◌∙◌, subst, arith}
use Rattle.std.proofs.lemmas.Bool.Decides.{nat_tests}
use Rattle.std.specs.Cmp.{nat_cmp_total}
use Rattle.std.specs.FinSet as set
use Rattle.vir_altset.specs.Sets.{Set, IsPart}
use Rattle.vir_altset.specs.SetLaws.{contains-empty, contains-union, same_members}
use Rattle.vir_altset.specs.Splits.{IsSplitOf}
use Rattle.vir_altset.specs.declared.split.Split.{Split}
use Rattle.vir_altset.proofs.SizeLaws.{len_of_empty, empty_of_len, HasMember, member_of_len}
use Rattle.vir_altset.proofs.SplitLaws.{len-split, deferred_part}
use Rattle.vir_profile.specs.declared.ballot.Entry.{Entry}
use Rattle.vir_profile.specs.Profiles.{restrict}
use Rattle.vir_profile.specs.Elections.{IsElection}
use Rattle.vir_profile.proofs.RestrictionLaws.{restricted_orders as restricted_lists}
use Rattle.vir_mean.specs.Eliminators.{eliminated}
use Rattle.vir_mean.specs.Modules.{Meaning, all_deferred}
use Rattle.vir_term.specs.Tree.{End, exactly, at_most}
use Rattle.vir_mean.specs.Compositions.{is_end, IsEnd, joined, turn, loop_of}
use Rattle.vir_mean.proofs.MeaningLaws.{Splits}
use Rattle.vir_mean.proofs.LoopLaws.{len-part_of_other, loop_of-turn, same_of_subset}

-- what holds in both cases of a truth value
pub in_both_cases : {P : Type 0} (b : Bool) → (b ≡ true → P) → (b ≡ false → P) → P
in_both_cases true where_true where_false = where_true refl
in_both_cases false where_true where_false = where_false refl

-- ---- sets
-- equal sets have the same members
pub same_at : {a b : Set} (x : ℕ) → a ≡ b → set.contains a x ≡ set.contains b x
same_at x same = ap (λ s. set.contains s x) same

-- the empty set has no members
pub none_at : {a : Set} (x : ℕ) → a ≡ set.empty → set.contains a x ≡ false
none_at x none = same_at x none ∙ contains-empty x

-- a set without members is empty
pub empty_of_none : (a : Set) → ((x : ℕ) → set.contains a x ≡ false) → a ≡ set.empty
empty_of_none a none = same_members a set.empty (λ x. none x ∙ sym (contains-empty x))

-- a set that isn't empty has at least one member
pub some_of : (a : Set) → a ≢ set.empty → 1 ≤ set.len a
some_of a some = positive (set.len a) (λ none. some (empty_of_len a none))
  where
    positive : (n : ℕ) → (n ≡ 0 → ⊥) → 1 ≤ n
    positive n some = grind arith

pub not_empty : (a : Set) → 1 ≤ set.len a → a ≢ set.empty
not_empty a some none = let size = len_of_empty a none in absurd (omega arith)

-- a set of which it can't be that it isn't empty
pub empty_of_not : (a : Set) → (a ≢ set.empty → ⊥) → a ≡ set.empty
empty_of_not a never = empty_of_len a (zero_of (set.len a) (λ some. never (not_empty a some)))
  where
    zero_of : (n : ℕ) → (1 ≤ n → ⊥) → n ≡ 0
    zero_of n never = grind arith

pub member_of : (a : Set) → a ≢ set.empty → HasMember a
member_of a some = let size = some_of a some in one_of (set.len a) refl size
  where
    one_of : (n : ℕ) → set.len a ≡ n → 1 ≤ n → HasMember a
    one_of zero size some = absurd (omega arith)
    one_of (suc n) size some = member_of_len a n size

-- the union of two empty sets
pub union_none : (a b : Set) → a ≡ set.empty → b ≡ set.empty → set.union a b ≡ set.empty
union_none a b one other = empty_of_none (set.union a b) (λ x. let l = none_at x one in let r = none_at x other
    in let u = contains-union a b x in grind arith)

-- both parts of an empty union are empty
pub left_none : (a b : Set) → set.union a b ≡ set.empty → a ≡ set.empty
left_none a b none = empty_of_none a (λ x. let all = none_at x none in let u = contains-union a b x in grind arith)

pub right_none : (a b : Set) → set.union a b ≡ set.empty → b ≡ set.empty
right_none a b none = empty_of_none b (λ x. let all = none_at x none in let u = contains-union a b x in grind arith)

-- ---- splits
-- where nobody is elected, the others make up the set
pub len_of_not_elected : (a : Set) (s : Split) → IsSplitOf a s → s.elected ≡ set.empty → set.len s.rejected
    + set.len s.deferred ≡ set.len a
len_of_not_elected a s split none = let size = len-split a s split in let zero = len_of_empty s.elected none
    in omega arith

-- where nobody is elected or deferred, all are rejected
pub all_rejected : (a : Set) (s : Split) → IsSplitOf a s → s.elected ≡ set.empty → s.deferred ≡ set.empty → s.rejected
    ≡ a
all_rejected a s split no_elected no_deferred = same_members s.rejected a (λ x. let e = none_at x no_elected in let d =
    none_at x no_deferred in let parts = split.parts x in grind arith)

-- an eliminator elects nobody
pub elected-eliminated : (a gone : Set) → (eliminated a gone).elected ≡ set.empty
elected-eliminated a gone = elim (set.is_subset a gone) as
    (λ b. (cond {A = Split} b (record { elected = set.empty; rejected = set.empty; deferred = a })
    (record { elected = set.empty; rejected = gone; deferred = set.difference a gone })).elected ≡ set.empty) [
      | true ↦ refl
      | false ↦ refl
    ]

-- and doesn't reject all
pub rejected-eliminated : (a gone : Set) → a ≢ set.empty → (eliminated a gone).rejected ≢ a
rejected-eliminated a gone some = elim (set.is_subset a gone) as (λ b. set.is_subset a gone ≡ b
    → (cond {A = Split} b (record { elected = set.empty; rejected = set.empty; deferred = a })
    (record { elected = set.empty; rejected = gone; deferred = set.difference a gone })).rejected ≢ a) [
      | true ↦ λ all none. some (sym none)
      | false ↦ λ proper same.
          absurd (cc (proper, set.contains-is_subset nat_cmp_total a gone (λ x member. same_at x same ∙ member)))
    ] refl

-- of a part of the set
only_alternatives : (a d : Set) → IsPart d a → set.contains a 0 ≡ false → set.contains d 0 ≡ false
only_alternatives a d part none = neither (set.contains d 0) (set.contains a 0) (part 0) none
  where
    neither : (in_d in_a : Bool) → (in_d ≡ true → in_a ≡ true) → in_a ≡ false → in_d ≡ false
    neither in_d in_a there none = grind arith

pub restricted_orders : (a d : Set) (p : List Entry) → IsPart d a → IsElection a p → IsElection d (restrict d p)
restricted_orders a d p part on = record {
  positive = only_alternatives a d part on.positive;
  lists = restricted_lists a d p part on.lists;
}

-- the profile restricted to what a meaning defers is one on that
pub deferred_profile : (m : Meaning) → Splits m → (a : Set) (p : List Entry) → IsElection a p
    → IsElection (m a p).deferred (restrict (m a p).deferred p)
deferred_profile m splits a p on = restricted_orders a (m a p).deferred p (deferred_part a (m a p) (splits a p)) on

-- ---- loops
choice : (P : Split → Type 0) (few whole : Bool) (x y : Split) → (few ≡ true → P x) → (few ≡ false → whole ≡ true → P x)
    → (few ≡ false → whole ≡ false → P y) → P (cond (few || whole) x y)
choice P true whole x y one two three = one refl
choice P false true x y one two three = two refl refl
choice P false false x y one two three = three refl refl

ended : (k : End) (n : ℕ) → is_end k n ≡ true → IsEnd k n
ended (exactly k) n test = grind (arith, nat_tests)
ended (at_most k) n test = grind (arith, nat_tests)

goes_on : (k : End) (n : ℕ) → is_end k n ≡ false → IsEnd k n → ⊥
goes_on (exactly k) n test end = grind (arith, nat_tests)
goes_on (at_most k) n test end = grind (arith, nat_tests)

-- A turn has three cases: the set is small enough, the body defers all of it, or the loop goes on with fewer.
pub turn_cases : (P : Split → Type 0) (k : End) (body next : Meaning) → Splits body → (a : Set) (p : List Entry)
    → (IsEnd k (set.len a) → P (all_deferred a p))
    → ((IsEnd k (set.len a) → ⊥) → (body a p).deferred ≡ a → P (all_deferred a p))
    → ((IsEnd k (set.len a) → ⊥) → IsPart (body a p).deferred a → set.len (body a p).deferred < set.len a
    → P (joined (body a p) (next (body a p).deferred (restrict (body a p).deferred p))))
    → P (turn k body next a p)
turn_cases P k body next splits a p few whole more =
    let part = deferred_part a (body a p) (splits a p) in
    choice P (is_end k (set.len a)) (set.is_subset a (body a p).deferred) (all_deferred a p) _
    (λ e. few (ended k _ e))
    (λ e all. whole (goes_on k _ e) (same_of_subset a (body a p).deferred part all))
    (λ e proper. more (goes_on k _ e) part (len-part_of_other a (body a p).deferred part proper))

-- What holds where a loop ends, and goes over from what its body defers to the whole, holds of the loop.
module _ (k : End) (body : Meaning) (splits : Splits body) (P : Set → List Entry → Split → Type 0)
    (few : (a : Set) (p : List Entry) → IsElection a p → IsEnd k (set.len a) → P a p (all_deferred a p))
    (whole : (a : Set) (p : List Entry) → IsElection a p → (IsEnd k (set.len a) → ⊥) → (body a p).deferred ≡ a
    → P a p (all_deferred a p))
    (more : (a : Set) (p : List Entry) → IsElection a p → (IsEnd k (set.len a) → ⊥) → set.len (body a p).deferred <
    set.len a
    → P (body a p).deferred (restrict (body a p).deferred p) (loop_of k body (body a p).deferred
    (restrict (body a p).deferred p))
    → P a p (joined (body a p) (loop_of k body (body a p).deferred (restrict (body a p).deferred p)))) where
  up_to : (most : ℕ) (a : Set) (p : List Entry) → set.len a < most → IsElection a p → P a p (loop_of k body a p)
  up_to zero a p size on = absurd (omega arith)
  up_to (suc most) a p size on = subst (P a p) (sym (loop_of-turn k body splits a p))
      (turn_cases (P a p) k body (loop_of k body) splits a p (few a p on) (whole a p on)
      (λ differ part smaller. more a p on differ smaller
      (up_to most (body a p).deferred (restrict (body a p).deferred p) (omega arith)
      (deferred_profile body splits a p on))))

  pub by_turns : (a : Set) (p : List Entry) → IsElection a p → P a p (loop_of k body a p)
  by_turns a p on = up_to (suc (set.len a)) a p (omega arith) on
