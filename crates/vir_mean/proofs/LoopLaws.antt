-- The laws of loops.
use Rattle.std.proofs.Common.{◌≡◌, ◌≢◌, ℕ, zero, suc, ◌<◌, ◌≤◌, Bool, true, false, true≢false, cond, ◌||◌, nat_lt, List}
use Rattle.std.proofs.Common.{refl, sym, ap, ◌∙◌, arith}
use Rattle.std.proofs.lemmas.Bool.Decides.{nat_tests}
use Rattle.std.specs.Cmp.{nat_cmp_total}
use Rattle.std.specs.FinSet as set
use Rattle.vir_altset.specs.Sets.{Set, IsPart}
use Rattle.vir_altset.specs.SetLaws.{contains-empty, same_members, set_members}
use Rattle.vir_altset.specs.Splits.{IsSplitOf}
use Rattle.vir_altset.specs.declared.split.Split.{Split}
use Rattle.vir_altset.proofs.SizeLaws.{whole_part}
use Rattle.vir_altset.proofs.SplitLaws.{deferred_part}
use Rattle.vir_profile.specs.declared.ballot.Entry.{Entry}
use Rattle.vir_profile.specs.Profiles.{restrict}
use Rattle.vir_term.specs.Tree.{End, exactly, at_most}
use Rattle.vir_mean.specs.Modules.{Meaning, all_deferred}
use Rattle.vir_mean.specs.Compositions.{is_end, IsEnd, joined, turn, turns, loop_of}
use Rattle.vir_mean.proofs.MeaningLaws.{Splits}
use Rattle.vir_mean.proofs.RestrictionLemmas.{restrict-restrict}

-- ---- parts
subset_of_same : (a d : Set) → d ≡ a → set.is_subset a d ≡ true
subset_of_same a d same = set.contains-is_subset nat_cmp_total a d (λ x member. ap (λ s. set.contains s x) same
    ∙ member)

pub same_of_subset : (a d : Set) → IsPart d a → set.is_subset a d ≡ true → d ≡ a
same_of_subset a d part subset =
    same_members d a (λ x. both _ _ (part x) (set.is_subset-contains nat_cmp_total a d subset x))
  where
    both : (in_d in_a : Bool) → (in_d ≡ true → in_a ≡ true) → (in_a ≡ true → in_d ≡ true) → in_d ≡ in_a
    both in_d in_a there back = grind arith

subset_of_other : (a d : Set) → IsPart d a → d ≢ a → set.is_subset a d ≡ false
subset_of_other a d part apart = elim (set.is_subset a d) as (λ b. set.is_subset a d ≡ b → b ≡ false) [
  | true ↦ λ e. absurd (apart (same_of_subset a d part e))
  | false ↦ λ e. refl
] refl

-- a part without some member is smaller
pub len-part_of_other : (a d : Set) → IsPart d a → set.is_subset a d ≡ false → set.len d < set.len a
len-part_of_other a d part other = elim (nat_lt (set.len d) (set.len a)) as (λ b. nat_lt (set.len d) (set.len a) ≡ b
    → set.len d < set.len a) [
      | true ↦ λ e. grind (arith, nat_tests)
      | false ↦ λ e. absurd (true≢false (sym (subset_of_same a d (whole_part d a part (grind (arith, nat_tests))))
          ∙ other))
    ] refl

-- ---- joined splits
joined-joined : (first second third : Split) → joined (joined first second) third ≡ joined first (joined second third)
joined-joined first second third = λ i. record {
  elected = union-union first.elected second.elected third.elected i;
  rejected = union-union first.rejected second.rejected third.rejected i;
  deferred = third.deferred;
}
  where
    union-union : (a b c : Set) → set.union (set.union a b) c ≡ set.union a (set.union b c)
    union-union a b c = same_members _ _ (λ x. grind (arith, nat_tests, set_members))

-- where all that a split defers is deferred once more, nothing changes
pub joined-all_deferred : (split : Split) (lines : List Entry) → joined split (all_deferred split.deferred lines)
    ≡ split
joined-all_deferred split lines = λ i.
    record { elected = union-empty split.elected i; rejected = union-empty split.rejected i; deferred = split.deferred }
  where
    union-empty : (a : Set) → set.union a set.empty ≡ a
    union-empty a = same_members _ _ (λ x. grind (arith, nat_tests, set_members))

-- a split that defers the whole set
pub split_of_all_deferred : (a : Set) (split : Split) (lines : List Entry) → IsSplitOf a split → split.deferred ≡ a
    → split ≡ all_deferred a lines
split_of_all_deferred a split lines is all = λ i. record {
  elected = same_members split.elected set.empty (λ x. (none x).0 ∙ sym (contains-empty x)) i;
  rejected = same_members split.rejected set.empty (λ x. (none x).1 ∙ sym (contains-empty x)) i;
  deferred = all i;
}
  where
    none : (x : ℕ) → (set.contains split.elected x ≡ false) × (set.contains split.rejected x ≡ false)
    none x =
        let parts = is.parts x in
        let same : set.contains split.deferred x ≡ set.contains a x = ap (λ s. set.contains s x) all in
        (grind arith, grind arith)

-- ---- turns
choose : (few whole : Bool) (x y z : Split) → (whole ≡ false → y ≡ z) → cond (few || whole) x y ≡ cond (few || whole) x
    z
choose true whole x y z same = refl
choose false true x y z same = refl
choose false false x y z same = same refl

ends : (few whole : Bool) (x y : Split) → whole ≡ true → cond (few || whole) x y ≡ x
ends true whole x y is = refl
ends false true x y is = refl
ends false false x y is = absurd (true≢false (sym is))

goes_on : (few whole : Bool) (x y : Split) → few ≡ false → whole ≡ false → cond (few || whole) x y ≡ y
goes_on true whole x y some other = absurd (true≢false some)
goes_on false true x y some other = absurd (true≢false other)
goes_on false false x y some other = refl

at_end : (k : End) (n : ℕ) → IsEnd k n → is_end k n ≡ true
at_end (exactly k) n few = grind (arith, nat_tests)
at_end (at_most k) n few = grind (arith, nat_tests)

before_end : (k : End) (n : ℕ) → (IsEnd k n → ⊥) → is_end k n ≡ false
before_end (exactly k) n many = grind (arith, nat_tests)
before_end (at_most k) n many = grind (arith, nat_tests)

-- where the set is small enough
turns-few : (most : ℕ) (k : End) (body : Meaning) (a : Set) (lines : List Entry) → IsEnd k (set.len a)
    → turns most k body a lines ≡ all_deferred a lines
unfolding turns
turns-few zero k body a lines few = refl
turns-few (suc most) k body a lines few =
    ap (λ b. cond (b || set.is_subset a (body a lines).deferred) (all_deferred a lines)
    (joined (body a lines) (turns most k body (body a lines).deferred (restrict (body a lines).deferred lines))))
    (at_end k (set.len a) few)

-- a loop leaves a set that is small enough as it is
pub loop_of-few : (k : End) (body : Meaning) (a : Set) (lines : List Entry) → IsEnd k (set.len a)
    → loop_of k body a lines ≡ all_deferred a lines
loop_of-few k body a lines few = turns-few (set.len a) k body a lines few

-- and one of none
pub loop_of-none : (k : End) (body : Meaning) (a : Set) (lines : List Entry) → set.len a ≡ 0 → loop_of k body a lines
    ≡ all_deferred a lines
unfolding turns
loop_of-none k body a lines none = ap (λ most. turns most k body a lines) none

module _ (k : End) (body : Meaning) (splits : Splits body) where
  left_of : Set → List Entry → Set
  left_of a lines = (body a lines).deferred

  part : (a : Set) (lines : List Entry) → IsPart (body a lines).deferred a
  part a lines = deferred_part a (body a lines) (splits a lines)

  turn-same : (next other : Meaning) (a : Set) (lines : List Entry)
      → (set.is_subset a (body a lines).deferred ≡ false → next (body a lines).deferred
      (restrict (body a lines).deferred lines) ≡ other (body a lines).deferred
      (restrict (body a lines).deferred lines))
      → turn k body next a lines ≡ turn k body other a lines
  turn-same next other a lines same = choose (is_end k (set.len a)) (set.is_subset a (body a lines).deferred) _ _ _
      (λ e. ap (joined (body a lines)) (same e))

  turn-whole : (next : Meaning) (a : Set) (lines : List Entry) → (body a lines).deferred ≡ a → turn k body next a lines
      ≡ all_deferred a lines
  turn-whole next a lines whole = ends (is_end k (set.len a)) (set.is_subset a (body a lines).deferred) _ _
      (subset_of_same a (body a lines).deferred whole)

  turn-none : (next : Meaning) (a : Set) (lines : List Entry) → set.len a ≤ 0 → turn k body next a lines
      ≡ all_deferred a lines
  turn-none next a lines none = turn-whole next a lines (whole_part (body a lines).deferred a (part a lines)
      (omega arith))

  -- more turns than the set has members change nothing
  turns-enough : (most more : ℕ) (a : Set) (lines : List Entry) → set.len a ≤ most → set.len a ≤ more
      → turns most k body a lines ≡ turns more k body a lines
  unfolding turns
  turns-enough zero zero a lines one other = refl
  turns-enough zero (suc more) a lines one other = sym (turn-none (turns more k body) a lines one)
  turns-enough (suc most) zero a lines one other = turn-none (turns most k body) a lines other
  turns-enough (suc most) (suc more) a lines one other =
      turn-same (turns most k body) (turns more k body) a lines (λ e.
      let smaller = len-part_of_other a (body a lines).deferred (part a lines) e in
      turns-enough most more (body a lines).deferred (restrict (body a lines).deferred lines) (omega arith)
      (omega arith))

  -- a loop is one turn, and then the loop again
  pub loop_of-turn : (a : Set) (lines : List Entry) → loop_of k body a lines ≡ turn k body (loop_of k body) a lines
  unfolding turns
  loop_of-turn a lines =
      turns-enough (set.len a) (suc (set.len a)) a lines (omega arith) (omega arith)
      ∙ turn-same (turns (set.len a) k body) (loop_of k body) a lines (λ e.
      let smaller = len-part_of_other a (body a lines).deferred (part a lines) e in
      turns-enough (set.len a) (set.len (body a lines).deferred) (body a lines).deferred
      (restrict (body a lines).deferred lines) (omega arith) (omega arith))

  -- it ends where the body defers all
  pub loop_of-whole : (a : Set) (lines : List Entry) → (body a lines).deferred ≡ a → loop_of k body a lines
      ≡ all_deferred a lines
  loop_of-whole a lines whole = loop_of-turn a lines ∙ turn-whole (loop_of k body) a lines whole

  -- and else goes on with what the body defers
  pub loop_of-more : (a : Set) (lines : List Entry) → (IsEnd k (set.len a) → ⊥) → (body a lines).deferred ≢ a
      → loop_of k body a lines ≡ joined (body a lines) (loop_of k body (body a lines).deferred
      (restrict (body a lines).deferred lines))
  loop_of-more a lines some other =
      loop_of-turn a lines
      ∙ goes_on (is_end k (set.len a)) (set.is_subset a (body a lines).deferred) _ _ (before_end k (set.len a) some)
      (subset_of_other a (body a lines).deferred (part a lines) other)

  -- what such a turn leaves is smaller
  pub len-deferred : (a : Set) (lines : List Entry) → (body a lines).deferred ≢ a → set.len (body a lines).deferred <
      set.len a
  len-deferred a lines other = len-part_of_other a (body a lines).deferred (part a lines)
      (subset_of_other a (body a lines).deferred (part a lines) other)

  -- a split so far, and a further turn that goes on: the loop on lines that are restricted anew each turn
  pub joined-turn : (so_far next : Split) (lines : List Entry) → next ≡ body so_far.deferred
      (restrict so_far.deferred lines) → (IsEnd k (set.len so_far.deferred) → ⊥) → next.deferred ≢ so_far.deferred
      → joined (joined so_far next) (loop_of k body next.deferred (restrict next.deferred lines))
      ≡ joined so_far (loop_of k body so_far.deferred (restrict so_far.deferred lines))
  joined-turn so_far next lines is some other =
      let d = so_far.deferred in
      let left = restrict d lines in
      let smaller : (body d left).deferred ≢ d = λ e. other (ap (λ (s : Split). s.deferred) is ∙ e) in
      joined-joined so_far next (loop_of k body next.deferred (restrict next.deferred lines))
      ∙ ap (λ (s : Split). joined so_far (joined s (loop_of k body s.deferred (restrict s.deferred lines)))) is
      ∙ ap (λ (lines : List Entry). joined so_far (joined (body d left) (loop_of k body (body d left).deferred lines)))
      (sym (restrict-restrict (body d left).deferred d (part d left) lines))
      ∙ ap (joined so_far) (sym (loop_of-more d left some smaller))
