-- The laws of meanings.
use Rattle.std.proofs.Common.{◌≡◌, ℕ, zero, suc, Bool, true, false, cond, ◌||◌, not, List, Result, Ok, Err, IfOk}
use Rattle.std.specs.FinSet as set
use Rattle.vir_altset.specs.Sets.{Set}
use Rattle.vir_altset.specs.Splits.{IsSplitOf}
use Rattle.vir_altset.specs.declared.split.Split.{Split}
use Rattle.vir_altset.proofs.SplitLaws.{split_of_empty, all_elected, all_deferred, kept_elected_rest_rejected}
use Rattle.vir_altset.proofs.SplitLaws.{kept_deferred_rest_rejected, kept_rejected_rest_deferred, part_deferred}
use Rattle.vir_altset.proofs.SplitLaws.{elected_part, join_split, parallel_split}
use Rattle.vir_profile.specs.declared.ballot.Entry.{Entry}
use Rattle.vir_profile.specs.Profiles.{restrict}
use Rattle.vir_term.specs.declared.leaf.Leaf.{Leaf}
use Rattle.vir_term.specs.declared.leaf.Leaf.TheVariants as leaf
use Rattle.vir_term.specs.Tree.{End, Tree, leaf as module_of, rev, seq, par, loop}
use Rattle.vir_mean.specs.Eliminators.{is_passed, eliminated}
use Rattle.vir_mean.specs.FixedOrders.{is_among_first}
use Rattle.vir_mean.specs.Scores.{plurality_score}
use Rattle.vir_mean.specs.Modules.{Meaning, leaf_mean, all_deferred as deferring}
use Rattle.vir_mean.specs.Compositions.{is_end, joined, turn, turns}
use Rattle.vir_mean.specs.Meaning.{mean}

-- a meaning that splits each set
abbrev pub Splits : Meaning → Type 0
Splits m = (a : Set) (lines : List Entry) → IsSplitOf a (m a lines)

-- those that are to go are rejected, or nobody is
pub eliminated-split : (a : Set) (test : ℕ → Bool) → IsSplitOf a (eliminated a (set.retain a test))
eliminated-split a test = elim (set.is_subset a (set.retain a test)) as
    (λ b. IsSplitOf a (cond b (record { elected = set.empty; rejected = set.empty; deferred = a })
    (record { elected = set.empty; rejected = set.retain a test; deferred = set.difference a (set.retain a test) }))) [
      | true ↦ all_deferred a
      | false ↦ kept_rejected_rest_deferred a test
    ]

-- each module splits the set
pub leaf_mean-split : (l : Leaf) → Splits (leaf_mean l)
leaf_mean-split leaf.Elect a lines = all_elected a
leaf_mean-split leaf.Defer a lines = all_deferred a
leaf_mean-split (leaf.PassFirst k order) a lines = kept_deferred_rest_rejected a (is_among_first k order a)
leaf_mean-split (leaf.DropFirst k order) a lines = kept_rejected_rest_deferred a (is_among_first k order a)
leaf_mean-split leaf.Plurality a lines = kept_elected_rest_rejected a (λ x. not (is_passed (plurality_score lines) a x))
leaf_mean-split (leaf.Max s) a lines = eliminated-split a _
leaf_mean-split (leaf.Min s) a lines = eliminated-split a _
leaf_mean-split (leaf.Below s) a lines = eliminated-split a _
leaf_mean-split (leaf.Upto s) a lines = eliminated-split a _

-- what the second part of a sequence makes of what the first defers
joined-split : (first second : Meaning) → Splits first → Splits second → (a : Set) (lines : List Entry)
    → IsSplitOf a (joined (first a lines) (second (first a lines).deferred (restrict (first a lines).deferred lines)))
joined-split first second one other a lines =
    let decided = first a lines in
    join_split a decided (second decided.deferred (restrict decided.deferred lines)) (one a lines)
    (other decided.deferred (restrict decided.deferred lines))

-- a turn splits the set, where the body and what comes next do
turn-split : (k : End) (body next : Meaning) → Splits body → Splits next → Splits (turn k body next)
turn-split k body next one other a lines =
    elim (is_end k (set.len a) || set.is_subset a (body a lines).deferred) as
    (λ b.
    IsSplitOf a
    (cond b (deferring a lines)
    (joined (body a lines) (next (body a lines).deferred (restrict (body a lines).deferred lines))))) [
      | true ↦ all_deferred a
      | false ↦ joined-split body next one other a lines
    ]

pub turns-split : (most : ℕ) (k : End) (body : Meaning) → Splits body → Splits (turns most k body)
unfolding turns
turns-split zero k body one a lines = all_deferred a
turns-split (suc most) k body one a lines = turn-split k body (turns most k body) one (turns-split most k body one) a
    lines

-- each term splits the set
pub mean-split : (t : Tree) → Splits (mean t)
mean-split (module_of l) a lines = leaf_mean-split l a lines
mean-split (rev part) a lines = part_deferred a (mean part a lines).elected (elected_part a (mean part a lines)
    (mean-split part a lines))
mean-split (seq first second) a lines = joined-split (mean first) (mean second) (mean-split first) (mean-split second) a
    lines
mean-split (par first second) a lines = parallel_split a (mean first a lines) (mean second a lines)
    (mean-split first a lines) (mean-split second a lines)
mean-split (loop k body) a lines = turns-split (set.len a) k (mean body) (mean-split body) a lines

-- on no alternatives nothing is elected, rejected or deferred
pub mean-empty : (t : Tree) (lines : List Entry) → mean t set.empty lines
    ≡ record { elected = set.empty; rejected = set.empty; deferred = set.empty }
mean-empty t lines = split_of_empty (mean t set.empty lines) (mean-split t set.empty lines)

-- an answered meaning is a split
pub answered_split : {E : Type 0} (answer : Result Split E) (t : Tree) (a : Set) (lines : List Entry)
    → IfOk answer (λ s. s ≡ mean t a lines) → IfOk answer (IsSplitOf a)
answered_split (Ok s) t a lines is = rw is (mean-split t a lines)
answered_split (Err e) t a lines is = is
