-- Runs of terms, one after another.
use Rattle.std.proofs.Common.{◌≡◌, ℕ, suc, ◌-◌, ◌≤◌, length, take, drop, Bool, true, false, ◌&&◌, cond, List, [], ◌∷◌}
use Rattle.std.proofs.Common.{◌++◌, map, Option, None, Some, Result, Ok, Err, OnErr, refl, sym, ap, ◌∙◌, subst, inl}
use Rattle.std.proofs.Common.{inr, arith}
use Rattle.std.proofs.Math.Seq.{take-length}
use Rattle.std.specs.Prelude.{slice_index_or}
use Rattle.vir_machine.proofs.Served.{served_of_none}
use Rattle.vir_machine.specs.Bench.{is_served}
use Rattle.vir_machine.specs.Uses.{all_served, first_unserved, or_else, uses}
use Rattle.vir_machine.proofs.Raised.{kinds_of-raised}
use Rattle.vir_altset.specs.Sets.{all}
use Rattle.vir_profile.specs.Profiles.{Votes}
use Rattle.vir_term.specs.declared.leaf.Leaf.{Leaf}
use Rattle.vir_term.specs.declared.leaf.LeafKind.{LeafKind}
use Rattle.vir_term.specs.declared.term.Term.{Term}
use Rattle.vir_term.specs.Kinds.{kind_of}
use Rattle.vir_term.specs.Limits.{IsWithinLimits}
use Rattle.vir_term.specs.Tree.{Tree, tree, leaf, rev, seq, par, loop}
use Rattle.vir_counting.specs.DrillResults.{AreServed, AreWithinLimits, MadeFirst, drill_terms, drill_text}
use Rattle.vir_counting.specs.DrillResults.{elected_lines}
use Rattle.vir_counting.specs.DrillResults.{first_unserved_of, runs_on, size_line}
use Rattle.vir_machine.specs.Runs.{BenchView, Run, after_run, served_by}
use Rattle.vir_course.specs.Steps.{after_steps, steps_of_runs}

-- ---- the first of some terms, and the others
pub parts_of : (terms : List Term) (first : Term) → 1 ≤ length terms → first ≡ slice_index_or terms 0 first
    → map tree terms ≡ tree first ∷ map tree (take (length terms - 1) (drop 1 terms))
parts_of [] first some is = absurd (omega arith)
parts_of (t ∷ rest) first some is =
    let less : suc (length rest) - 1 ≡ length rest = omega arith in
    let all_rest : take (suc (length rest) - 1) rest ≡ rest = ap (λ n. take n rest) less ∙ take-length rest in
    ap (λ (u : Term). tree u ∷ map tree rest) (sym is) ∙ ap (λ (us : List Term). tree first ∷ map tree us)
    (sym all_rest)

-- ---- what is served
none_left : (o p : Option Leaf) → or_else o p ≡ None → o ≡ None
none_left None p e = refl
none_left (Some l) p e = absurd cc

none_right : (o p : Option Leaf) → or_else o p ≡ None → p ≡ None
none_right None p e = e
none_right (Some l) p e = absurd cc

both : (a b : Bool) → a ≡ true → b ≡ true → (a && b) ≡ true
both a b one two = grind arith

pub served_first : (bench : BenchView) (terms : List Tree) (t : Tree) (rest : List Tree) → terms ≡ t ∷ rest
    → AreServed bench terms → all_served (served_by bench) t ≡ true
served_first bench terms t rest is served =
    served_of_none (served_by bench) t
    (none_left _ (first_unserved_of (served_by bench) rest)
    (sym (ap (first_unserved_of (served_by bench)) is) ∙ served.none))

abbrev run_of : Votes → Tree → Run
run_of votes t = record { term = t; votes = votes }

-- a run changes nothing of what is served
pub served_rest : (terms : List Tree) (t : Tree) (rest : List Tree) (votes : Votes) (old mid : BenchView)
    → terms ≡ t ∷ rest → AreServed old terms → mid ≡ after_run (run_of votes t) old → AreServed mid rest
served_rest terms t rest votes old mid is served made =
    let same : served_by mid ≡ served_by old =
    ap served_by made
    ∙ kinds_of-raised (λ i. uses i (served_by old) t (all votes.alternatives) votes.lines) old.counters in
    record {
      none =
          ap (λ (s : List (List LeafKind)). first_unserved_of s rest) same
          ∙ none_right (first_unserved (served_by old) t) _
          (sym (ap (first_unserved_of (served_by old)) is) ∙ served.none);
    }

pub within_first : (terms : List Tree) (t : Tree) (rest : List Tree) → terms ≡ t ∷ rest → AreWithinLimits terms
    → IsWithinLimits t
within_first terms t rest is within = (subst AreWithinLimits is within).0

pub within_rest : (terms : List Tree) (t : Tree) (rest : List Tree) → terms ≡ t ∷ rest → AreWithinLimits terms
    → AreWithinLimits rest
within_rest terms t rest is within = (subst AreWithinLimits is within).1

-- ---- what is made
pub made_one : {E : Type 0} (votes : Votes) (terms : List Tree) (t : Tree) (rest : List Tree) (old new : BenchView)
    (r : Result (Unit {0}) E) → terms ≡ t ∷ rest → new ≡ after_run (run_of votes t) old
    → OnErr r (MadeFirst (runs_on votes terms) old new)
made_one votes terms t rest old new (Ok done) is made = tt
made_one votes terms t rest old new (Err e) is made = record {
  first = run_of votes t ∷ [];
  rest = runs_on votes rest;
  all_runs = ap (runs_on votes) is;
  made = made;
}

pub made_more : {E : Type 0} (votes : Votes) (terms : List Tree) (t : Tree) (rest : List Tree) (old mid new : BenchView)
    (r : Result (Unit {0}) E) → terms ≡ t ∷ rest → mid ≡ after_run (run_of votes t) old
    → OnErr r (MadeFirst (runs_on votes rest) mid new) → OnErr r (MadeFirst (runs_on votes terms) old new)
made_more votes terms t rest old mid new (Ok done) is made next = tt
made_more votes terms t rest old mid new (Err e) is made next =
    record {
      first = run_of votes t ∷ next.first;
      rest = next.rest;
      all_runs = ap (runs_on votes) is ∙ ap (λ (runs : List Run). run_of votes t ∷ runs) next.all_runs;
      made = next.made ∙ ap (after_steps (steps_of_runs next.first)) made;
    }

-- ---- what `drill` comes to, of the rules that it has
module _ (votes made : Votes) (terms : List Tree) (same : made ≡ votes) (terms_are : terms ≡ drill_terms) where
  -- the runs are these
  pub drill_runs : runs_on made terms ≡ runs_on votes drill_terms
  drill_runs = ap (λ (v : Votes). runs_on v terms) same ∙ ap (runs_on votes) terms_are

  -- and the text is this one
  pub drill_printed : (text : List ℕ) → text ≡ size_line made ++ elected_lines made terms → text ≡ drill_text votes
  drill_printed text is =
      is ∙ ap (λ (v : Votes). size_line v ++ elected_lines v terms) same
      ∙ ap (λ (ts : List Tree). size_line votes ++ elected_lines votes ts) terms_are
