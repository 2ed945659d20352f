use Rattle.std.proofs.Common.{true≢false, sym, ◌∙◌, arith}
use Rattle.vir_refute.proofs.Candidates.{only_first, only_stays, only_changes, only_left}
use Rattle.vir_refute.proofs.winner.only_candidate.Goals as goal
use Rattle.vir_refute.proofs.winner.only_candidate.Goals.{then-not-beats, else-not-beats}

pub loop-y-init : goal.loop-y-init
loop-y-init c = record {
  some = omega arith;
  before = omega arith;
  within = c.alternatives-y-end.ensures.limits.some;
  only = only_first c.args.profile.now.alternatives c.args.profile.now.lines;
}

pub loop-y-preserved : goal.loop-y-preserved
loop-y-preserved c =
    let m = c.args.profile.now.alternatives in
    let lines = c.args.profile.now.lines in
    let candidate = c.loop-y.candidate in
    let y = c.loop-y.y in
    let is = c.loop-y.invariant in
    elim c.if-not-beats.branch [
      | then-not-beats w ↦ rw w.candidate-is (record {
        some = omega arith;
        before = omega arith;
        within = omega arith;
        only = only_changes m lines candidate y is.some is.before (omega arith) is.only
            (λ beats. true≢false (sym (c.beats.ensures.1 beats) ∙ w.if-not-beats.true));
      })
      | else-not-beats w ↦ rw w.candidate-is (record {
        some = is.some;
        before = omega arith;
        within = is.within;
        only = only_stays m lines candidate y is.some is.before (omega arith) is.only
            (c.beats.ensures.0 w.if-not-beats.false);
      })
    ]

pub returns-clause-only : goal.returns-clause-only
returns-clause-only c =
    only_left c.args.profile.now.alternatives c.args.profile.now.lines c.loop-y.candidate c.loop-y.y (omega arith)
    c.loop-y.invariant.only
