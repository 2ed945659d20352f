use Rattle.std.proofs.Common.{true≢false, sym}
use Rattle.vir_mean.specs.Lifts.{Raises}
use Rattle.vir_refute.proofs.LiftedElections.{length-related}
use Rattle.vir_refute.proofs.lifts.lifts.Goals as goal

pub returns-then-before-after : goal.returns-then-before-after
returns-then-before-after c = (
  λ wrong. absurd (true≢false (sym wrong)),
  λ lifts.
      absurd (c.if-before-after.true (length-related (Raises c.args.x) c.args.before.now c.args.after.now lifts)),
)
