use Rattle.std.proofs.Common.{◌∙◌, arith}
use Rattle.vir_read.proofs.TypingLemmas.{value_step}
use Rattle.vir_read.proofs.arguments.value.Goals as goal

pub loop-digit-preserved : goal.loop-digit-preserved
loop-digit-preserved c = record {
  small = omega arith;
  same = value_step c.args.digits.now c.loop-digit.digit-index c.loop-digit.n c.min-n.result c.from.result 0
      c.loop-digit-test.true c.min-n.ensures (c.from.ensures ∙ c.saturating_sub.ensures) ∙ c.loop-digit.invariant.same;
}
