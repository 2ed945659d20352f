use Rattle.std.proofs.Common.{arith}
use Rattle.std.proofs.lemmas.Grind.{common_steps}
use Rattle.vir_outside.proofs.Rests.{taken_more}
use Rattle.vir_outside.proofs.reading.read_selected.Goals as goal

pub returns-then-count-limit-clause-taken : goal.returns-then-count-limit-clause-taken
returns-then-count-limit-clause-taken g c =
    let so_far = c.loop-count.invariant in
    taken_more _ _ _ c.loop-count.whole.items c.read.new.buf c.in-Ok.count c.args.limit
    so_far.parts c.in-Ok.ensures.bytes.0 so_far.within (grind (arith, common_steps))

pub returns-then-is_err-clause-taken : goal.returns-then-is_err-clause-taken
returns-then-is_err-clause-taken g c =
    let so_far = c.loop-count.invariant in
    taken_more _ _ _ c.loop-count.whole.items c.read.new.buf c.in-Ok.count c.args.limit
    so_far.parts c.in-Ok.ensures.bytes.0 so_far.within (grind (arith, common_steps))
