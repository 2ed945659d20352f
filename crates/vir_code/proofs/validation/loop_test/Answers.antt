use Rattle.std.proofs.Common.{refl}
use Rattle.vir_term.specs.Tree.{exactly, at_most}
use Rattle.vir_code.proofs.validation.loop_test.Goals as goal

pub returns-in-LoopTest : goal.returns-in-LoopTest
returns-in-LoopTest c = (exactly c.in-LoopTest.k, c.in-LoopTest.is, refl)

pub returns-in-UntilTest : goal.returns-in-UntilTest
returns-in-UntilTest c = (at_most c.in-UntilTest.k, c.in-UntilTest.is, refl)
