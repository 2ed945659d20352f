use Rattle.vir_compile.proofs.Executed.{exact}
use Rattle.vir_compile.proofs.laws.steps_left_are_exact.Goals as goal

pub returns : goal.returns
returns c = exact
