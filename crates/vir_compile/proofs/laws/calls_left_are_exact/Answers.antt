use Rattle.vir_compile.proofs.Executed.{calls_exact}
use Rattle.vir_compile.proofs.laws.calls_left_are_exact.Goals as goal

pub returns : goal.returns
returns c = calls_exact
