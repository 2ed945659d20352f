use Rattle.vir_compile.proofs.Executed.{to_the_meaning}
use Rattle.vir_compile.proofs.laws.code_executes_to_the_meaning.Goals as goal

pub returns : goal.returns
returns c = to_the_meaning
