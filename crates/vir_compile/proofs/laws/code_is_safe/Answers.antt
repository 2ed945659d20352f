use Rattle.vir_compile.proofs.Executed.{safe}
use Rattle.vir_compile.proofs.laws.code_is_safe.Goals as goal

pub returns : goal.returns
returns c = safe
