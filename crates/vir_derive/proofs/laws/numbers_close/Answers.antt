use Rattle.vir_derive.proofs.Closing.{alike}
use Rattle.vir_derive.proofs.laws.numbers_close.Goals as goal

pub returns : goal.returns
returns c = alike
