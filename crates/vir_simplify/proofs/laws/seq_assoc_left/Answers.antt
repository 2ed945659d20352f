use Rattle.std.proofs.Common.{sym}
use Rattle.vir_simplify.proofs.EquationLaws.{seq-assoc}
use Rattle.vir_simplify.proofs.laws.seq_assoc_left.Goals as goal

pub returns : goal.returns
returns c = λ m n t. sym (seq-assoc m n t)
