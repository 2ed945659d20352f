use Rattle.vir_derive.proofs.SignatureEquality.{equal_say_the_same, same_are_equal}
use Rattle.vir_derive.proofs.laws.equal_signatures_say_the_same.Goals as goal

pub returns : goal.returns
returns c = λ s r. (equal_say_the_same s r, same_are_equal s r)
