use Rattle.vir_mean.proofs.Passing.{passing_has_an_order}
use Rattle.vir_mean.proofs.laws.passing_is_not_neutral.Goals as goal

pub returns : goal.returns
returns c = passing_has_an_order
