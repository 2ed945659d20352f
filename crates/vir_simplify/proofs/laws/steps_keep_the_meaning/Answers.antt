use Rattle.vir_simplify.proofs.StepLaws.{takes_means}
use Rattle.vir_simplify.proofs.laws.steps_keep_the_meaning.Goals as goal

pub returns : goal.returns
returns c = takes_means
