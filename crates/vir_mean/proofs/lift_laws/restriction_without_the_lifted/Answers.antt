use Rattle.vir_mean.proofs.RestrictedLifts.{restriction_without_the_lifted}
use Rattle.vir_mean.proofs.lift_laws.restriction_without_the_lifted.Goals as goal

pub returns : goal.returns
returns c = restriction_without_the_lifted
