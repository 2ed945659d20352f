use Rattle.vir_mean.proofs.RestrictedLifts.{restricted_lift}
use Rattle.vir_mean.proofs.lift_laws.restricted_lift.Goals as goal

pub returns : goal.returns
returns c = restricted_lift
