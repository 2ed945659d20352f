use Rattle.vir_mean.proofs.RestrictedLifts.{unchanged_profile_is_a_lift}
use Rattle.vir_mean.proofs.lift_laws.unchanged_profile_is_a_lift.Goals as goal

pub returns : goal.returns
returns c = unchanged_profile_is_a_lift
