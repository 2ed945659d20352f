use Rattle.vir_mean.proofs.MovedBack.{moved_back}
use Rattle.vir_mean.proofs.lift_laws.moving_back_may_lower_a_score.Goals as goal

pub returns : goal.returns
returns c = moved_back
