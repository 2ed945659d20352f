use Rattle.vir_simplify.proofs.OneSimplification.{replays_alike}
use Rattle.vir_simplify.proofs.laws.replay_is_unique.Goals as goal

pub returns : goal.returns
returns c = λ t u v steps one other. replays_alike steps t u v one other
