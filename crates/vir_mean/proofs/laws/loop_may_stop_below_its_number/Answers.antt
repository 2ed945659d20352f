use Rattle.vir_mean.proofs.CutLoops.{defers-cut_loop}
use Rattle.vir_mean.proofs.laws.loop_may_stop_below_its_number.Goals as goal

pub returns : goal.returns
returns c = defers-cut_loop
