use Rattle.vir_compile.proofs.Jumps.{within}
use Rattle.vir_compile.proofs.laws.jumps_stay_within.Goals as goal

pub returns : goal.returns
returns c = within
