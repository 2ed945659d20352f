use Rattle.vir_term.specs.Tree.{exactly}
use Rattle.vir_mean.specs.Meaning.{mean}
use Rattle.vir_mean.proofs.LoopLaws.{loop_of-few}
use Rattle.vir_mean.proofs.laws.loop_of_k_alternatives_stops.Goals as goal

pub returns : goal.returns
returns c = λ k body a lines few. loop_of-few (exactly k) (mean body) a lines few
