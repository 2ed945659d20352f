use Rattle.vir_term.specs.Tree.{at_most}
use Rattle.vir_mean.specs.Meaning.{mean}
use Rattle.vir_mean.proofs.LoopLaws.{loop_of-few}
use Rattle.vir_mean.proofs.laws.until_of_few_alternatives_stops.Goals as goal

pub returns : goal.returns
returns c = λ k body a lines few. loop_of-few (at_most k) (mean body) a lines few
