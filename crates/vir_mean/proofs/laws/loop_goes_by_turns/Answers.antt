use Rattle.vir_mean.specs.Meaning.{mean}
use Rattle.vir_mean.proofs.LoopLaws.{loop_of-turn}
use Rattle.vir_mean.proofs.MeaningLaws.{mean-split}
use Rattle.vir_mean.proofs.laws.loop_goes_by_turns.Goals as goal

pub returns : goal.returns
returns c = λ k body a lines. loop_of-turn k (mean body) (mean-split body) a lines
