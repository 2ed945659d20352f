use Rattle.vir_mean.specs.Meaning.{mean}
use Rattle.vir_mean.proofs.MeaningLaws.{mean-split}
use Rattle.vir_machine.specs.Uses.{uses}
use Rattle.vir_machine.proofs.Turns.{loop_count-turn}
use Rattle.vir_machine.proofs.laws.uses_of_a_loop_go_by_turns.Goals as goal

pub returns : goal.returns
returns c i served k body a lines = loop_count-turn k (mean body) (mean-split body) (uses i served body) a lines
