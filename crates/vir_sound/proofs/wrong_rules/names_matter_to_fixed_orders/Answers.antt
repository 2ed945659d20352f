use Rattle.std.specs.Prelude.{codes}
use Rattle.vir_mean.proofs.Passing.{passing_has_an_order}
use Rattle.vir_sound.proofs.WrongRows.{unsound_neut_leaf}
use Rattle.vir_sound.proofs.wrong_rules.names_matter_to_fixed_orders.Goals as goal

pub returns-clause-judgement : goal.returns-clause-judgement
returns-clause-judgement c = passing_has_an_order

pub returns-clause-row : goal.returns-clause-row
returns-clause-row c = unsound_neut_leaf (codes "neut-leaf")
