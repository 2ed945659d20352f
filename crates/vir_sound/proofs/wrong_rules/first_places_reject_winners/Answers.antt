use Rattle.std.specs.Prelude.{codes}
use Rattle.vir_sound.proofs.WrongRows.{not_cprog, unsound_cprog_leaf}
use Rattle.vir_sound.proofs.wrong_rules.first_places_reject_winners.Goals as goal

pub returns-clause-judgement : goal.returns-clause-judgement
returns-clause-judgement c = not_cprog

pub returns-clause-row : goal.returns-clause-row
returns-clause-row c = unsound_cprog_leaf (codes "cprog-leaf")
