use Rattle.std.specs.Prelude.{codes}
use Rattle.vir_sound.proofs.WrongRows.{not_dimono, unsound_dimono_leaf}
use Rattle.vir_sound.proofs.wrong_rules.leaders_by_minimax_may_change.Goals as goal

pub returns-clause-judgement : goal.returns-clause-judgement
returns-clause-judgement c = not_dimono

pub returns-clause-row : goal.returns-clause-row
returns-clause-row c = unsound_dimono_leaf (codes "dimono-leaf")
