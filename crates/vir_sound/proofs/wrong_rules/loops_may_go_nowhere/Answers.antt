use Rattle.std.specs.Prelude.{codes}
use Rattle.vir_sound.proofs.WrongRows.{not_defers, unsound_defers_loop}
use Rattle.vir_sound.proofs.wrong_rules.loops_may_go_nowhere.Goals as goal

pub returns-clause-judgement : goal.returns-clause-judgement
returns-clause-judgement c = not_defers

pub returns-clause-row : goal.returns-clause-row
returns-clause-row c = unsound_defers_loop (codes "defers-loop-one")
