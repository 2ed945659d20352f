use Rattle.std.specs.Prelude.{codes}
use Rattle.vir_mean.specs.Meaning.{mean}
use Rattle.vir_sound.proofs.WrongRows.{not_dcc, unsound_dcc_loop}
use Rattle.vir_sound.proofs.wrong_rules.loops_to_two_keep_a_loser.Goals as goal

pub returns-clause-judgement : goal.returns-clause-judgement
returns-clause-judgement c = λ body. not_dcc (mean body)

pub returns-clause-row : goal.returns-clause-row
returns-clause-row c = unsound_dcc_loop (codes "dcc-loop")
