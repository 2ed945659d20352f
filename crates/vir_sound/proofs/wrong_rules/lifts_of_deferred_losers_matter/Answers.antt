use Rattle.std.specs.Prelude.{codes}
use Rattle.vir_sound.proofs.WrongRows.{not_dli, unsound_dli_par}
use Rattle.vir_sound.proofs.wrong_rules.lifts_of_deferred_losers_matter.Goals as goal

pub returns-clause-judgement : goal.returns-clause-judgement
returns-clause-judgement c = not_dli

pub returns-clause-row : goal.returns-clause-row
returns-clause-row c = unsound_dli_par (codes "dli-par")
