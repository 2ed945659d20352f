use Rattle.vir_profile.proofs.WinnerLaws.{condorcet_winner_is_unique}
use Rattle.vir_profile.proofs.laws.condorcet_winner_is_unique.Goals as goal

pub returns : goal.returns
returns c = condorcet_winner_is_unique
