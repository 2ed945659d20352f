use Rattle.vir_profile.proofs.WinnerLaws.{condorcet_winner_stays}
use Rattle.vir_profile.proofs.laws.condorcet_winner_stays.Goals as goal

pub returns : goal.returns
returns c = condorcet_winner_stays
