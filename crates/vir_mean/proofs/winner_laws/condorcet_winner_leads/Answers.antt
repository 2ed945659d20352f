use Rattle.vir_mean.proofs.WinnerScores.{copeland_leads, minimax_leads, condorcet_leads}
use Rattle.vir_mean.proofs.winner_laws.condorcet_winner_leads.Goals as goal

pub returns-clause-copeland : goal.returns-clause-copeland
returns-clause-copeland c = λ a p w on winner y member apart. copeland_leads a p w winner y member apart

pub returns-clause-minimax : goal.returns-clause-minimax
returns-clause-minimax c = λ a p w on winner y member apart. minimax_leads a p w winner y member apart on

pub returns-clause-condorcet : goal.returns-clause-condorcet
returns-clause-condorcet c = λ a p w on winner y member apart. condorcet_leads a p w winner y member apart
