use Rattle.vir_mean.proofs.BordaAverage.{borda_above_average}
use Rattle.vir_mean.proofs.winner_laws.condorcet_winner_is_above_the_borda_average.Goals as goal

pub returns : goal.returns
returns c = λ a p w on winner two. borda_above_average a p on w winner two
