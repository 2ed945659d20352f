use Rattle.vir_soc.proofs.AcceptedLemmas.{votes_are_lines}
use Rattle.vir_soc.proofs.laws.votes_are_lines.Goals as goal

pub returns : goal.returns
returns c = votes_are_lines
