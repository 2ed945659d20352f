use Rattle.vir_mean.proofs.RenamedElections.{renamed_election}
use Rattle.vir_mean.proofs.laws.renamed_elections_are_elections.Goals as goal

pub returns : goal.returns
returns c = renamed_election
