use Rattle.vir_compile.proofs.Executed.{on_restricted_ballots}
use Rattle.vir_compile.proofs.laws.code_executes_on_restricted_ballots.Goals as goal

pub returns : goal.returns
returns c = on_restricted_ballots
