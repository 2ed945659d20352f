use Rattle.vir_explain.proofs.LegibleVisits.{visits_legible}
use Rattle.vir_explain.proofs.laws.visits_are_legible.Goals as goal

pub returns : goal.returns
returns c = visits_legible
