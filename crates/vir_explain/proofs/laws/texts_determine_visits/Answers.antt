use Rattle.vir_explain.proofs.ReadVisits.{visits_read}
use Rattle.vir_explain.proofs.laws.texts_determine_visits.Goals as goal

pub returns : goal.returns
returns c = visits_read
