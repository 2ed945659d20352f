use Rattle.vir_find.proofs.ListedCases.{small_cases}
use Rattle.vir_find.proofs.laws.small_cases_suffice.Goals as goal

pub returns : goal.returns
returns c = λ t prop most voters. small_cases t prop most voters
