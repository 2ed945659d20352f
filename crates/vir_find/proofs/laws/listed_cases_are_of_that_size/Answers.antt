use Rattle.vir_find.proofs.ListedCases.{listed_cases}
use Rattle.vir_find.proofs.laws.listed_cases_are_of_that_size.Goals as goal

pub returns : goal.returns
returns c = λ prop most voters. listed_cases prop most voters
