use Rattle.vir_mean.proofs.NewNames.{new_names_matter}
use Rattle.vir_mean.proofs.laws.new_names_may_be_other_numbers.Goals as goal

pub returns : goal.returns
returns c = new_names_matter
