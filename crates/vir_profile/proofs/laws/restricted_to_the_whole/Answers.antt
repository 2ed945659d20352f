use Rattle.vir_profile.proofs.RestrictionLaws.{restricted_to_the_whole}
use Rattle.vir_profile.proofs.laws.restricted_to_the_whole.Goals as goal

pub returns : goal.returns
returns c = restricted_to_the_whole
