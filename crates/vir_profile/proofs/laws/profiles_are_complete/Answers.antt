use Rattle.vir_profile.proofs.RestrictionLaws.{profiles_are_complete}
use Rattle.vir_profile.proofs.laws.profiles_are_complete.Goals as goal

pub returns : goal.returns
returns c = profiles_are_complete
