use Rattle.vir_profile.proofs.RestrictionLaws.{restriction_keeps_pairs}
use Rattle.vir_profile.proofs.laws.restriction_keeps_pairs.Goals as goal

pub returns : goal.returns
returns c = restriction_keeps_pairs
