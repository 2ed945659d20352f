use Rattle.vir_profile.proofs.RestrictionLaws.{restricted_orders}
use Rattle.vir_profile.proofs.laws.restricted_orders.Goals as goal

pub returns : goal.returns
returns c = restricted_orders
