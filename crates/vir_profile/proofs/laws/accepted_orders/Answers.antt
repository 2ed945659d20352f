use Rattle.vir_profile.proofs.OrderLaws.{accepted_orders}
use Rattle.vir_profile.proofs.laws.accepted_orders.Goals as goal

pub returns : goal.returns
returns c = accepted_orders
