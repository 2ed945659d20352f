use Rattle.vir_rules.proofs.Checking.{bad_nodes_tell}
use Rattle.vir_rules.proofs.laws.bad_nodes_tell.Goals as goal

pub returns : goal.returns
returns c = bad_nodes_tell
