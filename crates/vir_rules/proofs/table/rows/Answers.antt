use Rattle.std.proofs.Common.{refl}
use Rattle.vir_rules.specs.Table.{table}
use Rattle.vir_rules.proofs.table.rows.Goals as goal

pub returns : goal.returns
unfolding table
returns c = refl
