use Rattle.vir_rules.proofs.Rows.{table_is_long}
use Rattle.vir_rules.proofs.laws.each_row_is_a_rule.Goals as goal

pub returns-clause-rows : goal.returns-clause-rows
returns-clause-rows c = table_is_long
