use Rattle.vir_rules.proofs.Rows.{rows_tell, rule_within}
use Rattle.vir_rules.proofs.table.row_of.Goals as goal

pub returns-clause-row : goal.returns-clause-row
returns-clause-row c = rows_tell c.rows.result.now c.number.result c.args.rule _ c.rows.ensures c.number.ensures.value
    c.number.ensures.some c.number.ensures.few

pub returns-clause-known : goal.returns-clause-known
returns-clause-known c = rule_within c.number.result c.args.rule c.number.ensures.value c.number.ensures.some
    c.number.ensures.few
