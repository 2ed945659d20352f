use Rattle.std.proofs.Common.{◌≤◌, length, sym, subst}
use Rattle.vir_rules.specs.Table.{Rule}
use Rattle.vir_rules.proofs.Rows.{few_premises}
use Rattle.vir_rules.proofs.premises.need_count.Goals as goal

pub returns-clause-few : goal.returns-clause-few
returns-clause-few c = subst (λ (row : Rule). length row.premises ≤ 4) (sym c.row_of.ensures.row)
    (few_premises c.args.rule)
