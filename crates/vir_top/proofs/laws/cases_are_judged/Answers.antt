use Rattle.vir_top.proofs.PairLemmas.{unviolated_due, violated_due}
use Rattle.vir_top.proofs.laws.cases_are_judged.Goals as goal

pub returns-clause-violated : goal.returns-clause-violated
returns-clause-violated c = λ kinds all rule first second prop lifted status term file other is_rule is_first is_second
    violates due.
    violated_due all rule first second kinds prop lifted status due term file other is_rule is_first is_second violates

pub returns-clause-not_violated : goal.returns-clause-not_violated
returns-clause-not_violated c = λ kinds all rule first second prop lifted status term file other is_rule is_first
    is_second never due.
    unviolated_due all rule first second kinds prop lifted status due term file other is_rule is_first is_second never
