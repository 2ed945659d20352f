use Rattle.vir_rules.specs.Reasons.{reasons_seen}
use Rattle.vir_rules.specs.RuleTrees.{rule_tree}
use Rattle.vir_term.specs.Tree.{tree}
use Rattle.vir_course.specs.Reports.{Found, holds, underived}
use Rattle.vir_counting.proofs.ReportLemmas.{tells_found}
use Rattle.vir_counting.proofs.reports.push_finding.Goals as goal

pub returns-in-Left : goal.returns-in-Left
returns-in-Left c =
    let found : Found = record { prop = c.args.prop; finding = holds (rule_tree c.in-Left.derivation) } in
    tells_found (tree c.args.derivations.now.term.now) found _ _ c.push_held.result
    (rw c.in-Left.is at c.in_ok-derivation.ensures.answer) c.push_held.ensures

pub returns-in-Right : goal.returns-in-Right
returns-in-Right c =
    let found : Found = record { prop = c.args.prop; finding = underived (reasons_seen c.in-Right.why) } in
    tells_found (tree c.args.derivations.now.term.now) found _ _ c.push_underived.result
    (rw c.in-Right.is at c.in_ok-derivation.ensures.answer) c.push_underived.ensures
