use Rattle.vir_term.specs.Tree.{tree}
use Rattle.vir_counting.proofs.ReportLemmas.{head_of_parts}
use Rattle.vir_counting.proofs.reports.push_head.Goals as goal

pub returns : goal.returns
returns c =
    head_of_parts (tree c.args.rule.now) c.args.file.now c.profile.result.now c.names.result.now c.args.text.now.items _
    _ _ c.push_names.result c.profile.ensures c.names.ensures.names c.in_ok-push_rule.ensures
    c.in_ok-push_profile.ensures c.push_names.ensures
