use Rattle.std.proofs.Common.{Err, ap, ◌∙◌}
use Rattle.std.proofs.lemmas.Result.{err_from_is_err_and}
use Rattle.vir_batch.proofs.SaidLemmas.{run_on, served_after, works_said, works_unsaid}
use Rattle.vir_batch.proofs.batches.add_said.Goals as goal
use Rattle.vir_batch.specs.Stages.{IsLineAdded}
use Rattle.vir_term.specs.Tree.{tree}

pub returns-in_err-add_counted-in-Ok-clause-works : goal.returns-in_err-add_counted-in-Ok-clause-works
returns-in_err-add_counted-in-Ok-clause-works g c =
    let p = err_from_is_err_and c.from_residual.result c.from_residual.ensures.1 in
    let term = tree c.args.compiled.now.rule.now in
    works_unsaid term c.args.name.now (λ one done. IsLineAdded term one c.args.lines.now c.add_counted.new.lines) _ _
    c.args.said c.in-Ok.file c.in-Ok.is c.from_residual.result (p.1 ∙ ap Err p.2)
    c.in_err-add_counted-in-Ok.ensures.began

pub returns-in_ok-add_counted-in-Ok-clause-works : goal.returns-in_ok-add_counted-in-Ok-clause-works
returns-in_ok-add_counted-in-Ok-clause-works g c =
    let term = tree c.args.compiled.now.rule.now in
    works_said term c.args.name.now (λ one done. IsLineAdded term one c.args.lines.now c.add_counted.new.lines) _ _
    c.args.said c.in-Ok.file c.in-Ok.is tt c.in_ok-add_counted-in-Ok.ensures.line
    c.in_ok-add_counted-in-Ok.ensures.ran

pub returns-in_ok-add_counted-in-Ok-clause-served : goal.returns-in_ok-add_counted-in-Ok-clause-served
returns-in_ok-add_counted-in-Ok-clause-served g c =
    served_after (run_on (tree c.args.compiled.now.rule.now) c.in-Ok.file) _ _
    c.in_ok-add_counted-in-Ok.ensures.ran
