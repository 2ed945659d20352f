use Rattle.std.proofs.Common.{refl}
use Rattle.vir_term.specs.Tree.{tree}
use Rattle.vir_counting.proofs.RunLemmas.{run_of_whole, split_of_whole, whole_of}
use Rattle.vir_counting.proofs.run.split_of.Goals as goal

pub returns-clause-split : goal.returns-clause-split
returns-clause-split g c =
    let whole = whole_of c.args.election.now c.args.election.now c.alternatives.result c.all-domain.result refl
    c.all-domain.ensures c.alternatives.ensures.number c.alternatives.ensures.limits in
    split_of_whole (tree c.args.rule.now) c.args.election.now.profile _ _ _ whole
    (c.run.ensures.meaning (tree c.args.rule.now) c.in_ok-code.ensures)

pub returns-clause-ran : goal.returns-clause-ran
returns-clause-ran g c =
    let whole = whole_of c.args.election.now c.args.election.now c.alternatives.result c.all-domain.result refl
    c.all-domain.ensures c.alternatives.ensures.number c.alternatives.ensures.limits in
    run_of_whole (tree c.args.rule.now) c.args.election.now.profile _ _ _ _ whole
    (c.run.ensures.calls (tree c.args.rule.now) c.in_ok-code.ensures) c.run.ensures.runs
