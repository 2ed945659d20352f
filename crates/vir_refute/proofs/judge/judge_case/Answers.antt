use Rattle.vir_term.specs.Tree.{tree}
use Rattle.vir_mean.specs.Meaning.{mean}
use Rattle.vir_refute.specs.Judged.{case_of}
use Rattle.vir_refute.proofs.ExactVerdicts.{of_answer, premise_exact, clause_exact, refuted, underivable}
use Rattle.vir_refute.proofs.judge.judge_case.Goals as goal

pub returns-clause-premise_not_met : goal.returns-clause-premise_not_met
returns-clause-premise_not_met c =
    of_answer _ _ c.verdict_on.result
    (premise_exact c.args.prop (mean (tree c.args.term.now)) (case_of c.args.case.now)) c.verdict_on.ensures

pub returns-clause-clause_holds : goal.returns-clause-clause_holds
returns-clause-clause_holds c =
    of_answer _ _ c.verdict_on.result
    (clause_exact c.args.prop (mean (tree c.args.term.now)) (case_of c.args.case.now)) c.verdict_on.ensures

pub returns-clause-refuted : goal.returns-clause-refuted
returns-clause-refuted c =
    refuted (tree c.args.term.now) c.args.prop (case_of c.args.case.now) c.verdict_on.result c.verdict_on.ensures
    c.are_elections.ensures

pub returns-clause-underivable : goal.returns-clause-underivable
returns-clause-underivable c =
    underivable (tree c.args.term.now) c.args.prop (case_of c.args.case.now) c.verdict_on.result c.verdict_on.ensures
    c.are_elections.ensures
