use Rattle.std.proofs.Common.{Ok, ap}
use Rattle.vir_claims.proofs.AnswerLemmas.{told_at_once}
use Rattle.vir_claims.proofs.refuting.refute.Goals as goal
use Rattle.vir_course.specs.declared.answer.Answer.TheVariants.{Text}
use Rattle.vir_course.specs.Wordings.{case_against}
use Rattle.vir_refute.specs.Judged.{case_of}
use Rattle.vir_sound.proofs.ProperTerms.{proper_in_range}
use Rattle.vir_term.specs.Tree.{tree}

pub returns-in_ok-violation_text-in-Violated : goal.returns-in_ok-violation_text-in-Violated
returns-in_ok-violation_text-in-Violated c =
    let term = tree c.args.rule.now in
    let proper = proper_in_range term c.requires.limits.in_range in
    let judged = c.in_ok-judge_case.ensures in
    let violated = ap Ok c.in-Violated.is in
    told_at_once (case_against term c.args.prop (case_of c.args.case.now))
    (Text c.in_ok-violation_text-in-Violated.field-0)
    (record {
      violates = judged.violated.0 c.in-Violated.is;
      false_of_it = judged.refuted violated;
      none_valid = judged.underivable violated proper;
      text_is = c.in_ok-violation_text-in-Violated.ensures;
    })
