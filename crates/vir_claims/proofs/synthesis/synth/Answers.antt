use Rattle.vir_claims.proofs.AnswerLemmas.{told_at_once}
use Rattle.vir_claims.proofs.FoundLemmas.{found_with}
use Rattle.vir_claims.proofs.synthesis.synth.Goals as goal
use Rattle.vir_course.specs.declared.answer.Answer.TheVariants.{Text}
use Rattle.vir_course.specs.Wordings.{first_with}
use Rattle.vir_term.specs.Tree.{tree}

pub returns-in_ok-found_text-in-Some : goal.returns-in_ok-found_text-in-Some
returns-in_ok-found_text-in-Some c =
    told_at_once (first_with c.args.size c.args.props.now c.args.modules.now)
    (Text c.in_ok-found_text-in-Some.field-0)
    (found_with c.args.modules.now c.args.size c.args.props.now (tree c.in-Some.rule) _ c.requires
    (rw c.in-Some.is at c.in_ok-rule.ensures) c.in_ok-found_text-in-Some.ensures)
