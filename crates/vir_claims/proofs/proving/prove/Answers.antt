use Rattle.vir_claims.proofs.AnswerLemmas.{told_at_once}
use Rattle.vir_claims.proofs.proving.prove.Goals as goal
use Rattle.vir_course.proofs.HeldLemmas.{held_by}
use Rattle.vir_course.specs.declared.answer.Answer.TheVariants.{Text}
use Rattle.vir_course.specs.Wordings.{proof_of}
use Rattle.vir_rules.specs.RuleTrees.{rule_tree}
use Rattle.vir_term.specs.Tree.{tree}

pub returns-in_ok-certificate_text-in-Left : goal.returns-in_ok-certificate_text-in-Left
returns-in_ok-certificate_text-in-Left c =
    let term = tree c.args.rule.now in
    let derivation = rule_tree c.in-Left.derivation in
    told_at_once (proof_of term c.args.prop) (Text c.in_ok-certificate_text-in-Left.field-0)
    (record {
      derivation = derivation;
      held = held_by term c.args.prop derivation c.requires.in_range
          (rw c.in-Left.is at c.in_ok-derivation.ensures.answer);
      text_is = c.in_ok-certificate_text-in-Left.ensures;
    })
