use Rattle.vir_claims.specs.Holdings.{IsFirstOf}
use Rattle.vir_claims.proofs.synthesis.push_first.Goals as goal
use Rattle.vir_course.proofs.TellingLemmas.{tells_one}
use Rattle.vir_course.specs.Reports.{finding_text, holds}
use Rattle.vir_course.specs.Synthesized.{Held}
use Rattle.vir_rules.specs.RuleTrees.{rule_tree}
use Rattle.vir_term.specs.Tree.{tree}

pub returns : goal.returns
returns c =
    let held : Held = record { prop = c.args.prop; derivation = rule_tree c.in-Left.derivation } in
    tells_one (λ (h : Held). h.prop) IsFirstOf (λ (h : Held). finding_text h.prop (holds h.derivation))
    (tree c.args.derivations.now.term.now) held _ _ c.push_held.result
    (rw c.in-Left.is at c.in_ok-derivation.ensures.answer) c.push_held.ensures
