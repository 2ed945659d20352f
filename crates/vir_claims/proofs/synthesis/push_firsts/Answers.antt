use Rattle.std.proofs.Common.{ap, get_or, subst, sym}
use Rattle.vir_claims.proofs.FoundLemmas.{derivable_at}
use Rattle.vir_claims.proofs.synthesis.push_firsts.Goals as goal
use Rattle.vir_course.proofs.TellingLemmas.{tells_next}
use Rattle.vir_rules.specs.Claims.{of}
use Rattle.vir_rules.specs.Derivations.{Derivable}
use Rattle.vir_term.specs.declared.prop.Prop.TheVariants.{Ne}
use Rattle.vir_term.specs.Tree.{Tree, tree}

pub push_first-requires : goal.push_first-requires
push_first-requires c =
    let props = c.args.props.now in
    let i = c.loop-prop.prop-index in
    subst (λ (t : Tree). Derivable (of (get_or props i Ne) t)) (sym (ap tree c.in_ok-derivations.ensures))
    (derivable_at (tree c.args.rule.now) props i Ne c.loop-prop-test.true c.requires)

pub loop-prop-preserved : goal.loop-prop-preserved
loop-prop-preserved c =
    tells_next (tree c.args.rule.now) (tree c.in_ok-derivations.derivations.term.now) c.args.props.now
    c.loop-prop.prop-index Ne _ _ _ (ap tree c.in_ok-derivations.ensures) c.loop-prop-test.true c.loop-prop.invariant
    c.in_ok-push_first.ensures
