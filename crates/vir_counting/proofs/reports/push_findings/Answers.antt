use Rattle.std.proofs.Common.{ap}
use Rattle.vir_term.specs.declared.prop.Prop.TheVariants.{Ne}
use Rattle.vir_term.specs.Tree.{tree}
use Rattle.vir_course.proofs.TellingLemmas.{tells_next}
use Rattle.vir_counting.proofs.reports.push_findings.Goals as goal

pub loop-prop-preserved : goal.loop-prop-preserved
loop-prop-preserved c =
    tells_next (tree c.args.rule.now) (tree c.in_ok-derivations.derivations.term.now) c.all-prop-items.result.now
    c.loop-prop.prop-index Ne _ _ _ (ap tree c.in_ok-derivations.ensures) c.loop-prop-test.true
    c.loop-prop.invariant
    c.in_ok-push_finding.ensures
