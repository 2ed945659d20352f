use Rattle.std.proofs.Common.{◌≡◌, ◌+◌, ◌*◌, drop}
use Rattle.vir_rules.specs.RuleTrees.{gathered, rule_tree, rule_trees, size, size_of_all}
use Rattle.vir_cert.specs.Texts.{have_rules_up_to}
use Rattle.vir_cert.proofs.writer.+up_to.Given as goal

abbrev pub decreases-have_rules_up_to : goal.decreases-have_rules_up_to
decreases-have_rules_up_to l = 2 * size_of_all (gathered (rule_trees l.children.now)) + 1

abbrev pub decreases-has_rules_up_to : goal.decreases-has_rules_up_to
decreases-has_rules_up_to l = 2 * size (rule_tree l.derivation.now)

abbrev pub invariant-have_rules_up_to-loop-i : goal.invariant-have_rules_up_to-loop-i
invariant-have_rules_up_to-loop-i l = have_rules_up_to l.last (gathered (drop l.i (rule_trees l.children)))
    ≡ have_rules_up_to l.last (gathered (rule_trees l.children))
