use Rattle.std.proofs.Common.{◌≡◌, ℕ, length, ◌+◌, ◌≤◌, min, drop, List, Some}
use Rattle.vir_rules.specs.declared.derivation.Derivation.{out-Derivation}
use Rattle.vir_rules.specs.Claims.{Claim, claim}
use Rattle.vir_rules.specs.Premises.{premises}
use Rattle.vir_rules.specs.RuleTrees.{gathered, size, size_of_all, rule_tree, rule_trees}
use Rattle.vir_rules.specs.BadNodes.{after, first_bad, first_bad_among}
use Rattle.vir_check.specs.Verdicts.{greatest_number}
use Rattle.vir_check.proofs.checker.+number_after.Given as goal

abbrev pub decreases-number_after : goal.decreases-number_after
decreases-number_after l = size (rule_tree l.derivation.now)

-- The first bad node, if there is one, is among the children that are left, and next is the number of their first node.
abbrev pub invariant-loop-i : goal.invariant-loop-i
invariant-loop-i l =
    let trees = rule_trees (out-Derivation l.derivation).children in
    (needed : List Claim) × (before : ℕ) × (premises (out-Derivation l.derivation).rule (claim l.judgement)
    ≡ Some needed) × (length needed ≡ length trees)
    × (1 ≤ before) × (l.next ≡ min (l.number + before) greatest_number)
    × (size (rule_tree l.derivation) ≡ before + size_of_all (gathered (drop l.i trees)))
    × (first_bad (rule_tree l.derivation) (claim l.judgement)
    ≡ after before (first_bad_among (gathered (drop l.i trees)) (drop l.i needed)))
