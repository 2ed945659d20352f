use Rattle.std.proofs.Common.{◌≡◌, ℕ, ◌+◌, ◌*◌, ◌≤◌, length, take, List, Some}
use Rattle.vir_rules.specs.Claims.{Claim}
use Rattle.vir_rules.specs.Derivations.{AllDerivable, Fails, AreFirst}
use Rattle.vir_rules.specs.Premises.{premises}
use Rattle.vir_rules.specs.RuleTrees.{rule_trees, gathered}
use Rattle.vir_derive.specs.Judged.{claim_of}
use Rattle.vir_derive.proofs.Smaller.{measure}
use Rattle.vir_derive.proofs.answer.JudgementWithProps.+first.Given as goal

abbrev pub decreases-children : goal.decreases-children
decreases-children l = 2 * measure (claim_of l.self)

abbrev pub decreases-first : goal.decreases-first
decreases-first l = 2 * measure (claim_of l.self) + 1

-- the children so far are the first derivations of the premises so far, and all premises are derivable
abbrev pub invariant-children-loop-i : goal.invariant-children-loop-i
invariant-children-loop-i l = (needed : List Claim) × (premises l.rule (claim_of l.self) ≡ Some needed)
    × (length needed ≡ l.count) × AllDerivable needed × AreFirst (gathered (rule_trees l.children)) (take l.i needed)

-- no rule so far serves
abbrev pub invariant-first-loop-i : goal.invariant-first-loop-i
invariant-first-loop-i l = (rule : ℕ) → rule ≤ l.i → Fails rule (claim_of l.self)
