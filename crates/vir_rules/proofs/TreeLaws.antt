-- A derivation of the code and its tree.
use Rattle.std.proofs.Common.{◌≡◌, List}
use Rattle.vir_rules.specs.RuleTrees.{RuleTree, node, gathered, rule_tree, rule_trees, listed_step, tree_step}
use Rattle.vir_rules.specs.declared.rule_id.RuleId.{RuleId}
use Rattle.vir_rules.specs.declared.derivation.Children.{Children}
use Rattle.vir_rules.specs.declared.derivation.Derivation.{Derivation, out-Derivation, fold_out-Derivation}
use Rattle.vir_rules.specs.declared.derivation.Derivation.{roll-Derivation, fold-roll-Derivation}

-- a derivation's tree is that of its rule and its children
pub tree_opened : (d : Derivation) → rule_tree d ≡ node (out-Derivation d).rule
    (gathered (rule_trees (out-Derivation d).children))
tree_opened d = fold_out-Derivation (List RuleTree) RuleTree listed_step tree_step d

-- the tree of the derivation that is made of a rule and children
pub tree_made : (rule : RuleId) (children : Children)
    → rule_tree (roll-Derivation (record { rule = rule; children = children }))
    ≡ node rule (gathered (rule_trees children))
tree_made rule children = fold-roll-Derivation (List RuleTree) RuleTree listed_step tree_step
    (record { rule = rule; children = children })
