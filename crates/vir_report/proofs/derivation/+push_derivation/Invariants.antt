use Rattle.std.proofs.Common.{◌≡◌, ◌++◌, ◌+◌, ◌*◌, drop}
use Rattle.vir_rules.specs.RuleTrees.{gathered, rule_tree, rule_trees, size, size_of_all}
use Rattle.vir_rules.specs.Texts.{more_children_text}
use Rattle.vir_term.specs.Appending.{Begins}
use Rattle.vir_report.proofs.derivation.+push_derivation.Given as goal

-- the rules in what is written, twice; a list counts one more than its members
abbrev pub decreases-push_children : goal.decreases-push_children
decreases-push_children l = 2 * size_of_all (gathered (rule_trees l.children.now)) + 1

abbrev pub decreases-push_derivation : goal.decreases-push_derivation
decreases-push_derivation l = 2 * size (rule_tree l.derivation.now)

-- what is written, and what is to come, is the whole; and what stood there before is its beginning
abbrev pub invariant-push_children-loop-i : goal.invariant-push_children-loop-i
invariant-push_children-loop-i l = record {
  whole :
      l.text.items ++ more_children_text (gathered (drop l.i (rule_trees l.children)))
      ≡ l.initial.text.items ++ more_children_text (gathered (drop 1 (rule_trees l.children)));
  begun : Begins l.fn.text.items l.text.items;
}
