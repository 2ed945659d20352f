-- The text of a derivation.
use Rattle.std.specs.Prelude.{ℕ, List, [], ◌++◌, codes}
use Rattle.vir_rules.specs.Premises.{row_of}
use Rattle.vir_rules.specs.RuleTrees.{RuleTree, RuleTrees, node, none, more}

-- a rule's name, followed by its children in parentheses where it has any
abbrev mutual
  pub derivation_text : RuleTree → List ℕ
  derivation_text (node rule children) = (row_of rule).name ++ children_text children

  pub children_text : RuleTrees → List ℕ
  children_text none = []
  children_text (more first rest) = codes "(" ++ derivation_text first ++ more_children_text rest ++ codes ")"

  pub more_children_text : RuleTrees → List ℕ
  more_children_text none = []
  more_children_text (more first rest) = codes "," ++ derivation_text first ++ more_children_text rest
