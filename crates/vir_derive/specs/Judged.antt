-- Judgements beside what is derivable of their terms.
-- (The program's promises don't stand on this file.)
use Rattle.std.specs.Prelude.{◌≡◌, ℕ, List, Option, Some}
use Rattle.vir_rules.specs.Claims.{Claim, claim}
use Rattle.vir_rules.specs.Derivations.{AreFirst}
use Rattle.vir_rules.specs.declared.derivation.Children.{Children}
use Rattle.vir_rules.specs.declared.row.Need.{Need}
use Rattle.vir_rules.specs.declared.row.Need.TheVariants as need
use Rattle.vir_rules.specs.declared.row.Part.TheVariants.{M, N}
use Rattle.vir_rules.specs.Premises.{premises}
use Rattle.vir_rules.specs.RuleTrees.{rule_trees, gathered}
use Rattle.vir_derive.specs.declared.answer.JudgementWithProps.{JudgementWithProps}
use Rattle.vir_derive.specs.declared.props_tree.PropsTree.{PropsTree}
use Rattle.vir_derive.specs.PropsTree.{first_tree, second_tree, IsTreeFor}

-- the claim of a judgement
abbrev pub claim_of : JudgementWithProps → Claim
claim_of judged = claim judged.judgement

-- The tree is that of the judgement's term.
abbrev pub HasItsProps : JudgementWithProps → Type 0
HasItsProps judged = IsTreeFor judged.props.now (claim_of judged)

-- the tree of the part that a premise is about
abbrev pub tree_for : Option Need → PropsTree → PropsTree
tree_for (Some (need.Of wanted M)) props = first_tree props
tree_for (Some (need.Of wanted N)) props = second_tree props
tree_for _ props = props

-- These are the first derivations of a rule's premises.
abbrev pub AreChildren : ℕ → Claim → Children → Type 0
AreChildren rule c children = (needed : List Claim) × (premises rule c ≡ Some needed)
    × AreFirst (gathered (rule_trees children)) needed
