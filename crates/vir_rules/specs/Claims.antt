-- What rules conclude: a judgement, without the places where its terms lie.
use Rattle.vir_term.specs.declared.prop.Prop.{Prop}
use Rattle.vir_term.specs.Tree.{Tree, tree}
use Rattle.vir_rules.specs.declared.judgement.Judgement.{Judgement}
use Rattle.vir_rules.specs.declared.judgement.Judgement.TheVariants as judgement

-- a term has a property, or two terms are disjoint
pub data Claim : Type 0 where
  of : Prop → Tree → Claim
  disj : Tree → Tree → Claim

-- the claim that a judgement makes
abbrev pub claim : Judgement → Claim
claim (judgement.Of prop term) = of prop (tree term.now)
claim (judgement.Disj left right) = disj (tree left.now) (tree right.now)
