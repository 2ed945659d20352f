-- Where a tree isn't valid: the first of its nodes that is bad, in preorder.
use Rattle.std.specs.Prelude.{ℕ, ◌+◌, nat_eq, if◌then◌else◌, List, [], ◌∷◌, length, Option, Some, None}
use Rattle.vir_rules.specs.declared.unfit.Unfit.{Unfit}
use Rattle.vir_rules.specs.declared.unfit.Unfit.TheVariants.{RuleDoesNotFit, WrongNumberOfPremises}
use Rattle.vir_rules.specs.Claims.{Claim}
use Rattle.vir_rules.specs.Premises.{premises}
use Rattle.vir_rules.specs.RuleTrees.{RuleTree, RuleTrees, node, none, more, count, size}

-- a bad node: its number in preorder, from 0, and what is wrong with it
pub record BadNode : Type 0 where
  pub number : ℕ
  pub why : Unfit

-- a bad node, if there is one, where so many nodes stand before
abbrev pub after : ℕ → Option BadNode → Option BadNode
after before None = None
after before (Some bad) = Some (record { number = before + bad.number; why = bad.why })

-- the first of two
abbrev pub or_else : Option BadNode → Option BadNode → Option BadNode
or_else (Some bad) next = Some bad
or_else None next = next

-- a tree's first bad node, by its premises, its number of children, and the children's first bad node
abbrev pub judged : Option (List Claim) → ℕ → (List Claim → Option BadNode) → Option BadNode
judged None children among = Some (record { number = 0; why = RuleDoesNotFit })
judged (Some needed) children among =
    if nat_eq children (length needed) then after 1 (among needed)
    else Some (record { number = 0; why = WrongNumberOfPremises })

-- the first bad node of a tree that is to derive a claim
abbrev mutual
  pub first_bad : RuleTree → Claim → Option BadNode
  first_bad (node rule children) c = judged (premises rule c) (count children) (λ needed. first_bad_among children
      needed)

  pub first_bad_among : RuleTrees → List Claim → Option BadNode
  first_bad_among none needed = None
  first_bad_among (more first rest) [] = None
  first_bad_among (more first rest) (c ∷ more_needed) = or_else (first_bad first c)
      (after (size first) (first_bad_among rest more_needed))
