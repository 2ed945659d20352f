-- Which trees derive a claim, and which claims have one.
use Rattle.std.specs.Prelude.{◌≡◌, ℕ, ◌<◌, List, [], ◌∷◌, Some, MatchOption}
use Rattle.vir_rules.specs.Claims.{Claim}
use Rattle.vir_rules.specs.Premises.{premises}
use Rattle.vir_rules.specs.RuleTrees.{RuleTree, RuleTrees, node, none, more}

-- A tree is valid for a claim: its rule fits, it has as many children as there are premises, and each child is
-- valid for the premise in its place.
abbrev mutual
  pub Valid : RuleTree → Claim → Type 0
  Valid (node rule children) c = (needed : List Claim) × (premises rule c ≡ Some needed) × AllValid children needed

  pub AllValid : RuleTrees → List Claim → Type 0
  AllValid none [] = Unit {0}
  AllValid (more first rest) (c ∷ more_needed) = Valid first c × AllValid rest more_needed
  AllValid none (c ∷ more_needed) = ⊥
  AllValid (more first rest) [] = ⊥

-- A claim is derivable: some tree is valid for it.
abbrev pub Derivable : Claim → Type 0
Derivable c = (d : RuleTree) × Valid d c

-- All of these are derivable.
abbrev pub AllDerivable : List Claim → Type 0
AllDerivable [] = Unit {0}
AllDerivable (c ∷ rest) = Derivable c × AllDerivable rest

-- A rule doesn't serve: it doesn't fit, or not all of its premises are derivable.
abbrev pub Fails : ℕ → Claim → Type 0
Fails rule c = MatchOption (premises rule c) (Unit {0}) (λ needed. AllDerivable needed → ⊥)

-- A tree is the first derivation of a claim: its rule is the first one that serves, and its children are the
-- first derivations of the premises.
abbrev mutual
  pub IsFirst : RuleTree → Claim → Type 0
  IsFirst (node rule children) c =
      (needed : List Claim) × (premises rule c ≡ Some needed) × ((earlier : ℕ) → earlier < rule → Fails earlier c)
      × AreFirst children needed

  pub AreFirst : RuleTrees → List Claim → Type 0
  AreFirst none [] = Unit {0}
  AreFirst (more first rest) (c ∷ more_needed) = IsFirst first c × AreFirst rest more_needed
  AreFirst none (c ∷ more_needed) = ⊥
  AreFirst (more first rest) [] = ⊥
