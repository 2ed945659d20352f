-- First derivations: each is valid, and a claim has one at most.
use Rattle.std.proofs.Common.{◌≡◌, ℕ, ◌<◌, ◌≤◌, List, [], ◌∷◌, Option, Some, MatchOption, refl, subst, arith, inl, inr}
use Rattle.std.proofs.lemmas.Bool.{cases_lt}
use Rattle.vir_rules.specs.Claims.{Claim}
use Rattle.vir_rules.specs.Premises.{premises}
use Rattle.vir_rules.specs.RuleTrees.{RuleTree, RuleTrees, node, none, more}
use Rattle.vir_rules.specs.Derivations.{Valid, AllValid, AllDerivable, Fails, IsFirst, AreFirst}

mutual
  pub first_valid : (d : RuleTree) (c : Claim) → IsFirst d c → Valid d c
  first_valid (node rule children) c first = (first.0, first.1, firsts_valid children first.0 first.3)

  pub firsts_valid : (children : RuleTrees) (needed : List Claim) → AreFirst children needed → AllValid children needed
  firsts_valid none [] firsts = tt
  firsts_valid none (c ∷ rest) firsts = absurd firsts
  firsts_valid (more first more_children) [] firsts = absurd firsts
  firsts_valid (more first more_children) (c ∷ rest) firsts = (
    first_valid first c firsts.0,
    firsts_valid more_children
        rest firsts.1,
  )

-- claims with valid trees are derivable
pub each_derivable : (children : RuleTrees) (needed : List Claim) → AllValid children needed → AllDerivable needed
each_derivable none [] valid = tt
each_derivable none (c ∷ rest) valid = absurd valid
each_derivable (more first more_children) [] valid = absurd valid
each_derivable (more first more_children) (c ∷ rest) valid = (
  (first, valid.0),
  each_derivable more_children rest
      valid.1,
)

-- a rule that fails has a premise that isn't derivable
pub failing_underived : (rule : ℕ) (c : Claim) (needed : List Claim) → premises rule c ≡ Some needed → Fails rule c
    → AllDerivable needed → ⊥
failing_underived rule c needed is fails =
    let P : Option (List Claim) → Type 0 = λ known. MatchOption known (Unit {0}) (λ needed. AllDerivable needed → ⊥)
    in subst P is fails

-- the first rule that serves
serves_first : (rule other : ℕ) (c : Claim) (needed : List Claim) → premises rule c ≡ Some needed → AllDerivable needed
    → ((earlier : ℕ) → earlier < other → Fails earlier c) → other ≤ rule
serves_first rule other c needed is derivable fails = elim (cases_lt rule other) [
  | inl before ↦ absurd (failing_underived rule c needed is (fails rule before) derivable)
  | inr after ↦ after
]

same_premises : (rule other : ℕ) (c : Claim) (needed wanted : List Claim) → rule ≡ other → premises rule c ≡ Some needed
    → premises other c ≡ Some wanted → needed ≡ wanted
same_premises rule other c needed wanted same is is' = cc

mutual
  pub first_unique : (d e : RuleTree) (c : Claim) → IsFirst d c → IsFirst e c → d ≡ e
  first_unique (node rule children) (node other others) c first second =
      let derivable : AllDerivable first.0 = each_derivable children first.0 (firsts_valid children first.0 first.3) in
      let derivable' : AllDerivable second.0 = each_derivable others second.0 (firsts_valid others second.0 second.3) in
      let before : other ≤ rule = serves_first rule other c first.0 first.1 derivable second.2 in
      let after : rule ≤ other = serves_first other rule c second.0 second.1 derivable' first.2 in
      let same : rule ≡ other = omega arith in
      let wanted : first.0 ≡ second.0 = same_premises rule other c first.0 second.0 same first.1 second.1 in
      let trees : children ≡ others = firsts_unique children others second.0 (subst (λ needed. AreFirst children needed)
      wanted first.3) second.3 in
      cc

  pub firsts_unique : (ds es : RuleTrees) (needed : List Claim) → AreFirst ds needed → AreFirst es needed → ds ≡ es
  firsts_unique none none [] firsts seconds = refl
  firsts_unique none (more e es) [] firsts seconds = absurd seconds
  firsts_unique none es (c ∷ rest) firsts seconds = absurd firsts
  firsts_unique (more d ds) es [] firsts seconds = absurd firsts
  firsts_unique (more d ds) none (c ∷ rest) firsts seconds = absurd seconds
  firsts_unique (more d ds) (more e es) (c ∷ rest) firsts seconds =
      let one : d ≡ e = first_unique d e c firsts.0 seconds.0 in
      let others : ds ≡ es = firsts_unique ds es rest firsts.1 seconds.1 in
      cc
