-- What is derivable, by the rules that serve.
use Rattle.std.proofs.Common.{◌≡◌, ℕ, ◌≤◌, List, [], ◌∷◌, length, take, Option, Some, None, MatchOption, slice_get}
use Rattle.std.proofs.Common.{refl, sym, subst, zero, suc, arith}
use Rattle.std.proofs.lemmas.List.{take_all}
use Rattle.vir_rules.specs.Claims.{Claim}
use Rattle.vir_rules.specs.Premises.{premises}
use Rattle.vir_rules.specs.RuleTrees.{RuleTree, RuleTrees, node, none, more}
use Rattle.vir_rules.specs.Derivations.{Valid, AllValid, Derivable, AllDerivable, Fails, IsFirst, AreFirst}
use Rattle.vir_rules.specs.declared.rule_id.TheConstants.RuleId.{COUNT}
use Rattle.vir_derive.proofs.Rows.{is_in_table}

-- trees for derivable claims
gather : (needed : List Claim) → AllDerivable needed → (children : RuleTrees) × AllValid children needed
gather [] a = (none, tt)
gather (c ∷ needed) a = let rest = gather needed a.1 in (more a.0.0 rest.0, (a.0.1, rest.1))

-- a rule that serves derives
pub derivable_by : (rule : ℕ) (c : Claim) (needed : List Claim) → premises rule c ≡ Some needed → AllDerivable needed
    → Derivable c
derivable_by rule c needed e a = let trees = gather needed a in (node rule trees.0, (needed, e, trees.1))

-- the claims of valid trees are derivable
pub each_derivable : (children : RuleTrees) (needed : List Claim) → AllValid children needed → AllDerivable needed
each_derivable none [] v = tt
each_derivable none (c ∷ needed) v = absurd v
each_derivable (more first rest) [] v = absurd v
each_derivable (more first rest) (c ∷ needed) v = ((first, v.0), each_derivable rest needed v.1)

-- a derivable claim has a rule of the table that serves
pub record IsServed (c : Claim) : Type 0 where
  pub rule : ℕ
  pub needed : List Claim
  pub least : 1 ≤ rule
  pub greatest : rule ≤ COUNT
  pub premises_are : premises rule c ≡ Some needed
  pub derivable : AllDerivable needed

served_by : (tree : RuleTree) (c : Claim) → Valid tree c → IsServed c
served_by (node rule children) c v = let range = is_in_table rule c v.0 v.1 in
    record {
      rule = rule;
      needed = v.0;
      least = range.0;
      greatest = range.1;
      premises_are = v.1;
      derivable =
          each_derivable children v.0 v.2;
    }

pub served : (c : Claim) → Derivable c → IsServed c
served c d = served_by d.0 c d.1

pub fails_if_unfit : (rule : ℕ) (c : Claim) → premises rule c ≡ None → Fails rule c
fails_if_unfit rule c e = let P : Option (List Claim) → Type 0 = λ o. MatchOption o (Unit {0})
    (λ needed. AllDerivable needed → ⊥) in subst P (sym e) tt

pub fails_if_not_all : (rule : ℕ) (c : Claim) (needed : List Claim) → premises rule c ≡ Some needed
    → (AllDerivable needed → ⊥) → Fails rule c
fails_if_not_all rule c needed e n = let P : Option (List Claim) → Type 0 = λ o. MatchOption o (Unit {0})
    (λ needed. AllDerivable needed → ⊥) in subst P (sym e) n

-- a rule that fails doesn't have derivable premises
pub not_all_if_fails : (rule : ℕ) (c : Claim) (needed : List Claim) → premises rule c ≡ Some needed → Fails rule c
    → AllDerivable needed → ⊥
not_all_if_fails rule c needed e f = let P : Option (List Claim) → Type 0 = λ o. MatchOption o (Unit {0})
    (λ needed. AllDerivable needed → ⊥) in subst P e f

pub nth_derivable : (needed : List Claim) (i : ℕ) (c : Claim) → slice_get needed i ≡ Some c → AllDerivable needed
    → Derivable c
nth_derivable [] i c h a = cc
nth_derivable (x ∷ needed) zero c h a = let e : x ≡ c = cc in subst Derivable e a.0
nth_derivable (x ∷ needed) (suc i) c h a = nth_derivable needed i c h a.1

-- a rule with a premise that isn't derivable fails
pub fails_at : (rule : ℕ) (c : Claim) (needed : List Claim) (i : ℕ) (premise : Claim) → premises rule c ≡ Some needed
    → slice_get needed i ≡ Some premise → (Derivable premise → ⊥) → Fails rule c
fails_at rule c needed i premise e h n = fails_if_not_all rule c needed e (λ a. n (nth_derivable needed i premise h a))

-- where all rules of the table fail, nothing derives
pub underivable : (c : Claim) → ((rule : ℕ) → rule ≤ COUNT → Fails rule c) → Derivable c → ⊥
underivable c f d = let s = served c d in not_all_if_fails s.rule c s.needed s.premises_are (f s.rule s.greatest)
    s.derivable

none_serves : (c : Claim) (o : Option (List Claim)) → premises 0 c ≡ o → Fails 0 c
none_serves c None e = fails_if_unfit 0 c e
none_serves c (Some needed) e = let least : 1 ≤ 0 = (is_in_table 0 c needed e).0 in absurd (omega arith)

-- the rules up to 0, of which there are none, fail
pub fails_at_zero : (rule : ℕ) (c : Claim) → rule ≤ 0 → Fails rule c
fails_at_zero zero c h = none_serves c (premises 0 c) refl
fails_at_zero (suc rule) c h = absurd (omega arith)

take_derivable : (needed : List Claim) (i : ℕ) (c : Claim) → slice_get needed i ≡ Some c → AllDerivable (take i needed)
    → Derivable c → AllDerivable (take (suc i) needed)
take_derivable [] i c h a d = cc
take_derivable (x ∷ needed) zero c h a d = let e : c ≡ x = cc in (subst Derivable e d, tt)
take_derivable (x ∷ needed) (suc i) c h a d = (a.0, take_derivable needed i c h a.1 d)

-- one premise more
pub take_more_derivable : (needed : List Claim) (i j : ℕ) (c : Claim) → j ≡ suc i → slice_get needed i ≡ Some c
    → AllDerivable (take i needed) → Derivable c → AllDerivable (take j needed)
take_more_derivable needed i j c e h a d = let P : ℕ → Type 0 = λ n. AllDerivable (take n needed)
    in subst P (sym e) (take_derivable needed i c h a d)

-- all premises
pub take_all_derivable : (needed : List Claim) (i : ℕ) → length needed ≤ i → AllDerivable (take i needed)
    → AllDerivable needed
take_all_derivable needed i l a = subst AllDerivable (take_all i needed l) a

mutual
  -- a first derivation is one
  pub first_is_valid : (tree : RuleTree) (c : Claim) → IsFirst tree c → Valid tree c
  first_is_valid (node rule children) c f = (f.0, f.1, firsts_are_valid children f.0 f.3)

  firsts_are_valid : (children : RuleTrees) (needed : List Claim) → AreFirst children needed → AllValid children needed
  firsts_are_valid none [] f = tt
  firsts_are_valid none (c ∷ needed) f = absurd f
  firsts_are_valid (more first rest) [] f = absurd f
  firsts_are_valid (more first rest) (c ∷ needed) f = (first_is_valid first c f.0, firsts_are_valid rest needed f.1)

pub first_derives : (tree : RuleTree) (c : Claim) → IsFirst tree c → Derivable c
first_derives tree c f = (tree, first_is_valid tree c f)
