-- Each claim is derivable or not: so what is known of a struct's tree up to the choice of a derivation, is known.
use Rattle.std.proofs.Common.{◌≡◌, ◌⊎◌, inl, inr, ℕ, zero, suc, ◌+◌, ◌<◌, ◌≤◌, Bool, true, false, List, [], ◌∷◌, Option}
use Rattle.std.proofs.Common.{Some, None, slice_get, refl, subst, arith}
use Rattle.std.proofs.Math.Logic.{∥∥₁_elim, ∥∥₁_map}
use mathlib.Core.HLevel.{⊥_prop}
use Rattle.std.proofs.lemmas.Bool.{cases_lt}
use Rattle.vir_term.specs.Tree.{Tree, leaf, rev, seq, par, loop}
use Rattle.vir_rules.specs.Claims.{Claim, of}
use Rattle.vir_rules.specs.Derivations.{Derivable, AllDerivable, Fails}
use Rattle.vir_rules.specs.Premises.{premises}
use Rattle.vir_rules.specs.declared.rule_id.TheConstants.RuleId.{COUNT}
use Rattle.vir_derive.specs.declared.props_tree.PropsTree.{PropsTree}
use Rattle.vir_derive.specs.declared.props_tree.PropsTree.TheVariants.{Leaf, One', Two'}
use Rattle.vir_derive.specs.declared.derivable_props.DerivableProps.{DerivableProps}
use Rattle.vir_derive.specs.PropsTree.{IsPropsTreeOf}
use Rattle.vir_derive.specs.DerivableProps.{has, Tells}
use Rattle.vir_derive.proofs.Deriving.{derivable_by, fails_if_unfit, fails_if_not_all, fails_at_zero, underivable}
use Rattle.vir_derive.proofs.Smaller.{measure, premise_smaller}
use Rattle.vir_derive.proofs.Rows.{no_true}

-- A claim is derivable, or it isn't.
abbrev Decided : Claim → Type 0
Decided c = Derivable c ⊎ (Derivable c → ⊥)

both_decided : (c : Claim) (rest : List Claim) → Decided c → AllDerivable rest ⊎ (AllDerivable rest → ⊥)
    → AllDerivable (c ∷ rest) ⊎ (AllDerivable (c ∷ rest) → ⊥)
both_decided c rest (inl d) (inl all) = inl (d, all)
both_decided c rest (inl d) (inr n) = inr (λ all. n all.1)
both_decided c rest (inr n) more = inr (λ all. n all.0)

all_decided : (needed : List Claim) → ((i : ℕ) (premise : Claim) → slice_get needed i ≡ Some premise → Decided premise)
    → AllDerivable needed ⊎ (AllDerivable needed → ⊥)
all_decided [] decided = inl tt
all_decided (c ∷ rest) decided = both_decided c rest (decided 0 c refl)
    (all_decided rest (λ i premise h. decided (suc i) premise h))

module _ (c : Claim) (decided : (premise : Claim) → measure premise < measure c → Decided premise) where
  by_all : (rule : ℕ) (needed : List Claim) → premises rule c ≡ Some needed → AllDerivable needed
      ⊎ (AllDerivable needed → ⊥) → Derivable c ⊎ Fails rule c
  by_all rule needed e (inl all) = inl (derivable_by rule c needed e all)
  by_all rule needed e (inr n) = inr (fails_if_not_all rule c needed e n)

  by_rule : (rule : ℕ) (o : Option (List Claim)) → premises rule c ≡ o → Derivable c ⊎ Fails rule c
  by_rule rule None e = inr (fails_if_unfit rule c e)
  by_rule rule (Some needed) e = by_all rule needed e
      (all_decided needed (λ i premise h. decided premise (premise_smaller rule c needed i premise e h)))

  one_more : (m : ℕ) → Derivable c ⊎ ((rule : ℕ) → rule ≤ m → Fails rule c) → Derivable c ⊎ Fails (suc m) c
      → Derivable c ⊎ ((rule : ℕ) → rule ≤ suc m → Fails rule c)
  one_more m (inl d) next = inl d
  one_more m (inr before) (inl d) = inl d
  one_more m (inr before) (inr fails) = inr (λ rule l. elim (cases_lt m rule) [
    | inl above ↦ (let e : suc m ≡ rule = omega arith in subst (λ n. Fails n c) e fails)
    | inr below ↦ before rule below
  ])

  up_to : (m : ℕ) → Derivable c ⊎ ((rule : ℕ) → rule ≤ m → Fails rule c)
  up_to zero = inr (λ rule l. fails_at_zero rule c l)
  up_to (suc m) = one_more m (up_to m) (by_rule (suc m) (premises (suc m) c) refl)

  by_all_rules : Derivable c ⊎ ((rule : ℕ) → rule ≤ COUNT → Fails rule c) → Decided c
  by_all_rules (inl d) = inl d
  by_all_rules (inr fails) = inr (underivable c fails)

decided_below : (n : ℕ) (c : Claim) → measure c < n → Decided c
decided_below zero c l = absurd (omega arith)
decided_below (suc n) c l = by_all_rules c (λ premise k. decided_below n premise (omega (arith, k, l)))
    (up_to c (λ premise k. decided_below n premise (omega (arith, k, l))) COUNT)

pub decide : (c : Claim) → Decided c
decide c = decided_below (measure c + 1) c (omega arith)

derivable_by_decision : (c : Claim) → Decided c → ((Derivable c → ⊥) → ⊥) → Derivable c
derivable_by_decision c (inl d) n = d
derivable_by_decision c (inr u) n = absurd (n u)

true_by_decision : (b : Bool) → ((b ≡ true → ⊥) → ⊥) → b ≡ true
true_by_decision true n = refl
true_by_decision false n = absurd (n (λ h. no_true h))

settled_props : (s : DerivableProps) (t : Tree) → ∥ Tells s t ∥₁ → Tells s t
settled_props s t kept q = (
  (λ h. derivable_by_decision (of q t) (decide (of q t)) (λ n. ∥∥₁_elim kept ⊥_prop (λ tells. n ((tells q).0 h)))),
  (λ d. true_by_decision (has s q) (λ n. ∥∥₁_elim kept ⊥_prop (λ tells. n ((tells q).1 d)))),
)

-- a tree that is known to be a term's, whatever the derivations, is its tree
pub settled_tree : (props : PropsTree) (t : Tree) → ∥ IsPropsTreeOf props t ∥₁ → IsPropsTreeOf props t
settled_tree (Leaf s) (leaf l) kept = settled_props s (leaf l) kept
settled_tree (One' s place part) (rev m) kept = (
  settled_props s (rev m) (∥∥₁_map kept (λ a. a.0)),
  settled_tree part m
      (∥∥₁_map kept (λ a. a.1)),
)
settled_tree (One' s place part) (loop k m) kept = (
  settled_props s (loop k m) (∥∥₁_map kept (λ a. a.0)),
  settled_tree
      part m (∥∥₁_map kept (λ a. a.1)),
)
settled_tree (Two' s place first place' second) (seq m n) kept = (
  settled_props s (seq m n) (∥∥₁_map kept (λ a. a.0)),
  settled_tree first m (∥∥₁_map kept (λ a. a.1)),
  settled_tree
      second n (∥∥₁_map kept (λ a. a.2)),
)
settled_tree (Two' s place first place' second) (par m n) kept = (
  settled_props s (par m n) (∥∥₁_map kept (λ a. a.0)),
  settled_tree first m (∥∥₁_map kept (λ a. a.1)),
  settled_tree
      second n (∥∥₁_map kept (λ a. a.2)),
)
settled_tree _ _ kept = absurd (∥∥₁_elim kept ⊥_prop (λ a. a))
