-- Where a tree has no bad node it is valid, and the other way round.
use Rattle.std.proofs.Common.{◌≡◌, ◌↔◌, ℕ, List, [], ◌∷◌, length, nat_eq, true, false, Option, Some, None, refl, sym}
use Rattle.std.proofs.Common.{◌∙◌, ap, arith, eq-eqb, inl, inr}
use Rattle.std.proofs.lemmas.Bool.Decides.{eqb_tells}
use Rattle.vir_rules.specs.declared.unfit.Unfit.TheVariants.{WrongNumberOfPremises}
use Rattle.vir_rules.specs.Claims.{Claim}
use Rattle.vir_rules.specs.Premises.{premises}
use Rattle.vir_rules.specs.RuleTrees.{RuleTree, RuleTrees, node, none, more, gathered, count, size}
use Rattle.vir_rules.specs.Derivations.{Valid, AllValid}
use Rattle.vir_rules.specs.BadNodes.{BadNode, after, or_else, judged, first_bad, first_bad_among}

-- as many trees as there are in the list
pub count-gathered : (trees : List RuleTree) → count (gathered trees) ≡ length trees
count-gathered [] = refl
count-gathered (first ∷ rest) = let h = count-gathered rest in omega (arith, h)

-- a node of another number of children than premises is bad
pub judged_wrong : (needed : List Claim) (children : ℕ) (among : List Claim → Option BadNode)
    → nat_eq children (length needed) ≡ false →
    judged (Some needed) children among ≡ Some (record { number = 0; why = WrongNumberOfPremises })
judged_wrong needed children among differ = rw differ refl

-- where a node has as many children as premises, the bad nodes are theirs
pub judged_right : (needed : List Claim) (children : ℕ) (among : List Claim → Option BadNode)
    → nat_eq children (length needed) ≡ true →
    judged (Some needed) children among ≡ after 1 (among needed)
judged_right needed children among same = rw same refl

none_after : (before : ℕ) (bad : Option BadNode) → after before bad ≡ None → bad ≡ None
none_after before None none_bad = refl
none_after before (Some bad) none_bad = cc

none_of_both : (first next : Option BadNode) → or_else first next ≡ None → (first ≡ None) × (next ≡ None)
none_of_both None next none_bad = (refl, none_bad)
none_of_both (Some bad) next none_bad = cc

some_none : (bad : BadNode) → Some bad ≡ None → ⊥
some_none bad same = cc

none_judged : (known : Option (List Claim)) (children : ℕ) (among : List Claim → Option BadNode) → judged known children
    among ≡ None →
    (needed : List Claim) × (known ≡ Some needed) × (children ≡ length needed) × (among needed ≡ None)
none_judged None children among none_bad = cc
none_judged (Some needed) children among none_bad = elim (eqb_tells children (length needed)) [
  | inl (same, is) ↦ (
    needed,
    refl,
    is,
    none_after 1 (among needed) (sym (judged_right needed children among same)
        ∙ none_bad),
  )
  | inr (differ, _) ↦ absurd (some_none _ (sym (judged_wrong needed children among differ) ∙ none_bad))
]

mutual
  -- a tree without a bad node is valid
  pub unblamed_valid : (d : RuleTree) (c : Claim) → first_bad d c ≡ None → Valid d c
  unblamed_valid (node rule children) c none_bad =
      let known = none_judged (premises rule c) (count children) (λ needed. first_bad_among children needed) none_bad in
      (known.0, known.1, all_unblamed_valid children known.0 known.2 known.3)

  pub all_unblamed_valid : (children : RuleTrees) (needed : List Claim) → count children ≡ length needed
      → first_bad_among children needed ≡ None → AllValid children needed
  all_unblamed_valid none [] as_many none_bad = tt
  all_unblamed_valid none (c ∷ rest) as_many none_bad = absurd (omega arith)
  all_unblamed_valid (more first children) [] as_many none_bad = absurd (omega arith)
  all_unblamed_valid (more first children) (c ∷ rest) as_many none_bad =
      let both = none_of_both (first_bad first c) (after (size first) (first_bad_among children rest)) none_bad in (
        unblamed_valid first c both.0,
        all_unblamed_valid children rest (omega arith)
            (none_after (size first) (first_bad_among children rest) both.1),
      )

-- valid trees are as many as the claims that they are for
pub as_many : (children : RuleTrees) (needed : List Claim) → AllValid children needed → count children ≡ length needed
as_many none [] valid = refl
as_many none (c ∷ rest) valid = absurd valid
as_many (more first children) [] valid = absurd valid
as_many (more first children) (c ∷ rest) valid = let h = as_many children rest valid.1 in omega (arith, h)

mutual
  -- a valid tree has no bad node
  pub valid_unblamed : (d : RuleTree) (c : Claim) → Valid d c → first_bad d c ≡ None
  valid_unblamed (node rule children) c valid =
      ap (λ known. judged known (count children) (λ needed. first_bad_among children needed)) valid.1
      ∙ judged_right valid.0 (count children) (λ needed. first_bad_among children needed)
      (eq-eqb (count children) (length valid.0) (as_many children valid.0 valid.2))
      ∙ ap (after 1) (all_valid_unblamed children valid.0 valid.2)

  pub all_valid_unblamed : (children : RuleTrees) (needed : List Claim) → AllValid children needed
      → first_bad_among children needed ≡ None
  all_valid_unblamed none [] valid = refl
  all_valid_unblamed none (c ∷ rest) valid = absurd valid
  all_valid_unblamed (more first children) [] valid = absurd valid
  all_valid_unblamed (more first children) (c ∷ rest) valid = rw (valid_unblamed first c valid.0)
      (rw (all_valid_unblamed children rest valid.1) refl)

-- bad nodes tell whether a tree is valid
pub bad_nodes_tell : (d : RuleTree) (c : Claim) → (first_bad d c ≡ None) ↔ Valid d c
bad_nodes_tell d c = (unblamed_valid d c, valid_unblamed d c)
