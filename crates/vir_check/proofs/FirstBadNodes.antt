-- Where the first bad node of a derivation is, as its children are gone through.
use Rattle.std.proofs.Common.{◌≡◌, ℕ, ◌+◌, ◌<◌, List, [], ◌∷◌, length, drop, Option, Some, None, option_map, slice_get}
use Rattle.std.proofs.Common.{refl, sym, ap, ◌∙◌, zero, suc, arith, add-one, eq-eqb}
use Rattle.std.specs.Option.{option_and_then}
use Rattle.std.proofs.lemmas.Bool.{ne_eqb}
use Rattle.vir_rules.specs.declared.unfit.Unfit.TheVariants.{RuleDoesNotFit, WrongNumberOfPremises}
use Rattle.vir_rules.specs.declared.derivation.Derivation.{Derivation, out-Derivation}
use Rattle.vir_rules.specs.Claims.{Claim}
use Rattle.vir_rules.specs.Premises.{premises}
use Rattle.vir_rules.specs.RuleTrees.{RuleTree, RuleTrees, gathered, count, size, size_of_all, rule_tree, rule_trees}
use Rattle.vir_rules.specs.BadNodes.{BadNode, after, or_else, judged, first_bad, first_bad_among}
use Rattle.vir_rules.proofs.TreeLaws.{tree_opened}
use Rattle.vir_rules.proofs.Checking.{count-gathered, judged_wrong, judged_right}

-- the premises of which there are so many
pub counted : (known : Option (List Claim)) (n : ℕ) → Some n ≡ option_map length known → (needed : List Claim)
    × (known ≡ Some needed) × (length needed ≡ n)
counted None n many = cc
counted (Some needed) n many = (needed, refl, cc)

-- the premise at a place
pub premise_at : (needed : List Claim) (known : Option (List Claim)) (i : ℕ) (found : Option Claim) → known
    ≡ Some needed
    → found ≡ option_and_then (λ (all : List Claim). slice_get all i) known → slice_get needed i ≡ found
premise_at needed known i found is at = sym (at ∙ ap (option_and_then (λ (all : List Claim). slice_get all i)) is)

pub drop-here : {A : Type 0} (xs : List A) (i : ℕ) (x : A) → slice_get xs i ≡ Some x → drop i xs ≡ x ∷ drop (i + 1) xs
drop-here [] i x at = cc
drop-here (y ∷ ys) zero x at = cc
drop-here (y ∷ ys) (suc i) x at = rw (add-one (suc i)) (rw add-one at (drop-here ys i x at))

-- within a list, something stands at each place
pub stands_within : {A : Type 0} (xs : List A) (i : ℕ) → slice_get xs i ≡ None → i < length xs → ⊥
stands_within [] i at inside = omega arith
stands_within (x ∷ xs) zero at inside = cc
stands_within (x ∷ xs) (suc i) at inside = stands_within xs i at (omega arith)

after-after : (earlier before : ℕ) (bad : Option BadNode) → after earlier (after before bad) ≡ after (earlier + before)
    bad
after-after earlier before None = refl
after-after earlier before (Some bad) =
    let e : earlier + (before + bad.number) ≡ earlier + before + bad.number = omega arith in
    ap (λ n. Some (record { number = n; why = bad.why })) e

-- a derivation is as large as its children together, and 1 larger for its root
pub size_opened : (d : Derivation) → size (rule_tree d) ≡ 1
    + size_of_all (gathered (rule_trees (out-Derivation d).children))
size_opened d = ap size (tree_opened d)

pub size_of_all-here : (trees : List RuleTree) (i : ℕ) (tree : RuleTree) → slice_get trees i ≡ Some tree →
    size_of_all (gathered (drop i trees)) ≡ size tree + size_of_all (gathered (drop (i + 1) trees))
size_of_all-here trees i tree at = rw (drop-here trees i tree at) refl

-- the first bad node of a derivation whose rule has these premises
opened : (d : Derivation) (c : Claim) (needed : List Claim) → premises (out-Derivation d).rule c ≡ Some needed →
    first_bad (rule_tree d) c ≡ judged (Some needed) (count (gathered (rule_trees (out-Derivation d).children)))
    (first_bad_among (gathered (rule_trees (out-Derivation d).children)))
opened d c needed is =
    let children : RuleTrees = gathered (rule_trees (out-Derivation d).children) in
    ap (λ tree. first_bad tree c) (tree_opened d)
    ∙ ap (λ known. judged known (count children) (λ all. first_bad_among children all)) is

-- where the rule has as many premises as there are children, it is the first one of theirs
pub bad_of_children : (d : Derivation) (c : Claim) (needed : List Claim) → premises (out-Derivation d).rule c
    ≡ Some needed
    → length needed ≡ length (rule_trees (out-Derivation d).children)
    → first_bad (rule_tree d) c ≡ after 1 (first_bad_among (gathered (rule_trees (out-Derivation d).children)) needed)
bad_of_children d c needed is as_many =
    let trees : List RuleTree = rule_trees (out-Derivation d).children in
    opened d c needed is
    ∙ judged_right needed (count (gathered trees)) (first_bad_among (gathered trees))
    (eq-eqb (count (gathered trees)) (length needed) (count-gathered trees ∙ sym as_many))

-- where the rule has another number of premises, it is the root
pub bad_by_number : (d : Derivation) (c : Claim) (needed : List Claim) → premises (out-Derivation d).rule c
    ≡ Some needed
    → (length needed ≡ length (rule_trees (out-Derivation d).children) → ⊥)
    → first_bad (rule_tree d) c ≡ Some (record { number = 0; why = WrongNumberOfPremises })
bad_by_number d c needed is differ =
    let trees : List RuleTree = rule_trees (out-Derivation d).children in
    opened d c needed is
    ∙ judged_wrong needed (count (gathered trees)) (first_bad_among (gathered trees))
    (ne_eqb (count (gathered trees)) (length needed) (λ e. differ (sym e ∙ count-gathered trees)))

-- where the rule doesn't fit, it is the root
pub bad_by_rule : (d : Derivation) (c : Claim) → None ≡ option_map length (premises (out-Derivation d).rule c)
    → first_bad (rule_tree d) c ≡ Some (record { number = 0; why = RuleDoesNotFit })
bad_by_rule d c none =
    let children : RuleTrees = gathered (rule_trees (out-Derivation d).children) in
    ap (λ tree. first_bad tree c) (tree_opened d)
    ∙ ap (λ known. judged known (count children) (λ all. first_bad_among children all))
    (unknown (premises (out-Derivation d).rule c) none)
  where
    unknown : (known : Option (List Claim)) → None ≡ option_map length known → known ≡ None
    unknown None e = refl
    unknown (Some all) e = cc

among-here : (trees : List RuleTree) (needed : List Claim) (i : ℕ) (tree : RuleTree) (c : Claim) → slice_get trees i
    ≡ Some tree → slice_get needed i ≡ Some c →
    first_bad_among (gathered (drop i trees)) (drop i needed) ≡ or_else (first_bad tree c)
    (after (size tree) (first_bad_among (gathered (drop (i + 1) trees)) (drop (i + 1) needed)))
among-here trees needed i tree c at wanted = rw (drop-here trees i tree at, drop-here needed i c wanted) refl

-- a child and its premise, where the bad nodes are sought from that child on
module _ (found : Option BadNode) (trees : List RuleTree) (needed : List Claim) (i before : ℕ) (tree : RuleTree)
    (c : Claim)
    (at : slice_get trees i ≡ Some tree) (wanted : slice_get needed i ≡ Some c)
    (from_here : found ≡ after before (first_bad_among (gathered (drop i trees)) (drop i needed))) where
  -- the first bad node of the children behind it
  abbrev later : Option BadNode
  later = first_bad_among (gathered (drop (i + 1) trees)) (drop (i + 1) needed)

  -- a child without a bad node is passed over
  pub passed : first_bad tree c ≡ None → found ≡ after (before + size tree)
      (first_bad_among (gathered (drop (i + 1) trees)) (drop (i + 1) needed))
  passed none_bad =
      from_here ∙ ap (after before) (among-here trees needed i tree c at wanted)
      ∙ ap (λ bad. after before (or_else bad (after (size tree) later))) none_bad
      ∙ after-after before (size tree) _

  -- a child's bad node is the first one
  pub stopped : (bad : BadNode) → first_bad tree c ≡ Some bad → found
      ≡ Some (record { number = before + bad.number; why = bad.why })
  stopped bad is =
      from_here ∙ ap (after before) (among-here trees needed i tree c at wanted)
      ∙ ap (λ first. after before (or_else first (after (size tree) later))) is
