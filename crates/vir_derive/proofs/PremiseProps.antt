-- The tree of the part that a premise is about.
use Rattle.std.proofs.Common.{◌≡◌, ℕ, zero, suc, true, List, [], ◌∷◌, length, Option, Some, None, option_map, slice_get}
use Rattle.std.proofs.Common.{refl, sym, ◌∙◌, ap, subst}
use Rattle.std.specs.Option.{option_and_then}
use Rattle.vir_term.specs.Tree.{Tree, rev, seq, par, loop, leaf}
use Rattle.vir_rules.specs.declared.row.Need.{Need}
use Rattle.vir_rules.specs.declared.row.Need.TheVariants.{Of, Disj}
use Rattle.vir_rules.specs.declared.row.Part.TheVariants.{M, N, T, U}
use Rattle.vir_rules.specs.Claims.{Claim, of, disj}
use Rattle.vir_rules.specs.Forms.{form_of, first_part, second_part}
use Rattle.vir_rules.specs.Premises.{letters_of, filled, premises, row_of}
use Rattle.vir_derive.specs.declared.props_tree.PropsTree.{PropsTree}
use Rattle.vir_derive.specs.declared.props_tree.PropsTree.TheVariants.{One', Two'}
use Rattle.vir_derive.specs.Judged.{tree_for}
use Rattle.vir_derive.specs.PropsTree.{first_tree, second_tree, IsPropsTreeOf, IsTreeFor}
use Rattle.vir_derive.specs.DerivableProps.{is_composed, IsTold}
use Rattle.vir_derive.proofs.Disjointness.{AskOfTerms, asked_of_terms}
use Rattle.vir_derive.proofs.Rows.{no_true, is_in_table, premises_of_rule, fitting}
use Rattle.vir_derive.proofs.Smaller.{nth_filled, need_below}

tree_of_parts : (t : Tree) (props : PropsTree) → is_composed (form_of t) ≡ true → IsPropsTreeOf props t
    → IsPropsTreeOf (first_tree props) (first_part t) × IsPropsTreeOf (second_tree props) (second_part t)
tree_of_parts (leaf l) props h a = no_true h
tree_of_parts (rev m) (One' s place part) h a = (a.1, a.1)
tree_of_parts (loop k m) (One' s place part) h a = (a.1, a.1)
tree_of_parts (seq m n) (Two' s place first place' second) h a = (a.1, a.2)
tree_of_parts (par m n) (Two' s place first place' second) h a = (a.1, a.2)
tree_of_parts _ _ h a = absurd a

tree_of_need : (t : Tree) (k : ℕ) (props : PropsTree) (need : Need) → IsTold (form_of t) need → IsPropsTreeOf props t
    → IsTreeFor (tree_for (Some need) props) (filled (letters_of t k) need)
tree_of_need t k props (Of wanted M) told a = (tree_of_parts t props told a).0
tree_of_need t k props (Of wanted N) told a = (tree_of_parts t props told a).1
tree_of_need t k props (Of wanted T) told a = a
tree_of_need t k props (Of wanted U) told a = absurd told
tree_of_need t k props (Disj left right) told a = tt

tree_of_disjointness : (left right : Tree) (needed : List Claim) (i : ℕ) (premise : Claim) (props : PropsTree)
    → AskOfTerms left right needed → slice_get needed i ≡ Some premise → IsTreeFor props premise
tree_of_disjointness left right needed i (disj part other) props a h = tt
tree_of_disjointness left right [] i (of q t) props a h = cc
tree_of_disjointness left right (disj part other ∷ []) zero (of q t) props a h = cc
tree_of_disjointness left right (disj part other ∷ []) (suc i) (of q t) props a h = cc
tree_of_disjointness left right (disj part other ∷ _ ∷ _) i (of q t) props a h = absurd a
tree_of_disjointness left right (of p u ∷ _) i (of q t) props a h = absurd a

-- a premise has the tree of its part
pub tree_of_premise : (rule : ℕ) (c : Claim) (needed : List Claim) (i : ℕ) (premise : Claim) (props : PropsTree)
    → premises rule c ≡ Some needed → slice_get needed i ≡ Some premise → IsTreeFor props c →
    IsTreeFor (tree_for (slice_get (row_of rule).premises i) props) premise
tree_of_premise rule (of q t) needed i premise props e h a =
    let range = is_in_table rule (of q t) needed e in
    let f = fitting (row_of rule) q t needed (sym (premises_of_rule rule (of q t) range.0 range.1) ∙ e) in
    let w = nth_filled (letters_of t f.k) (row_of rule).premises i premise (ap (λ xs. slice_get xs i) f.needed_are ∙ h)
    in
    let told : IsTold (form_of t) w.0 = (need_below rule q (form_of t) f.k i w.0 range.0 range.1 f.number_is w.1).told
    in
    let P : Option Need → Type 0 = λ need. IsTreeFor (tree_for need props) premise in
    subst P (sym w.1) (subst (IsTreeFor (tree_for (Some w.0) props)) w.2 (tree_of_need t f.k props w.0 told a))
tree_of_premise rule (disj left right) needed i premise props e h a =
    tree_of_disjointness left right needed i premise (tree_for (slice_get (row_of rule).premises i) props)
    (asked_of_terms rule left right needed e) h

-- the premises of a rule that has so many
pub counted : (o : Option (List Claim)) (n : ℕ) → Some n ≡ option_map length o → (needed : List Claim)
    × (o ≡ Some needed) × (length needed ≡ n)
counted None n h = cc
counted (Some needed) n h = (needed, refl, cc)

same_in : (o : Option (List Claim)) (i : ℕ) (premise : Claim) → Some premise
    ≡ option_and_then (λ needed. slice_get needed i) o → (needed : List Claim) × (o ≡ Some needed)
    × (slice_get needed i ≡ Some premise)
same_in None i premise h = cc
same_in (Some needed) i premise h = (needed, refl, sym h)

-- a premise that a rule has, has the tree of its part
pub tree_of_some : (rule : ℕ) (c : Claim) (i : ℕ) (premise : Claim) (props found : PropsTree) → Some premise
    ≡ option_and_then (λ needed. slice_get needed i) (premises rule c) → found
    ≡ tree_for (slice_get (row_of rule).premises i) props →
    IsTreeFor props c → IsTreeFor found premise
tree_of_some rule c i premise props found h e a =
    let w = same_in (premises rule c) i premise h in
    subst (λ m. IsTreeFor m premise) (sym e) (tree_of_premise rule c w.0 i premise props w.1 w.2 a)

-- the premise in a place
pub nth : (needed : List Claim) (o : Option (List Claim)) (i : ℕ) (r : Option Claim) → o ≡ Some needed → r
    ≡ option_and_then (λ xs. slice_get xs i) o → slice_get needed i ≡ r
nth needed o i r h k = sym (k ∙ ap (option_and_then (λ xs. slice_get xs i)) h)
