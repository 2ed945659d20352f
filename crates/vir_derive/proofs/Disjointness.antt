-- Two terms are derivably disjoint just where their heads are opposed.
use Rattle.std.proofs.Common.{◌≡◌, ℕ, ◌+◌, ◌<◌, nat_eq, Bool, true, false, ◌&&◌, if◌then◌else◌, List, [], ◌∷◌, map}
use Rattle.std.proofs.Common.{Option, Some, None, option_map, refl, sym, ◌∙◌, subst, arith}
use Rattle.std.specs.Cmp.Lexicographic.{pointwise}
use Rattle.std.specs.List.{list_all}
use Rattle.vir_term.specs.declared.leaf.Leaf.{Leaf}
use Rattle.vir_term.specs.declared.leaf.Leaf.TheVariants.{PassFirst, DropFirst}
use Rattle.vir_term.specs.Tree.{Tree, leaf, rev, seq, par, loop, size}
use Rattle.vir_rules.specs.declared.row.Conclusion.{Conclusion}
use Rattle.vir_rules.specs.declared.row.Conclusion.TheVariants.{Has, Apart}
use Rattle.vir_rules.specs.declared.row.Need.{Need}
use Rattle.vir_rules.specs.declared.row.Need.TheVariants.{Disj}
use Rattle.vir_rules.specs.declared.row.Pairing.{Pairing}
use Rattle.vir_rules.specs.declared.row.Pairing.TheVariants.{PassDrop, DropPass, SeqLeft, SeqRight, RevLeft, RevRight}
use Rattle.vir_rules.specs.declared.row.Part.TheVariants.{M, U}
use Rattle.vir_rules.specs.Claims.{Claim, of, disj}
use Rattle.vir_rules.specs.Premises.{Letters, letters_of_pair, letters_in, paired, filled, row_of, premises}
use Rattle.vir_rules.specs.Premises.{premises_by}
use Rattle.vir_rules.specs.RuleTrees.{RuleTree, RuleTrees, node, none, more}
use Rattle.vir_rules.specs.Derivations.{Valid, AllValid, Derivable}
use Rattle.vir_rules.specs.Table.{Rule, table}
use Rattle.vir_derive.specs.Heads.{leaf_head, head, opposed, are_opposed}
use Rattle.vir_derive.proofs.Deriving.{derivable_by}
use Rattle.vir_derive.proofs.Rows.{no_true, is_in_table, premises_of_rule, row_passes}

-- a rule without premises derives
by_itself : (rule : ℕ) (c : Claim) → premises rule c ≡ Some [] → Derivable c
by_itself rule c e = derivable_by rule c [] e tt

-- a rule with one premise derives, where that is derivable
by_one : (rule : ℕ) (c needed : Claim) → premises rule c ≡ Some (needed ∷ []) → Derivable needed → Derivable c
by_one rule c needed e d = derivable_by rule c (needed ∷ []) e (d, tt)

by_seq_left : (first second other : Tree) → premises 79 (disj (seq first second) other) ≡ Some (disj first other ∷ [])
unfolding row_of table
by_seq_left first second other = premises_of_rule 79 _ (omega arith) (omega arith)

by_seq_right : (l : Leaf) (first second : Tree) → premises 80 (disj (leaf l) (seq first second))
    ≡ Some (disj (leaf l) first ∷ [])
unfolding row_of table
by_seq_right l first second = premises_of_rule 80 _ (omega arith) (omega arith)

by_rev_left : (part other : Tree) → premises 81 (disj (rev part) other) ≡ Some (disj part other ∷ [])
unfolding row_of table
by_rev_left part other = premises_of_rule 81 _ (omega arith) (omega arith)

by_rev_right : (l : Leaf) (part : Tree) → premises 82 (disj (leaf l) (rev part)) ≡ Some (disj (leaf l) part ∷ [])
unfolding row_of table
by_rev_right l part = premises_of_rule 82 _ (omega arith) (omega arith)

by_pass_drop : (k j : ℕ) (order other : List ℕ) → (nat_eq k j && pointwise nat_eq order other) ≡ true →
    premises 77 (disj (leaf (PassFirst k order)) (leaf (DropFirst j other))) ≡ Some []
unfolding row_of table
by_pass_drop k j order other h = premises_of_rule 77 _ (omega arith) (omega arith) ∙ rw h refl

by_drop_pass : (k j : ℕ) (order other : List ℕ) → (nat_eq k j && pointwise nat_eq order other) ≡ true →
    premises 78 (disj (leaf (DropFirst k order)) (leaf (PassFirst j other))) ≡ Some []
unfolding row_of table
by_drop_pass k j order other h = premises_of_rule 78 _ (omega arith) (omega arith) ∙ rw h refl

leaves_disjoint : (l other : Leaf) → opposed (leaf_head l) (leaf_head other) ≡ true
    → Derivable (disj (leaf l) (leaf other))
leaves_disjoint (PassFirst k order) (DropFirst j other) h = by_itself 77 _ (by_pass_drop k j order other h)
leaves_disjoint (DropFirst k order) (PassFirst j other) h = by_itself 78 _ (by_drop_pass k j order other h)
leaves_disjoint _ _ h = no_true h

-- nothing is opposed to no head
unopposed : (l : Option Leaf) {A : Type 0} → opposed l None ≡ true → A
unopposed (Some (PassFirst k order)) h = no_true h
unopposed (Some (DropFirst k order)) h = no_true h
unopposed _ h = no_true h

leaf_disjoint : (l : Leaf) (other : Tree) → opposed (leaf_head l) (head other) ≡ true → Derivable (disj (leaf l) other)
leaf_disjoint l (leaf other) h = leaves_disjoint l other h
leaf_disjoint l (rev part) h = by_one 82 _ _ (by_rev_right l part) (leaf_disjoint l part h)
leaf_disjoint l (seq first second) h = by_one 80 _ _ (by_seq_right l first second) (leaf_disjoint l first h)
leaf_disjoint l (par first second) h = unopposed (leaf_head l) h
leaf_disjoint l (loop k body) h = unopposed (leaf_head l) h

pub disjoint_if_opposed : (left right : Tree) → are_opposed left right ≡ true → Derivable (disj left right)
disjoint_if_opposed (leaf l) right h = leaf_disjoint l right h
disjoint_if_opposed (rev part) right h = by_one 81 _ _ (by_rev_left part right) (disjoint_if_opposed part right h)
disjoint_if_opposed (seq first second) right h = by_one 79 _ _ (by_seq_left first second right)
    (disjoint_if_opposed first right h)
disjoint_if_opposed (par first second) right h = no_true h
disjoint_if_opposed (loop k body) right h = no_true h

-- the premises of a row on two terms: none of two modules, and otherwise that the part and the other term are disjoint
asks_so : Pairing → List Need → Bool
asks_so PassDrop [] = true
asks_so DropPass [] = true
asks_so SeqLeft (Disj M U ∷ []) = true
asks_so RevLeft (Disj M U ∷ []) = true
asks_so SeqRight (Disj U M ∷ []) = true
asks_so RevRight (Disj U M ∷ []) = true
asks_so _ _ = false

asks_of_terms : Conclusion → List Need → Bool
asks_of_terms (Apart pairing) needs = asks_so pairing needs
asks_of_terms (Has wanted shape) needs = true

row_asks : Rule → Bool
row_asks row = asks_of_terms row.conclusion row.premises

table_asks : list_all row_asks table ≡ true
unfolding table row_asks asks_of_terms asks_so
table_asks = refl

-- The premises of a rule on two terms: none where the heads are opposed, or that two terms with the same heads are
-- disjoint, which
-- together are smaller.
abbrev pub AskOfTerms : Tree → Tree → List Claim → Type 0
AskOfTerms left right [] = are_opposed left right ≡ true
AskOfTerms left right (disj part other ∷ []) = (are_opposed part other ≡ are_opposed left right)
    × (size part + size other < size left + size right)
AskOfTerms left right _ = ⊥

abbrev AskIfFit : Tree → Tree → Option (List Claim) → Type 0
AskIfFit left right None = Unit {0}
AskIfFit left right (Some needed) = AskOfTerms left right needed

modules_ask : (left right : Tree) (letters : Letters) (b : Bool) → are_opposed left right ≡ b
    → AskIfFit left right (option_map (λ letters. map (filled letters) []) (if b then Some letters else None))
modules_ask left right letters true e = e
modules_ask left right letters false e = tt

pass_drop_asks : (left right : Tree) → AskIfFit left right (option_map (λ letters. map (filled letters) [])
    (paired PassDrop left right))
pass_drop_asks (leaf (PassFirst k order)) (leaf (DropFirst j other)) = modules_ask (leaf (PassFirst k order))
    (leaf (DropFirst j other)) (letters_of_pair (leaf (PassFirst k order)) (leaf (DropFirst j other))) (nat_eq k j
    && pointwise nat_eq order other) refl
pass_drop_asks _ _ = tt

drop_pass_asks : (left right : Tree) → AskIfFit left right (option_map (λ letters. map (filled letters) [])
    (paired DropPass left right))
drop_pass_asks (leaf (DropFirst k order)) (leaf (PassFirst j other)) = modules_ask (leaf (DropFirst k order))
    (leaf (PassFirst j other)) (letters_of_pair (leaf (DropFirst k order)) (leaf (PassFirst j other))) (nat_eq k j
    && pointwise nat_eq order other) refl
drop_pass_asks _ _ = tt

seq_left_asks : (left right : Tree) → AskIfFit left right (option_map (λ letters. map (filled letters) (Disj M U ∷ []))
    (paired SeqLeft left right))
seq_left_asks (seq first second) right = (refl, omega arith)
seq_left_asks _ right = tt

rev_left_asks : (left right : Tree) → AskIfFit left right (option_map (λ letters. map (filled letters) (Disj M U ∷ []))
    (paired RevLeft left right))
rev_left_asks (rev part) right = (refl, omega arith)
rev_left_asks _ right = tt

seq_right_asks : (left right : Tree) → AskIfFit left right (option_map (λ letters. map (filled letters) (Disj U M ∷ []))
    (paired SeqRight left right))
seq_right_asks left (seq first second) = (refl, omega arith)
seq_right_asks left _ = tt

rev_right_asks : (left right : Tree) → AskIfFit left right (option_map (λ letters. map (filled letters) (Disj U M ∷ []))
    (paired RevRight left right))
rev_right_asks left (rev part) = (refl, omega arith)
rev_right_asks left _ = tt

pairing_asks : (pairing : Pairing) (needs : List Need) → asks_so pairing needs ≡ true → (left right : Tree)
    → AskIfFit left right (option_map (λ letters. map (filled letters) needs) (paired pairing left right))
unfolding asks_so
pairing_asks PassDrop [] h left right = pass_drop_asks left right
pairing_asks DropPass [] h left right = drop_pass_asks left right
pairing_asks SeqLeft (Disj M U ∷ []) h left right = seq_left_asks left right
pairing_asks RevLeft (Disj M U ∷ []) h left right = rev_left_asks left right
pairing_asks SeqRight (Disj U M ∷ []) h left right = seq_right_asks left right
pairing_asks RevRight (Disj U M ∷ []) h left right = rev_right_asks left right
pairing_asks _ _ h left right = no_true h

conclusion_asks : (conclusion : Conclusion) (needs : List Need) → asks_of_terms conclusion needs ≡ true
    → (left right : Tree) →
    AskIfFit left right (option_map (λ letters. map (filled letters) needs) (letters_in conclusion (disj left right)))
unfolding asks_of_terms
conclusion_asks (Apart pairing) needs h left right = pairing_asks pairing needs h left right
conclusion_asks (Has wanted shape) needs h left right = tt

asked_by_row : (row : Rule) → row_asks row ≡ true → (left right : Tree)
    → AskIfFit left right (premises_by row (disj left right))
unfolding row_asks
asked_by_row row h left right = conclusion_asks row.conclusion row.premises h left right

pub asked_of_terms : (rule : ℕ) (left right : Tree) (needed : List Claim) → premises rule (disj left right)
    ≡ Some needed → AskOfTerms left right needed
asked_of_terms rule left right needed e =
    let range = is_in_table rule (disj left right) needed e in
    let P : Option (List Claim) → Type 0 = AskIfFit left right in
    subst P (sym (premises_of_rule rule (disj left right) range.0 range.1) ∙ e)
    (asked_by_row (row_of rule) (row_passes row_asks rule range.0 range.1 table_asks) left right)

mutual
  opposed_if_valid : (tree : RuleTree) (left right : Tree) → Valid tree (disj left right) → are_opposed left right
      ≡ true
  opposed_if_valid (node rule children) left right v = opposed_under children left right v.0
      (asked_of_terms rule left right v.0 v.1) v.2

  opposed_under : (children : RuleTrees) (left right : Tree) (needed : List Claim) → AskOfTerms left right needed
      → AllValid children needed → are_opposed left right ≡ true
  opposed_under none left right [] a v = a
  opposed_under (more first rest) left right (disj part other ∷ []) a v = sym a.0 ∙ opposed_if_valid first part other
      v.0
  opposed_under (more first rest) left right [] a v = absurd v
  opposed_under none left right (_ ∷ _) a v = absurd v
  opposed_under (more first rest) left right (of q t ∷ _) a v = absurd a
  opposed_under (more first rest) left right (disj part other ∷ _ ∷ _) a v = absurd a

pub opposed_if_disjoint : (left right : Tree) → Derivable (disj left right) → are_opposed left right ≡ true
opposed_if_disjoint left right d = opposed_if_valid d.0 left right d.1

-- a test of whether heads are opposed tells whether the terms are derivably disjoint
pub disjoint_if_told : (b : Bool) (left right : Tree) → b ≡ are_opposed left right
    → (b ≡ true → Derivable (disj left right)) × (Derivable (disj left right) → b ≡ true)
disjoint_if_told b left right e = (
  (λ h. disjoint_if_opposed left right (sym e ∙ h)),
  (λ d. e ∙ opposed_if_disjoint left
      right d),
)
