-- With which numbers a property is derivable of a term: what is seen misses none.
use Rattle.std.proofs.Common.{◌≡◌, ◌↔◌, ℕ, nat_eq, Bool, true, false, if◌then◌else◌, List, ◌∷◌, map, Option, Some, None}
use Rattle.std.proofs.Common.{refl, sym, ◌∙◌, ap, subst}
use Rattle.std.specs.List.{list_all}
use Rattle.std.proofs.lemmas.Bool.{eqb-true, eq-eqb}
use Rattle.vir_term.specs.declared.leaf.Leaf.TheVariants.{PassFirst, DropFirst}
use Rattle.vir_term.specs.declared.prop.Prop.{Prop}
use Rattle.vir_term.specs.declared.prop.Prop.TheVariants.{Defers, Rejects, Elim}
use Rattle.vir_term.specs.Tree.{Tree, exactly, at_most}
use Rattle.vir_rules.specs.declared.row.Conclusion.{Conclusion}
use Rattle.vir_rules.specs.declared.row.Conclusion.TheVariants.{Has, Apart}
use Rattle.vir_rules.specs.declared.row.Need.{Need}
use Rattle.vir_rules.specs.declared.row.Need.TheVariants.{Of}
use Rattle.vir_rules.specs.declared.row.Part.TheVariants.{M}
use Rattle.vir_rules.specs.declared.row.Shape.{Shape}
use Rattle.vir_rules.specs.declared.row.Shape.TheVariants as shape
use Rattle.vir_rules.specs.declared.row.Wanted.TheVariants.{Is, DefersK, RejectsK}
use Rattle.vir_rules.specs.Claims.{of}
use Rattle.vir_rules.specs.Derivations.{Derivable, AllDerivable}
use Rattle.vir_rules.specs.Forms.{Form, leaf, seq, loop, form_of, first_part, is_shaped}
use Rattle.vir_rules.specs.Premises.{letters_of, number_for, filled, row_of}
use Rattle.vir_rules.specs.Table.{Rule, table}
use Rattle.vir_derive.specs.declared.derivable_props.DerivableProps.{DerivableProps}
use Rattle.vir_derive.specs.Numbers.{defers_candidate, rejects_candidate}
use Rattle.vir_derive.specs.DerivableProps.{TellsWithin, is_number, is_composed}
use Rattle.vir_derive.proofs.Deriving.{IsServed, served}
use Rattle.vir_derive.proofs.Rows.{no_true, premises_of_rule, row_passes, fitting, shaped}

-- whether a row's first premise is `defers` of the first part, with the row's number
asks_first : List Need → Bool
asks_first (Of DefersK M ∷ needs) = true
asks_first _ = false

-- whether a row that concludes `defers` with its number has that from the module, the loop or the first part
defers_tied : Shape → List Need → Bool
defers_tied shape.PassK needs = true
defers_tied shape.LoopK needs = true
defers_tied shape.UntilK needs = true
defers_tied shape.Seq needs = asks_first needs
defers_tied _ needs = false

rejects_tied : Shape → Bool
rejects_tied shape.DropK = true
rejects_tied _ = false

-- whether a row concludes a property with the number 1, or with one that is tied
numbers_tied : Conclusion → List Need → Bool
numbers_tied (Has (Is (Defers j)) s) needs = nat_eq j 1
numbers_tied (Has (Is (Rejects j)) s) needs = false
numbers_tied (Has (Is (Elim j)) s) needs = nat_eq j 1
numbers_tied (Has (Is _) s) needs = true
numbers_tied (Has DefersK s) needs = defers_tied s needs
numbers_tied (Has RejectsK s) needs = rejects_tied s
numbers_tied (Apart pairing) needs = true

row_tied : Rule → Bool
row_tied row = numbers_tied row.conclusion row.premises

table_tied : list_all row_tied table ≡ true
unfolding table row_tied numbers_tied defers_tied rejects_tied asks_first
table_tied = refl

-- A row of the table that serves a property of a term.
record IsServing (q : Prop) (t : Tree) : Type 0 where
  row : Rule
  k : ℕ
  tied : numbers_tied row.conclusion row.premises ≡ true
  number_is : number_for row.conclusion q (form_of t) ≡ Some k
  derivable : AllDerivable (map (filled (letters_of t k)) row.premises)

serving_by : (q : Prop) (t : Tree) → IsServed (of q t) → IsServing q t
unfolding row_tied
serving_by q t s =
    let f = fitting (row_of s.rule) q t s.needed (sym (premises_of_rule s.rule (of q t) s.least s.greatest)
    ∙ s.premises_are) in
    record {
      row = row_of s.rule;
      k = f.k;
      tied = row_passes row_tied s.rule s.least s.greatest table_tied;
      number_is =
          f.number_is;
      derivable = subst AllDerivable (sym f.needed_are) s.derivable;
    }

serving : (q : Prop) (t : Tree) → Derivable (of q t) → IsServing q t
serving q t d = serving_by q t (served (of q t) d)

same_one : (b : Bool) (j k i : ℕ) → nat_eq j k ≡ b → nat_eq j 1 ≡ true → (if b then Some j else None) ≡ Some i → k ≡ 1
same_one true j k i e o h = sym (eqb-true j k e) ∙ eqb-true j 1 o
same_one false j k i e o h = cc

pub not_one : {A : Type 0} (k : ℕ) → nat_eq k 1 ≡ false → k ≡ 1 → A
not_one k n e = no_true (sym n ∙ eq-eqb k 1 e)

-- What is known of `defers` of the first part: it is derivable with no number but 1 and this one.
abbrev KnowsFirst : Tree → ℕ → Option ℕ → Type 0
KnowsFirst t k other = form_of t ≡ seq → Derivable (of (Defers k) (first_part t)) → other ≡ Some k

first_asked : (t : Tree) (k : ℕ) (other : Option ℕ) → KnowsFirst t k other → form_of t ≡ seq → (needs : List Need)
    → asks_first needs ≡ true → AllDerivable (map (filled (letters_of t k)) needs) → other ≡ Some k
unfolding asks_first
first_asked t k other known e (Of DefersK M ∷ needs) a d = known e d.0
first_asked t k other known e _ a d = no_true a

tied_number : (t : Tree) (k : ℕ) (other : Option ℕ) → KnowsFirst t k other → (s : Shape) (form : Form)
    (needs : List Need) → form_of t ≡ form → defers_tied s needs ≡ true → is_shaped s k form ≡ true →
    AllDerivable (map (filled (letters_of t k)) needs) → defers_candidate form other ≡ Some k
unfolding defers_tied
tied_number t k other known shape.PassK (leaf (PassFirst j order)) needs e a h d = ap Some (eqb-true j k h)
tied_number t k other known shape.LoopK (loop (exactly j)) needs e a h d = ap Some (eqb-true j k h)
tied_number t k other known shape.UntilK (loop (at_most j)) needs e a h d = ap Some (eqb-true j k h)
tied_number t k other known shape.Seq seq needs e a h d = first_asked t k other known e needs a d
tied_number t k other known shape.PassK _ needs e a h d = no_true h
tied_number t k other known shape.LoopK _ needs e a h d = no_true h
tied_number t k other known shape.UntilK _ needs e a h d = no_true h
tied_number t k other known shape.Seq _ needs e a h d = no_true h
tied_number t k other known _ form needs e a h d = no_true a

defers_by : (t : Tree) (k i : ℕ) (other : Option ℕ) → KnowsFirst t k other → nat_eq k 1 ≡ false
    → (conclusion : Conclusion) (needs : List Need) → numbers_tied conclusion needs ≡ true →
    number_for conclusion (Defers k) (form_of t) ≡ Some i → AllDerivable (map (filled (letters_of t i)) needs)
    → defers_candidate (form_of t) other ≡ Some k
unfolding numbers_tied
defers_by t k i other known n (Has (Is (Defers j)) s) needs a h d =
    not_one k n (same_one (nat_eq j k) j k i refl a (shaped (Is (Defers j)) s (Defers k) (form_of t) i h).0)
defers_by t k i other known n (Has (Is p) s) needs a h d =
    absurd (none_is (shaped (Is p) s (Defers k) (form_of t) i h).0) where
      none_is : None ≡ Some i → ⊥
      none_is e = cc
defers_by t k i other known n (Has DefersK s) needs a h d =
    let w = shaped DefersK s (Defers k) (form_of t) i h in
    let e : k ≡ i = cc in
    tied_number t k other known s (form_of t) needs refl a (subst (λ j. is_shaped s j (form_of t) ≡ true) (sym e) w.1)
    (subst (λ j. AllDerivable (map (filled (letters_of t j)) needs)) (sym e) d)
defers_by t k i other known n (Has RejectsK s) needs a h d = cc
defers_by t k i other known n (Apart pairing) needs a h d = cc

drop_number : (k : ℕ) (s : Shape) (form : Form) → rejects_tied s ≡ true → is_shaped s k form ≡ true
    → rejects_candidate form ≡ Some k
unfolding rejects_tied
drop_number k shape.DropK (leaf (DropFirst j order)) a h = ap Some (eqb-true j k h)
drop_number k shape.DropK _ a h = no_true h
drop_number k _ form a h = no_true a

rejects_by : (form : Form) (k i : ℕ) (conclusion : Conclusion) (needs : List Need) → numbers_tied conclusion needs
    ≡ true → number_for conclusion (Rejects k) form ≡ Some i → rejects_candidate form ≡ Some k
unfolding numbers_tied
rejects_by form k i (Has (Is (Rejects j)) s) needs a h = no_true a
rejects_by form k i (Has (Is p) s) needs a h = absurd (none_is (shaped (Is p) s (Rejects k) form i h).0) where
  none_is : None ≡ Some i → ⊥
  none_is e = cc
rejects_by form k i (Has DefersK s) needs a h = cc
rejects_by form k i (Has RejectsK s) needs a h =
    let w = shaped RejectsK s (Rejects k) form i h in
    let e : k ≡ i = cc in
    drop_number k s form a (subst (λ j. is_shaped s j form ≡ true) (sym e) w.1)
rejects_by form k i (Apart pairing) needs a h = cc

elim_by : (form : Form) (k i : ℕ) (conclusion : Conclusion) (needs : List Need) → numbers_tied conclusion needs ≡ true
    → number_for conclusion (Elim k) form ≡ Some i → k ≡ 1
unfolding numbers_tied
elim_by form k i (Has (Is (Elim j)) s) needs a h = same_one (nat_eq j k) j k i refl a
    (shaped (Is (Elim j)) s (Elim k) form i h).0
elim_by form k i (Has (Is p) s) needs a h = absurd (none_is (shaped (Is p) s (Elim k) form i h).0) where
  none_is : None ≡ Some i → ⊥
  none_is e = cc
elim_by form k i (Has DefersK s) needs a h = cc
elim_by form k i (Has RejectsK s) needs a h = cc
elim_by form k i (Apart pairing) needs a h = cc

is_that : (o : Option ℕ) (k : ℕ) → is_number o k ≡ true → o ≡ Some k
is_that None k h = no_true h
is_that (Some j) k h = ap Some (eqb-true j k h)

-- what is derivable of the first part has its other number of `defers`
knows_first : (numbers : ℕ → Bool) (t : Tree) (first : DerivableProps) (k : ℕ) → nat_eq k 1 ≡ false → numbers k ≡ true
    → (is_composed (form_of t) ≡ true → TellsWithin numbers first (first_part t)) → KnowsFirst t k first.defers_other
knows_first numbers t first k n w tells e d =
    let composed : is_composed (form_of t) ≡ true = ap is_composed e in
    is_that first.defers_other k (sym (ap (λ b. if b then first.defers_one else is_number first.defers_other k) n)
    ∙ (tells composed (Defers k) w).1 d)

-- another number of `defers` is the candidate
pub defers_number : (numbers : ℕ → Bool) (t : Tree) (first : DerivableProps) (k : ℕ) → nat_eq k 1 ≡ false → numbers k
    ≡ true → (is_composed (form_of t) ≡ true → TellsWithin numbers first (first_part t)) → Derivable (of (Defers k) t)
    → defers_candidate (form_of t) first.defers_other ≡ Some k
defers_number numbers t first k n w tells d =
    let s = serving (Defers k) t d in
    defers_by t k s.k first.defers_other (knows_first numbers t first k n w tells) n s.row.conclusion s.row.premises
    s.tied s.number_is s.derivable

-- the number of `rejects` is the candidate
pub rejects_number : (t : Tree) (k : ℕ) → Derivable (of (Rejects k) t) → rejects_candidate (form_of t) ≡ Some k
rejects_number t k d = let s = serving (Rejects k) t d in rejects_by (form_of t) k s.k s.row.conclusion s.row.premises
    s.tied s.number_is

-- the number of `elim` is 1
pub elim_number : (t : Tree) (k : ℕ) → Derivable (of (Elim k) t) → k ≡ 1
elim_number t k d = let s = serving (Elim k) t d in elim_by (form_of t) k s.k s.row.conclusion s.row.premises s.tied
    s.number_is

-- Where a property is derivable at most with one candidate, these numbers are those with which it is.
module _ (D : ℕ → Type 0) (candidate : Option ℕ) (k : ℕ) (only : D k → candidate ≡ Some k) where
  pub no_candidate : candidate ≡ None → (false ≡ true) ↔ D k
  no_candidate e = ((λ h. no_true h), (λ d. none_some (sym e ∙ only d))) where
    none_some : None ≡ Some k → false ≡ true
    none_some h = cc

  pub candidate_fails : (j : ℕ) → candidate ≡ Some j → (j ≡ k → D k → ⊥) → (false ≡ true) ↔ D k
  candidate_fails j e n = ((λ h. no_true h), (λ d. absurd (n (same (sym e ∙ only d)) d))) where
    same : Some j ≡ Some k → j ≡ k
    same h = cc

  pub candidate_serves : (j : ℕ) → candidate ≡ Some j → (j ≡ k → D j) → (nat_eq j k ≡ true) ↔ D k
  candidate_serves j e d = (
    (λ h. subst D (eqb-true j k h) (d (eqb-true j k h))),
    (λ w. eq-eqb j k (same (sym e ∙ only w))),
  ) where
    same : Some j ≡ Some k → j ≡ k
    same h = cc
