-- From laws over meanings to rows of the table: what it takes that a row of each shape is sound.
use Rattle.std.proofs.Common.{◌≡◌, ℕ, ◌≤◌, Bool, true, false, if◌then◌else◌, List, [], ◌∷◌, Option, Some, None}
use Rattle.std.proofs.Common.{option_map, map, refl, sym, ap, subst, eqb-true}
use Rattle.std.specs.Option.{option_and_then}
use Rattle.vir_term.specs.declared.leaf.Leaf.{Leaf}
use Rattle.vir_term.specs.declared.prop.Prop.{Prop}
use Rattle.vir_term.specs.declared.prop.Prop.TheVariants.{Ne, Ea, El, Defers, Rejects, Elim, Nb, Decr, Dli, Imono}
use Rattle.vir_term.specs.declared.prop.Prop.TheVariants.{Dimono, Dmono, Mono, Cc, Dcc, Cprog, Ccomp, Neut}
use Rattle.vir_term.specs.Kinds.{kind_of}
use Rattle.vir_term.specs.Tree.{Tree, leaf, rev, seq, par, loop, exactly, at_most}
use Rattle.vir_mean.specs.Disjointness.{AreDisjoint}
use Rattle.vir_mean.specs.Meaning.{mean}
use Rattle.vir_mean.specs.Properties.{Holds}
use Rattle.vir_rules.specs.declared.row.Wanted.TheVariants.{Is, DefersK, RejectsK}
use Rattle.vir_rules.specs.declared.row.Family.{Family}
use Rattle.vir_rules.specs.declared.row.Shape.{Shape}
use Rattle.vir_rules.specs.declared.row.Shape.TheVariants.{Any, ModuleOf, Rev, Seq, Par, Loop, LoopOne, Until, UntilOne}
use Rattle.vir_rules.specs.declared.row.Pairing.{Pairing}
use Rattle.vir_rules.specs.declared.row.Conclusion.{Conclusion}
use Rattle.vir_rules.specs.declared.row.Conclusion.TheVariants.{Has, Apart}
use Rattle.vir_rules.specs.declared.row.Need.{Need}
use Rattle.vir_rules.specs.Claims.{Claim, of, disj}
use Rattle.vir_rules.specs.Families.{is_of}
use Rattle.vir_rules.specs.Forms.{form_of, is_shaped}
use Rattle.vir_rules.specs.Premises.{Letters, letters_of, filled, paired}
use Rattle.vir_rules.specs.Props.{is_same, number_of}
use Rattle.vir_rules.specs.Table.{Rule, rule}
use Rattle.vir_sound.specs.Truth.{IsTrueClaim, AllTrue, IsProper, IsProperLeaf, IsSoundRow}

-- X follows from these claims, one after another
abbrev pub Follows : List Claim → Type 0 → Type 0
Follows [] X = X
Follows (c ∷ rest) X = IsTrueClaim c → Follows rest X

followed : (claims : List Claim) (X : Type 0) → Follows claims X → AllTrue claims → X
followed [] X law all = law
followed (c ∷ rest) X law (one, all) = followed rest X (law one) all

pub false_true : {A : Type 0} → false ≡ true → A
false_true h = cc

-- properties that are the same by rank and number are one
is_same-one : (p q : Prop) → is_same p q ≡ true → p ≡ q
is_same-one Ne Ne h = refl
is_same-one Ea Ea h = refl
is_same-one El El h = refl
is_same-one (Defers i) (Defers j) h = ap Defers (eqb-true i j h)
is_same-one (Rejects i) (Rejects j) h = ap Rejects (eqb-true i j h)
is_same-one (Elim i) (Elim j) h = ap Elim (eqb-true i j h)
is_same-one Nb Nb h = refl
is_same-one Decr Decr h = refl
is_same-one Dli Dli h = refl
is_same-one Imono Imono h = refl
is_same-one Dimono Dimono h = refl
is_same-one Dmono Dmono h = refl
is_same-one Mono Mono h = refl
is_same-one Cc Cc h = refl
is_same-one Dcc Dcc h = refl
is_same-one Cprog Cprog h = refl
is_same-one Ccomp Ccomp h = refl
is_same-one Neut Neut h = refl
is_same-one _ _ h = false_true h

-- the letters of a row about a term, where its shape is met
abbrev lettered : Bool → Tree → ℕ → Option Letters
lettered shaped t k = option_map (letters_of t) (if shaped then Some k else None)

-- the premises, where the shape is met
abbrev needed_by : List Need → Option Letters → Option (List Claim)
needed_by needs letters = option_map (λ l. map (filled l) needs) letters

pub some_same : {A : Type 0} (x y : A) → Some x ≡ Some y → x ≡ y
some_same x y h = cc

pub none_some : {A B : Type 0} (x : A) → None ≡ Some x → B
none_some x h = cc

-- A row about properties of terms is sound where its law holds of each term of its shape.
module _ (q : Prop) (shape : Shape) (needs : List Need)
    (law : (t : Tree) → is_shaped shape (number_of q) (form_of t) ≡ true → IsProper t
    → Follows (map (filled (letters_of t (number_of q))) needs) (Holds q (mean t))) where
  shaped_case : (t : Tree) (shaped : Bool) → is_shaped shape (number_of q) (form_of t) ≡ shaped → (needed : List Claim)
      → IsProper t → needed_by needs (lettered shaped t (number_of q)) ≡ Some needed → AllTrue needed → Holds q (mean t)
  shaped_case t true is needed proper e all = followed _ _ (law t is proper) (subst AllTrue (sym (some_same _ _ e)) all)
  shaped_case t false is needed proper e all = none_some needed e

  same_case : (p : Prop) (t : Tree) (same : Bool) → is_same q p ≡ same → (needed : List Claim) → IsProper t
      → needed_by needs (option_map (letters_of t) (option_and_then (λ k. if is_shaped shape k (form_of t) then Some k
      else None) (if same then Some (number_of q) else None))) ≡ Some needed
      → AllTrue needed → Holds p (mean t)
  same_case p t true is needed proper e all =
      subst (λ x. Holds x (mean t)) (is_same-one q p is) (shaped_case t (is_shaped shape (number_of q) (form_of t)) refl
      needed proper e all)
  same_case p t false is needed proper e all = none_some needed e

  pub by_shape : (name : List ℕ) → IsSoundRow (rule name (Has (Is q) shape) needs)
  by_shape name (of p t) needed proper e all = same_case p t (is_same q p) refl needed proper e all
  by_shape name (disj s t) needed proper e all = none_some needed e

-- a row is sound where the same row is whose conclusion is written out
of_row : (row : Rule) (conclusion : Conclusion) → row.conclusion ≡ conclusion
    → IsSoundRow (rule row.name conclusion row.premises) → IsSoundRow row
of_row row conclusion is sound = subst (λ x. IsSoundRow (rule row.name x row.premises)) (sym is) sound

-- ---- a property without its own number, by the shape of the term
module _ (q : Prop) (row : Rule) where
  -- what a row says of a term with this number
  abbrev Row_law : Tree → Type 0
  Row_law t = Follows (map (filled (letters_of t (number_of q))) row.premises) (Holds q (mean t))

  pub by_any : row.conclusion ≡ Has (Is q) Any → ((t : Tree) → Row_law t) → IsSoundRow row
  by_any is law = of_row row (Has (Is q) Any) is (by_shape q Any row.premises (λ t shaped proper. law t) row.name)

  pub by_module : (family : Family) → row.conclusion ≡ Has (Is q) (ModuleOf family)
      → ((l : Leaf) → IsProperLeaf l → is_of family (kind_of l) ≡ true → Row_law (leaf l)) → IsSoundRow row
  by_module family is law = of_row row (Has (Is q) (ModuleOf family)) is (by_shape q (ModuleOf family) row.premises at
      row.name)
    where
      at : (t : Tree) → is_shaped (ModuleOf family) (number_of q) (form_of t) ≡ true → IsProper t → Row_law t
      at (leaf l) is proper = law l proper is
      at _ is proper = false_true is

  pub by_rev : row.conclusion ≡ Has (Is q) Rev → ((m : Tree) → Row_law (rev m)) → IsSoundRow row
  by_rev is law = of_row row (Has (Is q) Rev) is (by_shape q Rev row.premises at row.name)
    where
      at : (t : Tree) → is_shaped Rev (number_of q) (form_of t) ≡ true → IsProper t → Row_law t
      at (rev part) is proper = law part
      at _ is proper = false_true is

  pub by_seq : row.conclusion ≡ Has (Is q) Seq → ((m n : Tree) → Row_law (seq m n)) → IsSoundRow row
  by_seq is law = of_row row (Has (Is q) Seq) is (by_shape q Seq row.premises at row.name)
    where
      at : (t : Tree) → is_shaped Seq (number_of q) (form_of t) ≡ true → IsProper t → Row_law t
      at (seq first second) is proper = law first second
      at _ is proper = false_true is

  pub by_par : row.conclusion ≡ Has (Is q) Par → ((m n : Tree) → Row_law (par m n)) → IsSoundRow row
  by_par is law = of_row row (Has (Is q) Par) is (by_shape q Par row.premises at row.name)
    where
      at : (t : Tree) → is_shaped Par (number_of q) (form_of t) ≡ true → IsProper t → Row_law t
      at (par first second) is proper = law first second
      at _ is proper = false_true is

  pub by_loop : row.conclusion ≡ Has (Is q) Loop → ((k : ℕ) (m : Tree) → 1 ≤ k → Row_law (loop (exactly k) m))
      → IsSoundRow row
  by_loop is law = of_row row (Has (Is q) Loop) is (by_shape q Loop row.premises at row.name)
    where
      at : (t : Tree) → is_shaped Loop (number_of q) (form_of t) ≡ true → IsProper t → Row_law t
      at (loop (exactly k) body) is (some, proper) = law k body some
      at _ is proper = false_true is

  pub by_loop_1 : row.conclusion ≡ Has (Is q) LoopOne → ((m : Tree) → Row_law (loop (exactly 1) m)) → IsSoundRow row
  by_loop_1 is law = of_row row (Has (Is q) LoopOne) is (by_shape q LoopOne row.premises at row.name)
    where
      at : (t : Tree) → is_shaped LoopOne (number_of q) (form_of t) ≡ true → IsProper t → Row_law t
      at (loop (exactly k) body) is proper = subst (λ (j : ℕ). Row_law (loop (exactly j) body)) (sym (eqb-true k 1 is))
          (law body)
      at _ is proper = false_true is

  pub by_until : row.conclusion ≡ Has (Is q) Until → ((k : ℕ) (m : Tree) → 1 ≤ k → Row_law (loop (at_most k) m))
      → IsSoundRow row
  by_until is law = of_row row (Has (Is q) Until) is (by_shape q Until row.premises at row.name)
    where
      at : (t : Tree) → is_shaped Until (number_of q) (form_of t) ≡ true → IsProper t → Row_law t
      at (loop (at_most k) body) is (some, proper) = law k body some
      at _ is proper = false_true is

  pub by_until_1 : row.conclusion ≡ Has (Is q) UntilOne → ((m : Tree) → Row_law (loop (at_most 1) m)) → IsSoundRow row
  by_until_1 is law = of_row row (Has (Is q) UntilOne) is (by_shape q UntilOne row.premises at row.name)
    where
      at : (t : Tree) → is_shaped UntilOne (number_of q) (form_of t) ≡ true → IsProper t → Row_law t
      at (loop (at_most k) body) is proper = subst (λ (j : ℕ). Row_law (loop (at_most j) body)) (sym (eqb-true k 1 is))
          (law body)
      at _ is proper = false_true is

-- ---- a property of the number k
-- A row about `defers` of k.
module _ (shape : Shape) (row : Rule) (concludes : row.conclusion ≡ Has DefersK shape)
    (law : (k : ℕ) (t : Tree) → is_shaped shape k (form_of t) ≡ true → IsProper t
    → Follows (map (filled (letters_of t k)) row.premises) (Holds (Defers k) (mean t))) where
  defers_case : (k : ℕ) (t : Tree) (shaped : Bool) → is_shaped shape k (form_of t) ≡ shaped → (needed : List Claim)
      → IsProper t → needed_by row.premises (lettered shaped t k) ≡ Some needed → AllTrue needed
      → Holds (Defers k) (mean t)
  defers_case k t true is needed proper e all = followed _ _ (law k t is proper) (subst AllTrue (sym (some_same _ _ e))
      all)
  defers_case k t false is needed proper e all = none_some needed e

  defers_row : IsSoundRow (rule row.name (Has DefersK shape) row.premises)
  defers_row (of (Defers k) t) needed proper e all = defers_case k t (is_shaped shape k (form_of t)) refl needed proper
      e all
  defers_row (of _ t) needed proper e all = none_some needed e
  defers_row (disj s t) needed proper e all = none_some needed e

  pub by_defers : IsSoundRow row
  by_defers = of_row row (Has DefersK shape) concludes defers_row

-- A row about `rejects` of k.
module _ (shape : Shape) (row : Rule) (concludes : row.conclusion ≡ Has RejectsK shape)
    (law : (k : ℕ) (t : Tree) → is_shaped shape k (form_of t) ≡ true → IsProper t
    → Follows (map (filled (letters_of t k)) row.premises) (Holds (Rejects k) (mean t))) where
  rejects_case : (k : ℕ) (t : Tree) (shaped : Bool) → is_shaped shape k (form_of t) ≡ shaped → (needed : List Claim)
      → IsProper t → needed_by row.premises (lettered shaped t k) ≡ Some needed → AllTrue needed
      → Holds (Rejects k) (mean t)
  rejects_case k t true is needed proper e all = followed _ _ (law k t is proper) (subst AllTrue (sym (some_same _ _ e))
      all)
  rejects_case k t false is needed proper e all = none_some needed e

  rejects_row : IsSoundRow (rule row.name (Has RejectsK shape) row.premises)
  rejects_row (of (Rejects k) t) needed proper e all = rejects_case k t (is_shaped shape k (form_of t)) refl needed
      proper e all
  rejects_row (of _ t) needed proper e all = none_some needed e
  rejects_row (disj s t) needed proper e all = none_some needed e

  pub by_rejects : IsSoundRow row
  by_rejects = of_row row (Has RejectsK shape) concludes rejects_row

-- ---- disjointness
-- A row about two terms is sound where its law holds of each two that are so paired.
module _ (pairing : Pairing) (row : Rule) (concludes : row.conclusion ≡ Apart pairing)
    (law : (s t : Tree) (letters : Letters) → paired pairing s t ≡ Some letters
    → Follows (map (filled letters) row.premises) (AreDisjoint (mean s) (mean t))) where
  paired_case : (s t : Tree) (letters : Option Letters) → paired pairing s t ≡ letters → (needed : List Claim)
      → needed_by row.premises letters ≡ Some needed → AllTrue needed → AreDisjoint (mean s) (mean t)
  paired_case s t (Some letters) is needed e all = followed _ _ (law s t letters is)
      (subst AllTrue (sym (some_same _ _ e)) all)
  paired_case s t None is needed e all = none_some needed e

  paired_row : IsSoundRow (rule row.name (Apart pairing) row.premises)
  paired_row (of p t) needed proper e all = none_some needed e
  paired_row (disj s t) needed proper e all = paired_case s t (paired pairing s t) refl needed e all

  pub by_pairing : IsSoundRow row
  by_pairing = of_row row (Apart pairing) concludes paired_row
