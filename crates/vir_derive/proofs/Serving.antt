-- Whether rules serve to derive a property of a term that is seen.
use Rattle.std.proofs.Common.{◌≡◌, ℕ, zero, suc, ◌+◌, ◌<◌, ◌≤◌, nat_eq, nat_lt, Bool, true, false, if◌then◌else◌, List}
use Rattle.std.proofs.Common.{[], ◌∷◌, map, length, take, Option, Some, None, option_map, slice_get, refl, sym, ◌∙◌, ap}
use Rattle.std.proofs.Common.{subst, arith, add-one, inl, inr}
use Rattle.std.proofs.lemmas.Bool.{cases_lt}
use Rattle.std.proofs.lemmas.List.{length-map}
use Rattle.std.proofs.lemmas.Option.{slice_get-map}
use Rattle.vir_term.specs.declared.prop.Prop.{Prop}
use Rattle.vir_term.specs.declared.prop.Prop.TheVariants.{Defers, Rejects}
use Rattle.vir_term.specs.Tree.{Tree}
use Rattle.vir_rules.specs.declared.row.Need.{Need}
use Rattle.vir_rules.specs.declared.row.Need.TheVariants.{Disj}
use Rattle.vir_rules.specs.declared.row.Part.{Part}
use Rattle.vir_rules.specs.declared.row.Part.TheVariants.{M, N}
use Rattle.vir_rules.specs.Claims.{Claim, of}
use Rattle.vir_rules.specs.Derivations.{Derivable, AllDerivable, Fails}
use Rattle.vir_rules.specs.Forms.{form_of, form_seen, first_part, second_part}
use Rattle.vir_rules.specs.Premises.{Letters, filled, is_rule, letters_of, number_for, premises, row_of}
use Rattle.vir_rules.specs.declared.rule_id.TheConstants.RuleId.{COUNT}
use Rattle.vir_derive.specs.declared.sight.Sight.{Sight}
use Rattle.vir_derive.specs.Numbers.{defers_candidate, rejects_candidate}
use Rattle.vir_derive.specs.DerivableProps.{is_composed, IsTold}
use Rattle.vir_derive.specs.Sights.{Shows}
use Rattle.vir_derive.proofs.Disjointness.{disjoint_if_opposed, opposed_if_disjoint}
use Rattle.vir_derive.proofs.Deriving.{derivable_by, fails_if_unfit, fails_at, take_more_derivable, take_all_derivable}
use Rattle.vir_derive.proofs.Numbers.{defers_number, rejects_number}
use Rattle.vir_derive.proofs.Rows.{rule_range, rule_in_range, premises_of_rule, premises_by_number, premises_by_none}

-- the number and the premises of a rule that fits a term that is seen
module _ (numbers : ℕ → Bool) (sight : Sight) (t : Tree) (seen : Shows numbers sight t) (rule : ℕ) (known : is_rule rule
    ≡ true) (q : Prop) where
  number_seen : (o : Option ℕ) → o ≡ number_for (row_of rule).conclusion q (form_seen sight.form)
      → number_for (row_of rule).conclusion q (form_of t) ≡ o
  number_seen o e = ap (number_for (row_of rule).conclusion q) seen.form_is ∙ sym e

  premises_seen : (k : ℕ) → Some k ≡ number_for (row_of rule).conclusion q (form_seen sight.form)
      → premises rule (of q t) ≡ Some (map (filled (letters_of t k)) (row_of rule).premises)
  premises_seen k e = let range = rule_range rule known in premises_of_rule rule (of q t) range.0 range.1
      ∙ premises_by_number (row_of rule) q t k (number_seen (Some k) e)

  -- it fails where it doesn't fit
  pub unfit_fails : None ≡ number_for (row_of rule).conclusion q (form_seen sight.form) → Fails rule (of q t)
  unfit_fails e = let range = rule_range rule known in fails_if_unfit rule (of q t)
      (premises_of_rule rule (of q t) range.0 range.1 ∙ premises_by_none (row_of rule) q t (number_seen None e))

  -- it fails where a premise isn't derivable
  pub need_fails : (k i : ℕ) (need : Need) → Some k ≡ number_for (row_of rule).conclusion q (form_seen sight.form)
      → Some need ≡ slice_get (row_of rule).premises i → (Derivable (filled (letters_of t k) need) → ⊥)
      → Fails rule (of q t)
  need_fails k i need e at n =
      fails_at rule (of q t) (map (filled (letters_of t k)) (row_of rule).premises) i (filled (letters_of t k) need)
      (premises_seen k e)
      (slice_get-map (filled (letters_of t k)) (row_of rule).premises i ∙ ap (option_map (filled (letters_of t k)))
      (sym at)) n

  -- it derives where all premises are
  pub all_serve : (k i : ℕ) → Some k ≡ number_for (row_of rule).conclusion q (form_seen sight.form)
      → length (row_of rule).premises ≤ i → AllDerivable (take i (map (filled (letters_of t k)) (row_of rule).premises))
      → Derivable (of q t)
  all_serve k i e l a =
      let needed : List Claim = map (filled (letters_of t k)) (row_of rule).premises in
      let long : length needed ≤ i = omega (arith, length-map (row_of rule).premises (filled (letters_of t k)), l) in
      derivable_by rule (of q t) needed (premises_seen k e) (take_all_derivable needed i long a)

-- one premise more is derivable
pub need_more : (letters : Letters) (needs : List Need) (i : ℕ) (need : Need) → Some need ≡ slice_get needs i
    → AllDerivable (take i (map (filled letters) needs)) → Derivable (filled letters need) →
    AllDerivable (take (i + 1) (map (filled letters) needs))
need_more letters needs i need at a d =
    take_more_derivable (map (filled letters) needs) i (i + 1) (filled letters need) (add-one i)
    (slice_get-map (filled letters) needs i ∙ ap (option_map (filled letters)) (sym at)) a d

chosen : (b : Bool) (n rule : ℕ) → Some rule ≡ (if b then Some n else None) → (rule ≡ n) × (b ≡ true)
chosen true n rule h = (cc, refl)
chosen false n rule h = cc

-- the rule in a place
pub rule_at : (i rule : ℕ) → Some rule ≡ (if nat_lt i COUNT then Some (i + 1) else None) → rule ≡ i + 1
rule_at i rule h = (chosen (nat_lt i COUNT) (i + 1) rule h).0

pub is_rule_at : (i rule : ℕ) → i < COUNT → Some rule ≡ (if nat_lt i COUNT then Some (i + 1) else None) → is_rule rule
    ≡ true
is_rule_at i rule l h = let e = rule_at i rule h in rule_in_range rule (omega arith) (omega arith)

-- one rule more fails
pub fails_more : (i rule : ℕ) (c : Claim) → rule ≡ i + 1 → ((k : ℕ) → k ≤ i → Fails k c) → Fails rule c → (k : ℕ)
    → k ≤ i + 1 → Fails k c
fails_more i rule c e before f k l = elim (cases_lt i k) [
  | inl m ↦ (let s : rule ≡ k = omega arith in let P : ℕ → Type 0 = λ n. Fails n c in subst P s f)
  | inr m ↦ before k m
]

-- a list that has an element in a place has one
pub gone : {A : Type 0} (xs : List A) (i : ℕ) → None ≡ slice_get xs i → i < length xs → ⊥
gone [] i h l = omega arith
gone (x ∷ xs) zero h l = cc
gone (x ∷ xs) (suc i) h l = gone xs i h (omega (arith, l))

-- a test that isn't passed of what is not the case
pub not_derivable : {b : Bool} {P : Type 0} → (b ≡ true → P) × (P → b ≡ true) → b ≡ false → P → ⊥
not_derivable w e p = let h = w.1 p in false_true (sym e ∙ h) where
  false_true : false ≡ true → ⊥
  false_true h = cc

-- whether two parts are disjoint is told by their heads: they are the first and the second
abbrev Telling : Sight → Tree → ℕ → Need → Type 0
Telling sight t k need = (sight.opposed ≡ true → Derivable (filled (letters_of t k) need))
    × (Derivable (filled (letters_of t k) need) → sight.opposed ≡ true)

parts_told : (numbers : ℕ → Bool) (sight : Sight) (t : Tree) (seen : Shows numbers sight t) (k : ℕ) (left right : Part)
    → IsTold (form_seen sight.form) (Disj left right) → Telling sight t k (Disj left right)
parts_told numbers sight t seen k M N composed = (
  (λ h. disjoint_if_opposed (first_part t) (second_part t) (sym (seen.opposed_is composed) ∙ h)),
  (λ d. seen.opposed_is composed ∙ opposed_if_disjoint (first_part t) (second_part t) d),
)
parts_told numbers sight t seen k _ _ told = absurd told

pub disjointness_told : (numbers : ℕ → Bool) (sight : Sight) (t : Tree) (seen : Shows numbers sight t) (k : ℕ)
    (need : Need) (left right : Part) → need ≡ Disj left right → IsTold (form_seen sight.form) need
    → Telling sight t k need
disjointness_told numbers sight t seen k need left right e told = subst (Telling sight t k) (sym e)
    (parts_told numbers sight t seen k left right (subst (IsTold (form_seen sight.form)) e told))

-- with what number `defers` and `rejects` are derivable of a term that is seen
pub defers_seen : (numbers : ℕ → Bool) (sight : Sight) (t : Tree) (seen : Shows numbers sight t) (k : ℕ) → nat_eq k 1
    ≡ false → numbers k ≡ true → Derivable (of (Defers k) t) → defers_candidate (form_seen sight.form)
    sight.first.defers_other ≡ Some k
defers_seen numbers sight t seen k other w d =
    ap (λ form. defers_candidate form sight.first.defers_other) (sym seen.form_is) ∙ defers_number numbers t sight.first
    k other w (λ composed. seen.first_tells (ap is_composed (sym seen.form_is) ∙ composed)) d

pub rejects_seen : (numbers : ℕ → Bool) (sight : Sight) (t : Tree) (seen : Shows numbers sight t) (k : ℕ)
    → Derivable (of (Rejects k) t) → rejects_candidate (form_seen sight.form) ≡ Some k
rejects_seen numbers sight t seen k d = ap rejects_candidate (sym seen.form_is) ∙ rejects_number t k d
