-- The properties with some numbers, 1 and 2 among them, follow from the form and the parts' properties with these
-- numbers.
use Rattle.std.proofs.Common.{◌≡◌, ℕ, zero, suc, ◌<◌, ◌≤◌, nat_eq, Bool, true, false, ◌||◌, List, [], ◌∷◌, map, Some}
use Rattle.std.proofs.Common.{None, slice_get, refl, sym, ◌∙◌, ap, subst, arith}
use Rattle.std.specs.List.{list_all}
use Rattle.std.proofs.lemmas.Bool.{and_parts, eqb-true}
use Rattle.vir_term.specs.declared.prop.Prop.{Prop}
use Rattle.vir_term.specs.declared.prop.Prop.TheVariants.{Defers, Rejects, Elim}
use Rattle.vir_term.specs.Tree.{Tree}
use Rattle.vir_rules.specs.declared.row.Conclusion.{Conclusion}
use Rattle.vir_rules.specs.declared.row.Conclusion.TheVariants.{Has, Apart}
use Rattle.vir_rules.specs.declared.row.Need.{Need}
use Rattle.vir_rules.specs.declared.row.Need.TheVariants.{Of, Disj}
use Rattle.vir_rules.specs.declared.row.Part.TheVariants.{M, N, T, U}
use Rattle.vir_rules.specs.declared.row.Shape.{Shape}
use Rattle.vir_rules.specs.declared.row.Wanted.{Wanted}
use Rattle.vir_rules.specs.declared.row.Wanted.TheVariants.{Is, DefersK, RejectsK}
use Rattle.vir_rules.specs.Claims.{Claim, of}
use Rattle.vir_rules.specs.Derivations.{Derivable, AllDerivable}
use Rattle.vir_rules.specs.Forms.{Form, form_of, first_part, second_part}
use Rattle.vir_rules.specs.Premises.{letters_of, number_in, number_for, prop_for, filled, row_of}
use Rattle.vir_rules.specs.Props.{rank}
use Rattle.vir_rules.specs.Table.{Rule, table}
use Rattle.vir_rules.specs.declared.rule_id.TheConstants.RuleId.{COUNT}
use Rattle.vir_derive.specs.DerivableProps.{is_composed}
use Rattle.vir_derive.specs.Numbers.{is_need_within}
use Rattle.vir_derive.specs.Within.{is_within, AreAlike, HaveLikeParts}
use Rattle.vir_derive.proofs.Deriving.{derivable_by, IsServed, served}
use Rattle.vir_derive.proofs.Disjointness.{disjoint_if_opposed, opposed_if_disjoint}
use Rattle.vir_derive.proofs.Rows.{no_true, premises_of_rule, premises_by_number, row_passes, fitting, shaped}
use Rattle.vir_derive.proofs.Smaller.{IsBelow, nth_passes, need_below, rank_for}

one_or_two : ℕ → Bool
one_or_two k = nat_eq k 1 || nat_eq k 2

-- whether a premise's property has a number that the conclusion's has, or 1 or 2
named_within : Wanted → Wanted → Bool
named_within wanted (Is q) = is_within one_or_two q
named_within DefersK DefersK = true
named_within RejectsK RejectsK = true
named_within _ _ = false

need_within : Conclusion → Need → Bool
need_within (Has wanted s) (Of other part) = named_within wanted other
need_within _ _ = true

row_within : Rule → Bool
row_within row = list_all (need_within row.conclusion) row.premises

table_within : list_all row_within table ≡ true
unfolding table row_within need_within named_within one_or_two
table_within = refl

module _ (numbers : ℕ → Bool) (one : numbers 1 ≡ true) (two : numbers 2 ≡ true) where
  picked : (k : ℕ) (a b : Bool) → nat_eq k 1 ≡ a → nat_eq k 2 ≡ b → (a || b) ≡ true → numbers k ≡ true
  picked k true b e f h = ap numbers (eqb-true k 1 e) ∙ one
  picked k false true e f h = ap numbers (eqb-true k 2 f) ∙ two
  picked k false false e f h = no_true h

  widened : (q : Prop) → is_within one_or_two q ≡ true → is_within numbers q ≡ true
  unfolding one_or_two
  widened (Defers k) h = picked k (nat_eq k 1) (nat_eq k 2) refl refl h
  widened (Rejects k) h = picked k (nat_eq k 1) (nat_eq k 2) refl refl h
  widened (Elim k) h = picked k (nat_eq k 1) (nat_eq k 2) refl refl h
  widened _ h = refl

  -- a number that a conclusion has from a property with one of the numbers is one of them
  carried : (wanted : Wanted) (q : Prop) (k : ℕ) → is_within numbers q ≡ true → number_in wanted q ≡ Some k
      → (wanted ≡ DefersK → numbers k ≡ true) × (wanted ≡ RejectsK → numbers k ≡ true)
  carried (Is p) q k w e = ((λ h. cc), (λ h. cc))
  carried DefersK (Defers j) k w e = ((λ h. (let s : j ≡ k = cc in ap numbers (sym s) ∙ w)), (λ h. cc))
  carried RejectsK (Rejects j) k w e = ((λ h. cc), (λ h. (let s : j ≡ k = cc in ap numbers (sym s) ∙ w)))
  carried DefersK _ k w e = no_number e where
    no_number : {A : Type 0} → None ≡ Some k → A
    no_number h = cc
  carried RejectsK _ k w e = no_number e where
    no_number : {A : Type 0} → None ≡ Some k → A
    no_number h = cc

  asked_within : (wanted other : Wanted) (q : Prop) (k : ℕ) → is_within numbers q ≡ true → number_in wanted q ≡ Some k
      → named_within wanted other ≡ true → is_within numbers (prop_for other k) ≡ true
  unfolding named_within
  asked_within wanted (Is p) q k w e h = widened p h
  asked_within DefersK DefersK q k w e h = (carried DefersK q k w e).0 refl
  asked_within RejectsK RejectsK q k w e h = (carried RejectsK q k w e).1 refl
  asked_within _ _ q k w e h = no_true h

-- what a premise of a rule that fits asks for has one of the numbers, where the conclusion has
pub need_asked_within : (numbers : ℕ → Bool) → numbers 1 ≡ true → numbers 2 ≡ true → (rule : ℕ) (q : Prop) (form : Form)
    (k i : ℕ) (need : Need) → 1 ≤ rule → rule ≤ COUNT → number_for (row_of rule).conclusion q form ≡ Some k
    → slice_get (row_of rule).premises i ≡ Some need →
    is_within numbers q ≡ true → is_need_within numbers k need ≡ true
unfolding row_within need_within
need_asked_within numbers one two rule q form k i need l g e at w =
    by (row_of rule).conclusion need e (nth_passes (need_within (row_of rule).conclusion) (row_of rule).premises i need
    at (row_passes row_within rule l g table_within)) where
      by : (conclusion : Conclusion) (need : Need) → number_for conclusion q form ≡ Some k → need_within conclusion need
          ≡ true → is_need_within numbers k need ≡ true
      by (Has wanted s) (Of other part) e h = asked_within numbers one two wanted other q k w
          (shaped wanted s q form k e).0 h
      by (Has wanted s) (Disj left right) e h = refl
      by (Apart pairing) need e h = cc

-- alike the other way round
alike_back : (numbers : ℕ → Bool) (t u : Tree) → AreAlike numbers t u → AreAlike numbers u t
alike_back numbers t u a q w = ((a q w).1, (a q w).0)

like_parts_back : (numbers : ℕ → Bool) (t u : Tree) → HaveLikeParts numbers t u → HaveLikeParts numbers u t
like_parts_back numbers t u p =
    let back : is_composed (form_of u) ≡ true → is_composed (form_of t) ≡ true = λ h. ap is_composed p.form_same ∙ h in
    record {
      form_same = sym p.form_same;
      first_alike = λ h. alike_back numbers (first_part t) (first_part u) (p.first_alike (back h));
      second_alike = λ h. alike_back numbers (second_part t) (second_part u) (p.second_alike (back h));
      opposed_same = λ h. sym (p.opposed_same (back h));
    }

-- What is derivable of a term is of another one, below a rank.
abbrev Carries : (ℕ → Bool) → Tree → Tree → ℕ → Type 0
Carries numbers t u r = (q : Prop) → rank q < r → is_within numbers q ≡ true → Derivable (of q t) → Derivable (of q u)

module _ (numbers : ℕ → Bool) (one : numbers 1 ≡ true) (two : numbers 2 ≡ true) (t u : Tree)
    (same : HaveLikeParts numbers t u) where
  need_carried : (q : Prop) (r k : ℕ) → rank q < suc r → Carries numbers t u r → (wanted : Wanted) → is_within numbers q
      ≡ true → number_in wanted q ≡ Some k → (s : Shape) → (need : Need) → need_within (Has wanted s) need ≡ true
      → IsBelow (form_of t) q need →
      Derivable (filled (letters_of t k) need) → Derivable (filled (letters_of u k) need)
  unfolding need_within
  need_carried q r k l before wanted w e s (Of other M) f b d =
      (same.first_alike b.told (prop_for other k) (asked_within numbers one two wanted other q k w e f)).0 d
  need_carried q r k l before wanted w e s (Of other N) f b d =
      (same.second_alike b.told (prop_for other k) (asked_within numbers one two wanted other q k w e f)).0 d
  need_carried q r k l before wanted w e s (Of other T) f b d =
      let i = rank_for other k in let j = b.before in
      before (prop_for other k) (omega arith) (asked_within numbers one two wanted other q k w e f) d
  need_carried q r k l before wanted w e s (Of other U) f b d = absurd b.told
  need_carried q r k l before wanted w e s (Disj M N) f b d =
      disjoint_if_opposed (first_part u) (second_part u) (sym (same.opposed_same b.told)
      ∙ opposed_if_disjoint (first_part t) (second_part t) d)
  need_carried q r k l before wanted w e s (Disj _ _) f b d = absurd b.told

  needs_carried : (q : Prop) (r k : ℕ) → rank q < suc r → Carries numbers t u r → (wanted : Wanted)
      → is_within numbers q ≡ true → number_in wanted q ≡ Some k → (s : Shape) → (needs : List Need)
      → list_all (need_within (Has wanted s)) needs ≡ true →
      ((i : ℕ) (need : Need) → slice_get needs i ≡ Some need → IsBelow (form_of t) q need)
      → AllDerivable (map (filled (letters_of t k)) needs) → AllDerivable (map (filled (letters_of u k)) needs)
  needs_carried q r k l before wanted w e s [] f b d = tt
  needs_carried q r k l before wanted w e s (need ∷ needs) f b d =
      let h = and_parts (need_within (Has wanted s) need) (list_all (need_within (Has wanted s)) needs) f in (
        need_carried q r k l before wanted w e s need h.0 (b 0 need refl) d.0,
        needs_carried q r k l before wanted w e s
            needs h.1 (λ i x at. b (suc i) x at) d.1,
      )

  conclusion_carried : (q : Prop) (r k : ℕ) → rank q < suc r → Carries numbers t u r → (conclusion : Conclusion)
      → is_within numbers q ≡ true → number_for conclusion q (form_of t) ≡ Some k → (needs : List Need)
      → list_all (need_within conclusion) needs ≡ true →
      ((i : ℕ) (need : Need) → slice_get needs i ≡ Some need → IsBelow (form_of t) q need)
      → AllDerivable (map (filled (letters_of t k)) needs) → AllDerivable (map (filled (letters_of u k)) needs)
  conclusion_carried q r k l before (Has wanted s) w e needs f b d = needs_carried q r k l before wanted w
      (shaped wanted s q (form_of t) k e).0 s needs f b d
  conclusion_carried q r k l before (Apart pairing) w e needs f b d = cc

  served_carried : (q : Prop) (r : ℕ) → rank q < suc r → Carries numbers t u r → is_within numbers q ≡ true
      → IsServed (of q t) → Derivable (of q u)
  unfolding row_within
  served_carried q r l before w s =
      let row : Rule = row_of s.rule in
      let f = fitting row q t s.needed (sym (premises_of_rule s.rule (of q t) s.least s.greatest) ∙ s.premises_are) in
      let fits : number_for row.conclusion q (form_of u) ≡ Some f.k = ap (number_for row.conclusion q)
      (sym same.form_same) ∙ f.number_is in
      let needed : List Claim = map (filled (letters_of u f.k)) row.premises in
      derivable_by s.rule (of q u) needed (premises_of_rule s.rule (of q u) s.least s.greatest ∙ premises_by_number row
      q u f.k fits)
      (conclusion_carried q r f.k l before row.conclusion w f.number_is row.premises
      (row_passes row_within s.rule s.least s.greatest table_within)
      (λ i need at. need_below s.rule q (form_of t) f.k i need s.least s.greatest f.number_is at)
      (subst AllDerivable (sym f.needed_are) s.derivable))

  carries : (r : ℕ) → Carries numbers t u r
  carries zero q l w d = absurd (omega arith)
  carries (suc r) q l w d = served_carried q r l (carries r) w (served (of q t) d)

-- two terms with like parts are alike
pub alike : (numbers : ℕ → Bool) → numbers 1 ≡ true → numbers 2 ≡ true → (t u : Tree) → HaveLikeParts numbers t u
    → AreAlike numbers t u
alike numbers one two t u same q w = (
  carries numbers one two t u same (suc (rank q)) q (omega arith) w,
  carries numbers one two u t (like_parts_back numbers t u same) (suc (rank q)) q (omega arith) w,
)
