-- Rows that don't conclude a property don't serve it.
use Rattle.std.proofs.Common.{◌≡◌, ◌⊎◌, inl, inr, ℕ, zero, suc, ◌+◌, ◌<◌, ◌≤◌, nat_lt, nat_le, Bool, true, false, ◌&&◌}
use Rattle.std.proofs.Common.{◌||◌, List, [], ◌∷◌, length, get_or, Option, Some, None, refl, sym, ◌∙◌, subst, arith}
use Rattle.std.proofs.Common.{lit≤}
use Rattle.std.specs.Prelude.{slice_index}
use Rattle.std.proofs.lemmas.Bool.{and_parts}
use Rattle.std.proofs.lemmas.Bool.Decides.{nat_tests}
use Rattle.vir_term.specs.declared.prop.Prop.{Prop}
use Rattle.vir_term.specs.declared.prop.Prop.TheVariants.{Ne, Ea, El, Defers, Rejects, Elim, Nb, Decr, Dli, Imono}
use Rattle.vir_term.specs.declared.prop.Prop.TheVariants.{Dimono, Dmono, Mono, Cc, Dcc, Cprog, Ccomp, Neut}
use Rattle.vir_term.specs.Tree.{Tree}
use Rattle.vir_rules.specs.declared.row.Conclusion.{Conclusion}
use Rattle.vir_rules.specs.declared.row.Conclusion.TheVariants.{Has, Apart}
use Rattle.vir_rules.specs.Claims.{of}
use Rattle.vir_rules.specs.Derivations.{Fails}
use Rattle.vir_rules.specs.Forms.{Form, form_of}
use Rattle.vir_rules.specs.Premises.{number_for, prop_for, row_of, blank}
use Rattle.vir_rules.specs.Props.{rank}
use Rattle.vir_rules.specs.Table.{Rule, table}
use Rattle.vir_rules.specs.declared.rule_id.TheConstants.RuleId.{COUNT}
use Rattle.vir_derive.specs.Ranges.{row_starts, later_starts, later_ends, first_row, end_row, later_row, later_end}
use Rattle.vir_derive.proofs.Deriving.{fails_if_unfit, fails_at_zero}
use Rattle.vir_derive.proofs.Rows.{table_size, premises_of_rule, premises_by_none, shaped}
use Rattle.vir_derive.proofs.Smaller.{rank_of_wanted}

-- whether a row in a place is among those of its property
is_ranged : ℕ → Conclusion → Bool
is_ranged n (Has wanted s) =
    (nat_le (first_row (prop_for wanted 0)) n && nat_lt n (end_row (prop_for wanted 0)))
    || (nat_le (later_row (prop_for wanted 0)) n && nat_lt n (later_end (prop_for wanted 0)))
is_ranged n (Apart pairing) = true

all_ranged : ℕ → List Rule → Bool
all_ranged n [] = true
all_ranged n (row ∷ rows) = is_ranged n row.conclusion && all_ranged (suc n) rows

table_ranged : all_ranged 0 table ≡ true
unfolding table all_ranged is_ranged
table_ranged = refl

ranged_at : (rows : List Rule) (n i : ℕ) → i < length rows → all_ranged n rows ≡ true
    → is_ranged (n + i) (get_or rows i blank).conclusion ≡ true
unfolding all_ranged
ranged_at [] n i l h = absurd (omega arith)
ranged_at (row ∷ rows) n zero l h = let e : n ≡ n + 0 = omega arith in subst (λ k. is_ranged k row.conclusion ≡ true) e
    (and_parts (is_ranged n row.conclusion) (all_ranged (suc n) rows) h).0
ranged_at (row ∷ rows) n (suc i) l h =
    let e : suc n + i ≡ n + suc i = omega arith in
    subst (λ k. is_ranged k (get_or rows i blank).conclusion ≡ true) e (ranged_at rows (suc n) i (omega (arith, l))
    (and_parts (is_ranged n row.conclusion) (all_ranged (suc n) rows) h).1)

rule_ranged : (rule : ℕ) (i : ℕ) → rule ≡ suc i → rule ≤ COUNT → is_ranged i (row_of rule).conclusion ≡ true
unfolding row_of
rule_ranged rule i e k =
    let z : 0 + i ≡ i = omega arith in
    subst (λ r. is_ranged i (row_of r).conclusion ≡ true) (sym e)
    (subst (λ j. is_ranged j (get_or table i blank).conclusion ≡ true) z
    (ranged_at table 0 i (omega (arith, k, e, table_size)) table_ranged))

within_range : (a b i : ℕ) → (nat_le a i && nat_lt i b) ≡ true → (a ≤ i) × (i < b)
within_range a b i h = (grind (arith, nat_tests), grind (arith, nat_tests))

either : (b c : Bool) → (b || c) ≡ true → (b ≡ true) ⊎ (c ≡ true)
either true c h = inl refl
either false c h = inr h

-- a place is among the rows of a property
IsPlace : Prop → ℕ → Type 0
IsPlace q i = ((first_row q ≤ i) × (i < end_row q)) ⊎ ((later_row q ≤ i) × (i < later_end q))

in_range : (conclusion : Conclusion) (q : Prop) (form : Form) (k i : ℕ) → number_for conclusion q form ≡ Some k
    → is_ranged i conclusion ≡ true → IsPlace q i
unfolding is_ranged IsPlace
in_range (Has wanted s) q form k i e h =
    let same : rank q ≡ rank (prop_for wanted 0) = rank_of_wanted wanted q k (shaped wanted s q form k e).0 in
    let p = prop_for wanted 0 in
    elim (either (nat_le (first_row p) i && nat_lt i (end_row p))
    (nat_le (later_row p) i && nat_lt i (later_end p)) h) [
      | inl a ↦ (let w = within_range (first_row p) (end_row p) i a
          in inl (
            subst (λ r. slice_index row_starts r ≤ i) (sym same) w.0,
            subst
                (λ r. i < slice_index row_starts (suc r)) (sym same) w.1,
          ))
      | inr b ↦ (let w = within_range (later_row p) (later_end p) i b
          in inr (
            subst (λ r. slice_index later_starts r ≤ i) (sym same) w.0,
            subst (λ r. i < slice_index later_ends r)
                (sym same) w.1,
          ))
    ]
in_range (Apart pairing) q form k i e h = cc

by_number : (rule i : ℕ) (q : Prop) (t : Tree) → rule ≡ suc i → rule ≤ COUNT → (IsPlace q i → ⊥) → (o : Option ℕ)
    → number_for (row_of rule).conclusion q (form_of t) ≡ o → Fails rule (of q t)
by_number rule i q t e l out None h = fails_if_unfit rule (of q t) (premises_of_rule rule (of q t) (omega arith) l
    ∙ premises_by_none (row_of rule) q t h)
by_number rule i q t e l out (Some k) h =
    absurd (out (in_range (row_of rule).conclusion q (form_of t) k i h (rule_ranged rule i e l)))

-- the rows of a property stand in this order, and none behind the table
pub record IsOrdered (q : Prop) : Type 0 where
  pub first : first_row q ≤ end_row q
  pub between : end_row q ≤ later_row q
  pub later : later_row q ≤ later_end q
  pub last : later_end q ≤ COUNT

pub rows_end : (q : Prop) → IsOrdered q
rows_end Ne = record { first = lit≤ tt; between = lit≤ tt; later = lit≤ tt; last = lit≤ tt }
rows_end Ea = record { first = lit≤ tt; between = lit≤ tt; later = lit≤ tt; last = lit≤ tt }
rows_end El = record { first = lit≤ tt; between = lit≤ tt; later = lit≤ tt; last = lit≤ tt }
rows_end (Defers k) = record { first = lit≤ tt; between = lit≤ tt; later = lit≤ tt; last = lit≤ tt }
rows_end (Rejects k) = record { first = lit≤ tt; between = lit≤ tt; later = lit≤ tt; last = lit≤ tt }
rows_end (Elim k) = record { first = lit≤ tt; between = lit≤ tt; later = lit≤ tt; last = lit≤ tt }
rows_end Nb = record { first = lit≤ tt; between = lit≤ tt; later = lit≤ tt; last = lit≤ tt }
rows_end Decr = record { first = lit≤ tt; between = lit≤ tt; later = lit≤ tt; last = lit≤ tt }
rows_end Dli = record { first = lit≤ tt; between = lit≤ tt; later = lit≤ tt; last = lit≤ tt }
rows_end Imono = record { first = lit≤ tt; between = lit≤ tt; later = lit≤ tt; last = lit≤ tt }
rows_end Dimono = record { first = lit≤ tt; between = lit≤ tt; later = lit≤ tt; last = lit≤ tt }
rows_end Dmono = record { first = lit≤ tt; between = lit≤ tt; later = lit≤ tt; last = lit≤ tt }
rows_end Mono = record { first = lit≤ tt; between = lit≤ tt; later = lit≤ tt; last = lit≤ tt }
rows_end Cc = record { first = lit≤ tt; between = lit≤ tt; later = lit≤ tt; last = lit≤ tt }
rows_end Dcc = record { first = lit≤ tt; between = lit≤ tt; later = lit≤ tt; last = lit≤ tt }
rows_end Cprog = record { first = lit≤ tt; between = lit≤ tt; later = lit≤ tt; last = lit≤ tt }
rows_end Ccomp = record { first = lit≤ tt; between = lit≤ tt; later = lit≤ tt; last = lit≤ tt }
rows_end Neut = record { first = lit≤ tt; between = lit≤ tt; later = lit≤ tt; last = lit≤ tt }

no_place : (q : Prop) (i : ℕ) → ((first_row q ≤ i) × (i < end_row q) → ⊥) → ((later_row q ≤ i) × (i < later_end q) → ⊥)
    → IsPlace q i → ⊥
unfolding IsPlace
no_place q i first later (inl a) = first a
no_place q i first later (inr b) = later b

-- a rule before, between or behind the rows of a property fails
pub fails_before : (rule : ℕ) (q : Prop) (t : Tree) → rule ≤ first_row q → Fails rule (of q t)
fails_before zero q t l = fails_at_zero zero (of q t) (omega arith)
fails_before (suc i) q t l =
    let r = rows_end q in
    by_number (suc i) i q t refl (omega (arith, l, r.first, r.between, r.later, r.last))
    (no_place q i (λ p. (let a = p.0 in omega (arith, a, l)))
    (λ p. (let a = p.0 in omega (arith, a, l, r.first, r.between))))
    (number_for (row_of (suc i)).conclusion q (form_of t)) refl

pub fails_between : (rule : ℕ) (q : Prop) (t : Tree) → end_row q < rule → rule ≤ later_row q → Fails rule (of q t)
fails_between zero q t g l = fails_at_zero zero (of q t) (omega arith)
fails_between (suc i) q t g l =
    let r = rows_end q in
    by_number (suc i) i q t refl (omega (arith, l, r.later, r.last))
    (no_place q i (λ p. (let b = p.1 in omega (arith, b, g))) (λ p. (let a = p.0 in omega (arith, a, l))))
    (number_for (row_of (suc i)).conclusion q (form_of t)) refl

pub fails_behind : (rule : ℕ) (q : Prop) (t : Tree) → rule ≤ COUNT → later_end q < rule → Fails rule (of q t)
fails_behind zero q t l g = fails_at_zero zero (of q t) (omega arith)
fails_behind (suc i) q t l g =
    let r = rows_end q in
    by_number (suc i) i q t refl l (no_place q i (λ p. (let b = p.1 in omega (arith, b, g, r.between, r.later)))
    (λ p. (let b = p.1 in omega (arith, b, g))))
    (number_for (row_of (suc i)).conclusion q (form_of t)) refl
