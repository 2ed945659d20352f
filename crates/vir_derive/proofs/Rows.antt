-- The rules of the table: which numbers they have, what a test of all rows says of each, and what fits a claim.
use Rattle.std.proofs.Common.{◌≡◌, ℕ, zero, suc, ◌<◌, ◌≤◌, nat_lt, nat_le, Bool, true, false, ◌&&◌, if◌then◌else◌, List}
use Rattle.std.proofs.Common.{[], ◌∷◌, map, length, get_or, Option, Some, None, option_map, refl, ap, subst, arith}
use Rattle.std.specs.List.{list_all}
use Rattle.std.specs.Option.{option_and_then}
use Rattle.std.proofs.lemmas.Bool.{and_parts}
use Rattle.std.proofs.lemmas.Bool.Decides.{nat_tests}
use Rattle.vir_term.specs.declared.prop.Prop.{Prop}
use Rattle.vir_term.specs.Tree.{Tree}
use Rattle.vir_rules.specs.declared.row.Conclusion.TheVariants.{Has}
use Rattle.vir_rules.specs.declared.row.Shape.{Shape}
use Rattle.vir_rules.specs.declared.row.Wanted.{Wanted}
use Rattle.vir_rules.specs.Claims.{Claim, of}
use Rattle.vir_rules.specs.Forms.{Form, form_of, is_shaped}
use Rattle.vir_rules.specs.Premises.{blank, row_of, is_rule, premises, premises_by, number_in, number_for, letters_of}
use Rattle.vir_rules.specs.Premises.{filled}
use Rattle.vir_rules.specs.Table.{Rule, table}
use Rattle.vir_rules.specs.declared.rule_id.TheConstants.RuleId.{COUNT}

-- false isn't true
pub no_true : {A : Type 0} → false ≡ true → A
no_true h = cc

pub table_size : length table ≡ COUNT
unfolding table
table_size = refl

within : (rule n : ℕ) → (nat_lt 0 rule && nat_le rule n) ≡ true → n ≡ COUNT → (1 ≤ rule) × (rule ≤ COUNT)
within rule n h e = (grind (arith, nat_tests), grind (arith, nat_tests))

inside : (rule n : ℕ) → 1 ≤ rule → rule ≤ COUNT → n ≡ COUNT → (nat_lt 0 rule && nat_le rule n) ≡ true
inside rule n h k e = grind (arith, nat_tests)

-- the numbers of rules
pub rule_range : (rule : ℕ) → is_rule rule ≡ true → (1 ≤ rule) × (rule ≤ COUNT)
unfolding is_rule
rule_range rule h = within rule (length table) h table_size

pub rule_in_range : (rule : ℕ) → 1 ≤ rule → rule ≤ COUNT → is_rule rule ≡ true
unfolding is_rule
rule_in_range rule h k = inside rule (length table) h k table_size

guarded : {A : Type 0} (b : Bool) (o : Option A) (x : A) → (if b then o else None) ≡ Some x → b ≡ true
guarded true o x h = refl
guarded false o x h = cc

-- only a rule of the table fits a claim
pub is_in_table : (rule : ℕ) (c : Claim) (needed : List Claim) → premises rule c ≡ Some needed → (1 ≤ rule)
    × (rule ≤ COUNT)
unfolding premises
is_in_table rule c needed h = rule_range rule (guarded (is_rule rule) (premises_by (row_of rule) c) needed h)

-- the premises of a rule of the table are those of its row
pub premises_of_rule : (rule : ℕ) (c : Claim) → 1 ≤ rule → rule ≤ COUNT → premises rule c ≡ premises_by (row_of rule) c
unfolding premises
premises_of_rule rule c h k = rw (rule_in_range rule h k) refl

passes_at : (test : Rule → Bool) (rows : List Rule) (i : ℕ) → i < length rows → list_all test rows ≡ true
    → test (get_or rows i blank) ≡ true
passes_at test [] i l h = absurd (omega arith)
passes_at test (row ∷ rows) zero l h = (and_parts (test row) (list_all test rows) h).0
passes_at test (row ∷ rows) (suc i) l h = passes_at test rows i (omega (arith, l))
    (and_parts (test row) (list_all test rows) h).1

-- a test that each row of the table passes is passed by the row of each rule
pub row_passes : (test : Rule → Bool) (rule : ℕ) → 1 ≤ rule → rule ≤ COUNT → list_all test table ≡ true
    → test (row_of rule) ≡ true
unfolding row_of
row_passes test zero l k h = absurd (omega arith)
row_passes test (suc i) l k h = passes_at test table i (omega (arith, k, table_size)) h

-- A row fits a property of a term: with a number, that gives the premises.
pub record IsFitting (row : Rule) (q : Prop) (t : Tree) (needed : List Claim) : Type 0 where
  pub k : ℕ
  pub number_is : number_for row.conclusion q (form_of t) ≡ Some k
  pub needed_are : map (filled (letters_of t k)) row.premises ≡ needed

fitting_by : (row : Rule) (q : Prop) (t : Tree) (needed : List Claim) (o : Option ℕ) → number_for row.conclusion q
    (form_of t) ≡ o →
    option_map (λ letters. map (filled letters) row.premises) (option_map (letters_of t) o) ≡ Some needed
    → IsFitting row q t needed
fitting_by row q t needed None e h = cc
fitting_by row q t needed (Some k) e h = record { k = k; number_is = e; needed_are = cc }

pub fitting : (row : Rule) (q : Prop) (t : Tree) (needed : List Claim) → premises_by row (of q t) ≡ Some needed
    → IsFitting row q t needed
fitting row q t needed h = fitting_by row q t needed (number_for row.conclusion q (form_of t)) refl h

-- the premises of a row that fits with a number
pub premises_by_number : (row : Rule) (q : Prop) (t : Tree) (k : ℕ) → number_for row.conclusion q (form_of t) ≡ Some k
    → premises_by row (of q t) ≡ Some (map (filled (letters_of t k)) row.premises)
premises_by_number row q t k e = ap (λ o. option_map (λ letters. map (filled letters) row.premises)
    (option_map (letters_of t) o)) e

-- a row that fits with no number has no premises
pub premises_by_none : (row : Rule) (q : Prop) (t : Tree) → number_for row.conclusion q (form_of t) ≡ None
    → premises_by row (of q t) ≡ None
premises_by_none row q t e = ap (λ o. option_map (λ letters. map (filled letters) row.premises)
    (option_map (letters_of t) o)) e

shaped_by : (b : Bool) (j k : ℕ) → (if b then Some j else None) ≡ Some k → (j ≡ k) × (b ≡ true)
shaped_by true j k h = (cc, refl)
shaped_by false j k h = cc

shaped_at : (shape : Shape) (form : Form) (k : ℕ) (o : Option ℕ) → option_and_then (λ k. if is_shaped shape k form
    then Some k else None) o ≡ Some k → (o ≡ Some k) × (is_shaped shape k form ≡ true)
shaped_at shape form k None h = cc
shaped_at shape form k (Some j) h = let w = shaped_by (is_shaped shape j form) j k h
    in (ap Some w.0, subst (λ i. is_shaped shape i form ≡ true) w.0 w.1)

-- a row that fits has the property's number and the form's shape
pub shaped : (wanted : Wanted) (shape : Shape) (q : Prop) (form : Form) (k : ℕ) → number_for (Has wanted shape) q form
    ≡ Some k → (number_in wanted q ≡ Some k) × (is_shaped shape k form ≡ true)
shaped wanted shape q form k h = shaped_at shape form k (number_in wanted q) h
