-- Which judgements a rule fits, and which premises it then has: how the rows of the table are read.
use Rattle.std.specs.Prelude.{ℕ, Bool, ◌&&◌, nat_eq, nat_lt, nat_le, if◌then◌else◌, List, [], ◌∷◌, map, length, Option}
use Rattle.std.specs.Prelude.{Some, None, is_some, option_map, slice_index_or}
use Rattle.std.specs.Option.{option_and_then}
use Rattle.std.specs.Cmp.Lexicographic.{pointwise}
use Rattle.vir_term.specs.declared.leaf.Leaf.TheVariants.{PassFirst, DropFirst}
use Rattle.vir_term.specs.declared.prop.Prop.{Prop}
use Rattle.vir_term.specs.declared.prop.Prop.TheVariants.{Defers, Rejects}
use Rattle.vir_term.specs.Tree.{Tree, leaf, rev, seq}
use Rattle.vir_rules.specs.declared.row.Wanted.{Wanted}
use Rattle.vir_rules.specs.declared.row.Wanted.TheVariants.{Is, DefersK, RejectsK}
use Rattle.vir_rules.specs.declared.row.Shape.TheVariants.{Any}
use Rattle.vir_rules.specs.declared.row.Pairing.{Pairing}
use Rattle.vir_rules.specs.declared.row.Pairing.TheVariants.{PassDrop, DropPass, SeqLeft, SeqRight, RevLeft, RevRight}
use Rattle.vir_rules.specs.declared.row.Conclusion.{Conclusion}
use Rattle.vir_rules.specs.declared.row.Conclusion.TheVariants.{Has, Apart}
use Rattle.vir_rules.specs.declared.row.Part.{Part}
use Rattle.vir_rules.specs.declared.row.Part.TheVariants.{M, N, T, U}
use Rattle.vir_rules.specs.declared.row.Need.{Need}
use Rattle.vir_rules.specs.declared.row.Need.TheVariants as need
use Rattle.vir_rules.specs.Claims.{Claim, of, disj}
use Rattle.vir_rules.specs.Props.{is_same, number_of}
use Rattle.vir_rules.specs.Forms.{Form, form_of, first_part, second_part, is_shaped}
use Rattle.vir_rules.specs.Table.{Rule, rule, table}

-- what the letters of a row stand for; a letter that a row doesn't use stands for a term that another one stands for
pub record Letters : Type 0 where
  pub k : ℕ
  pub m : Tree
  pub n : Tree
  pub t : Tree
  pub u : Tree

-- the number that k stands for, where a property is the wanted one
abbrev pub number_in : Wanted → Prop → Option ℕ
number_in (Is wanted) prop = if is_same wanted prop then Some (number_of wanted) else None
number_in DefersK (Defers k) = Some k
number_in RejectsK (Rejects k) = Some k
number_in _ _ = None

-- the number that k stands for, where a conclusion is this property of a term of this form
abbrev pub number_for : Conclusion → Prop → Form → Option ℕ
number_for (Has wanted shape) prop form = option_and_then (λ k. if is_shaped shape k form then Some k else None)
    (number_in wanted prop)
number_for (Apart pairing) prop form = None

-- the letters of a row on a term and a number
abbrev pub letters_of : Tree → ℕ → Letters
letters_of term number = record { k = number; m = first_part term; n = second_part term; t = term; u = term }

-- the letters of a row on two terms: the first part of the one that is composed, and the other one
abbrev pub letters_of_pair : Tree → Tree → Letters
letters_of_pair part other = record { k = 0; m = part; n = part; t = part; u = other }

-- these letters, where two numbers and two fixed orders are the same
abbrev pub if_same_order : ℕ → List ℕ → ℕ → List ℕ → Letters → Option Letters
if_same_order k order j other letters = if nat_eq k j && pointwise nat_eq order other then Some letters else None

-- the letters of a row on two terms, where they are so paired
abbrev pub paired : Pairing → Tree → Tree → Option Letters
paired PassDrop (leaf (PassFirst k order)) (leaf (DropFirst j other)) =
    if_same_order k order j other (letters_of_pair (leaf (PassFirst k order)) (leaf (DropFirst j other)))
paired DropPass (leaf (DropFirst k order)) (leaf (PassFirst j other)) =
    if_same_order k order j other (letters_of_pair (leaf (DropFirst k order)) (leaf (PassFirst j other)))
paired SeqLeft (seq first second) other = Some (letters_of_pair first other)
paired SeqRight other (seq first second) = Some (letters_of_pair first other)
paired RevLeft (rev part) other = Some (letters_of_pair part other)
paired RevRight other (rev part) = Some (letters_of_pair part other)
paired _ _ _ = None

-- the letters of a row on a claim, where that is what it concludes
abbrev pub letters_in : Conclusion → Claim → Option Letters
letters_in conclusion (of prop term) = option_map (letters_of term) (number_for conclusion prop (form_of term))
letters_in (Apart pairing) (disj left right) = paired pairing left right
letters_in (Has wanted shape) (disj left right) = None

-- the property that a premise asks for
abbrev pub prop_for : Wanted → ℕ → Prop
prop_for (Is prop) k = prop
prop_for DefersK k = Defers k
prop_for RejectsK k = Rejects k

-- the term that a premise is on
abbrev pub part_of : Part → Letters → Tree
part_of M letters = letters.m
part_of N letters = letters.n
part_of T letters = letters.t
part_of U letters = letters.u

-- a premise, with its letters filled in
abbrev pub filled : Letters → Need → Claim
filled letters (need.Of wanted part) = of (prop_for wanted letters.k) (part_of part letters)
filled letters (need.Disj left right) = disj (part_of left letters) (part_of right letters)

-- a row that stands for no rule
abbrev pub blank : Rule
blank = rule [] (Has (Is (Defers 0)) Any) []

-- the row of a rule, by its number from 1
unfoldable pub row_of : ℕ → Rule
row_of number = slice_index_or (blank ∷ table) number blank

-- the premises that a row has on a claim, where it fits
abbrev pub premises_by : Rule → Claim → Option (List Claim)
premises_by row c = option_map (λ letters. map (filled letters) row.premises) (letters_in row.conclusion c)

-- whether there is a rule of this number
unfoldable pub is_rule : ℕ → Bool
is_rule number = nat_lt 0 number && nat_le number (length table)

-- the premises of a rule on a claim, where there is such a rule and it fits
unfoldable pub premises : ℕ → Claim → Option (List Claim)
premises number c = if is_rule number then premises_by (row_of number) c else None

-- whether a rule fits a claim
abbrev pub fits : ℕ → Claim → Bool
fits number c = is_some (premises number c)
