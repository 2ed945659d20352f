-- Rules and properties by their names.
use Rattle.std.specs.Prelude.{ℕ, ◌+◌, ⊤, List, [], ◌∷◌, Option, Some, None, codes, if◌then◌else◌}
use Rattle.std.specs.Str.{bytes_eq}
use Rattle.vir_term.specs.declared.prop.Prop.{Prop}
use Rattle.vir_term.specs.declared.prop.Prop.TheVariants.{Ne, Ea, El, Defers, Rejects, Elim, Nb, Decr, Dli, Imono}
use Rattle.vir_term.specs.declared.prop.Prop.TheVariants.{Dimono, Dmono, Mono, Cc, Dcc, Cprog, Ccomp, Neut}
use Rattle.vir_term.specs.Limits.{IsCount}
use Rattle.vir_rules.specs.declared.prop_name.Counted.{Counted}
use Rattle.vir_rules.specs.declared.prop_name.Counted.TheVariants as counted
use Rattle.vir_rules.specs.declared.prop_name.PropName.{PropName}
use Rattle.vir_rules.specs.declared.prop_name.PropName.TheVariants.{Alone, WithNumber}
use Rattle.vir_rules.specs.Table.{Rule, table}
use Rattle.vir_rules.specs.Props.{prop_word}

-- ---- rules

-- the number of the first row of this name, where the first of these rows has that number
abbrev pub number_of_row : List ℕ → ℕ → List Rule → Option ℕ
number_of_row name number [] = None
number_of_row name number (row ∷ rest) = if bytes_eq name row.name then Some number else number_of_row name (number + 1)
    rest

-- the number of the rule of this name
unfoldable pub rule_named : List ℕ → Option ℕ
rule_named name = number_of_row name 1 table

-- ---- properties

-- the property of a number
abbrev pub counted_prop : Counted → ℕ → Prop
counted_prop counted.Defers k = Defers k
counted_prop counted.Rejects k = Rejects k
counted_prop counted.Elim k = Elim k

-- what the names of properties stand for, in the order of properties
abbrev pub prop_names : List PropName
prop_names =
    Alone Ne ∷ Alone Ea ∷ Alone El ∷ WithNumber counted.Defers ∷ WithNumber counted.Rejects ∷ WithNumber counted.Elim ∷
    Alone Nb ∷ Alone Decr ∷ Alone Dli ∷ Alone Imono ∷ Alone Dimono ∷ Alone Dmono ∷ Alone Mono ∷
    Alone Cc ∷ Alone Dcc ∷ Alone Cprog ∷ Alone Ccomp ∷ Alone Neut ∷ []

-- the name; one that is followed by a number is the same for each number
abbrev pub name_text : PropName → List ℕ
name_text (Alone prop) = prop_word prop
name_text (WithNumber name) = prop_word (counted_prop name 1)

-- the first of these that has this name
abbrev pub first_named : List ℕ → List PropName → Option PropName
first_named text [] = None
first_named text (name ∷ rest) = if bytes_eq text (name_text name) then Some name else first_named text rest

-- the property that a word names, or those that it names with a number
abbrev pub prop_named : List ℕ → Option PropName
prop_named text = first_named text prop_names

-- a property whose number, if it has one, is one that a module may name too
abbrev pub IsPropInRange : Prop → Type 0
IsPropInRange (Defers k) = IsCount k
IsPropInRange (Rejects k) = IsCount k
IsPropInRange (Elim k) = IsCount k
IsPropInRange _ = ⊤
