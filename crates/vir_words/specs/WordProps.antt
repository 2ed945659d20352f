-- Properties as words of the command line, exactly as they are printed.
use Rattle.std.specs.Prelude.{ℕ, List, [], ◌∷◌, map, unwrap_or, Some, None, if◌then◌else◌}
use Rattle.std.specs.Char.{is_ascii_digit}
use Rattle.std.specs.List.{filter}
use Rattle.std.specs.Str.{bytes_eq}
use Rattle.std.specs.declared.option.Option.{Option}
use Rattle.vir_term.specs.declared.prop.Prop.{Prop}
use Rattle.vir_term.specs.declared.prop.Prop.TheVariants.{Defers, Rejects, Elim}
use Rattle.vir_term.specs.Props.{all_props}
use Rattle.vir_rules.specs.Props.{prop_text}
use Rattle.vir_words.specs.WordLists.{comma, list_of}
use Rattle.vir_words.specs.WordNumbers.{number_within}

-- a property, with this number in place of its own where it has one
abbrev pub with_number : ℕ → Prop → Prop
with_number k (Defers n) = Defers k
with_number k (Rejects n) = Rejects k
with_number k (Elim n) = Elim k
with_number k prop = prop

-- the number that the digits of a word write, where a property may have it, else 1
abbrev pub number_in : List ℕ → ℕ
number_in word = unwrap_or (number_within 1 1000000 (filter is_ascii_digit word)) 1

-- the first of these properties that is printed so
abbrev pub first_printed : List ℕ → List Prop → Option Prop
first_printed text [] = None
first_printed text (prop ∷ rest) = if bytes_eq (prop_text prop) text then Some prop else first_printed text rest

-- the property that is printed so: one of the number that the digits of the word write, where it has one
unfoldable pub prop_of : List ℕ → Option Prop
prop_of word = first_printed word (map (with_number (number_in word)) all_props)

-- 1 to 32 properties with commas between them
unfoldable pub props_of : List ℕ → Option (List Prop)
props_of word = list_of comma 32 prop_of word
