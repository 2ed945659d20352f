-- The property that a tree stands for.
use Rattle.std.specs.Prelude.{ℕ, List, Option, Some, None, Ok, Err}
use Rattle.vir_term.specs.declared.prop.Prop.{Prop}
use Rattle.vir_read.specs.declared.text_fault.TextKind.TheVariants.{UnknownName, WrongCountOfArguments, WrongSort}
use Rattle.vir_read.specs.Faults.{OrFault, ◌>>=◌, fault}
use Rattle.vir_read.specs.RawTrees.{RawTree, RawTrees, word, number, bracket, none, more}
use Rattle.vir_read.specs.Arguments.{span, count_of}
use Rattle.vir_rules.specs.declared.prop_name.Counted.{Counted}
use Rattle.vir_rules.specs.declared.prop_name.PropName.{PropName}
use Rattle.vir_rules.specs.declared.prop_name.PropName.TheVariants.{Alone, WithNumber}
use Rattle.vir_rules.specs.Named.{prop_named, counted_prop}
use Rattle.vir_cert.specs.declared.version.Version.{Version}
use Rattle.vir_cert.specs.Versions.{known_prop}

-- a property that has no number
abbrev pub prop_alone : ℕ → Prop → RawTrees → OrFault Prop
prop_alone at p none = Ok p
prop_alone at p (more _ _) = Err (fault WrongCountOfArguments at)

-- a property that has one
abbrev pub prop_of_number : List ℕ → ℕ → Counted → RawTrees → OrFault Prop
prop_of_number text at name (more k none) = count_of text k >>= λ k. Ok (counted_prop name k)
prop_of_number text at name (more k (more _ _)) = Err (fault WrongCountOfArguments at)
prop_of_number text at name none = Err (fault WrongCountOfArguments at)

-- the property that a word stands for, by what it names
abbrev pub prop_then : List ℕ → ℕ → RawTrees → Option PropName → OrFault Prop
prop_then text at parts None = Err (fault UnknownName at)
prop_then text at parts (Some (Alone p)) = prop_alone at p parts
prop_then text at parts (Some (WithNumber name)) = prop_of_number text at name parts

-- Where a property is wanted.
abbrev pub prop_of : Version → List ℕ → RawTree → OrFault Prop
prop_of version text (word start end parts) = prop_then text start parts
    (known_prop version (prop_named (span text start end)))
prop_of version text (number start end) = Err (fault WrongSort start)
prop_of version text (bracket start members) = Err (fault WrongSort start)
