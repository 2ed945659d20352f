-- The two versions of certificates. The first one lacks the word `until` of terms, the property `neut`, and the rules
-- from 83 on.
use Rattle.std.specs.Prelude.{ℕ, Bool, true, false, not, List, Option, Some, None, Ok, Err, ⊤, codes, if◌then◌else◌}
use Rattle.vir_term.specs.declared.prop.Prop.{Prop}
use Rattle.vir_term.specs.declared.prop.Prop.TheVariants.{Neut}
use Rattle.vir_read.specs.declared.text_fault.TextKind.TheVariants.{UnknownName}
use Rattle.vir_read.specs.Faults.{OrFault, fault}
use Rattle.vir_read.specs.RawTrees.{RawTree}
use Rattle.vir_rules.specs.Counts.{rule_count}
use Rattle.vir_rules.specs.declared.prop_name.PropName.{PropName}
use Rattle.vir_rules.specs.declared.prop_name.PropName.TheVariants.{Alone, WithNumber}
use Rattle.vir_cert.specs.declared.version.Version.{Version}
use Rattle.vir_cert.specs.declared.version.Version.TheVariants.{One, Two}
use Rattle.vir_cert.specs.Untils.{until_at}

-- how many rules a version has: the first so many of the table
abbrev pub last_rule : Version → ℕ
last_rule One = 82
last_rule Two = rule_count

-- whether a property is new in version 2
abbrev pub is_new_prop : Prop → Bool
is_new_prop Neut = true
is_new_prop _ = false

-- whether it names such a property
abbrev pub is_new_name : PropName → Bool
is_new_name (Alone p) = is_new_prop p
is_new_name (WithNumber _) = false

-- whether a version has a property
abbrev pub knows : Version → PropName → Bool
knows One name = not (is_new_name name)
knows Two name = true

-- what a word names, where the version has it
abbrev pub known_prop : Version → Option PropName → Option PropName
known_prop version None = None
known_prop version (Some name) = if knows version name then Some name else None

-- a word that is unknown, where there is one
abbrev pub unknown_at : Option ℕ → OrFault ⊤
unknown_at (Some at) = Err (fault UnknownName at)
unknown_at None = Ok tt

-- the version has each word of a term's tree that is new in version 2
abbrev pub known_words : Version → List ℕ → RawTree → OrFault ⊤
known_words One text raw = unknown_at (until_at text raw)
known_words Two text raw = Ok tt

-- as a certificate names it
abbrev pub version_text : Version → List ℕ
version_text One = codes "1"
version_text Two = codes "2"
