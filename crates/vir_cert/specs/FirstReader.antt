-- The reader of certificates as it is where there is one version, and a language of terms without `until`.
-- (The program's promises don't stand on this file.)
use Rattle.std.specs.Prelude.{ℕ, ◌&&◌, List, [], ◌∷◌, length, Ok, Err, ⊤, Option, Some, None, codes, if◌then◌else◌}
use Rattle.std.specs.Prelude.{nat_lt}
use Rattle.std.specs.Str.{bytes_eq}
use Rattle.vir_term.specs.declared.prop.Prop.{Prop}
use Rattle.vir_term.specs.Tree.{Tree}
use Rattle.vir_read.specs.declared.built_in.BuiltIn.{BuiltIn}
use Rattle.vir_read.specs.declared.token.Token.{Token}
use Rattle.vir_read.specs.declared.text_fault.TextKind.TheVariants.{BadHeader, TextTooLong, WrongSort}
use Rattle.vir_read.specs.Faults.{OrFault, ◌>>=◌, fault}
use Rattle.vir_read.specs.Tokens.{tokens_of}
use Rattle.vir_read.specs.RawTrees.{RawTree, RawTrees, word, number, bracket, none, more}
use Rattle.vir_read.specs.Grammar.{Read, tree_of}
use Rattle.vir_read.specs.BuiltIns.{built_in_named}
use Rattle.vir_read.specs.Arguments.{Names, span}
use Rattle.vir_read.specs.Typing.{Argument, first_place, check_size, word_term}
use Rattle.vir_rules.specs.declared.prop_name.PropName.{PropName}
use Rattle.vir_rules.specs.Named.{prop_named}
use Rattle.vir_rules.specs.RuleTrees.{RuleTree}
use Rattle.vir_cert.specs.Untils.{until_word}
use Rattle.vir_cert.specs.Versions.{is_new_name}
use Rattle.vir_cert.specs.Derivations.{derivation_of}
use Rattle.vir_cert.specs.Properties.{prop_then}
use Rattle.vir_cert.specs.Certs.{Cert, is_written, label_of, no_names, end_of}

-- ---- terms

-- what a word means, where it is built in
abbrev pub first_built_in_named : List ℕ → Option BuiltIn
first_built_in_named name = if bytes_eq name until_word then None else built_in_named name

-- Where a term is wanted, at a level of nesting.
abbrev mutual
  pub first_typed : List ℕ → Names → RawTree → ℕ → OrFault Tree
  first_typed text names (number start end) level = Err (fault WrongSort start)
  first_typed text names (bracket start members) level = Err (fault WrongSort start)
  first_typed text names (word start end parts) level =
      word_term text names start level (span text start end) (first_arguments_of text names parts)
      (first_built_in_named (span text start end))

  pub first_arguments_of : List ℕ → Names → RawTrees → List Argument
  first_arguments_of text names none = []
  first_arguments_of text names (more t rest) =
      record { tree = t; term = λ level. first_typed text names t level } ∷ first_arguments_of text names rest

-- ---- properties

-- the names of properties that there are
abbrev pub without_new : Option PropName → Option PropName
without_new None = None
without_new (Some name) = if is_new_name name then None else Some name

-- Where a property is wanted.
abbrev pub first_prop_of : List ℕ → RawTree → OrFault Prop
first_prop_of text (word start end parts) = prop_then text start parts (without_new (prop_named (span text start end)))
first_prop_of text (number start end) = Err (fault WrongSort start)
first_prop_of text (bracket start members) = Err (fault WrongSort start)

-- ---- the parts

-- A certificate begins with its name and the one version.
abbrev pub first_header_of : List ℕ → List Token → Read ⊤
first_header_of text [] = Err (fault BadHeader 0)
first_header_of text (name ∷ []) = Err (fault BadHeader 0)
first_header_of text (name ∷ version ∷ rest) =
    if is_written text name (codes "virage-certificate") && is_written text version (codes "1") then Ok (tt, rest)
    else Err (fault BadHeader 0)

-- the term
abbrev pub first_term_part : List ℕ → List Token → Read Tree
first_term_part text tokens =
    label_of text (codes "term") tokens >>= λ label. tree_of text label.1 >>= λ tree.
    (first_typed text no_names tree.0 1 >>= check_size (first_place tree.0)) >>= λ t. Ok (t, tree.1)

-- the property
abbrev pub first_prop_part : List ℕ → List Token → Read Prop
first_prop_part text tokens =
    label_of text (codes "property") tokens >>= λ label. tree_of text label.1 >>= λ tree.
    first_prop_of text tree.0 >>= λ p. Ok (p, tree.1)

-- the derivation, by the 82 rules that there are
abbrev pub first_derivation_part : List ℕ → List Token → Read RuleTree
first_derivation_part text tokens =
    label_of text (codes "derivation") tokens >>= λ label. derivation_of text 82 label.1

-- ---- certificates

-- The parts are judged in the order of the text.
abbrev pub first_parts_of : List ℕ → List Token → OrFault Cert
first_parts_of text tokens =
    first_header_of text tokens >>= λ header. first_term_part text header.1 >>= λ term.
    first_prop_part text term.1 >>= λ prop. first_derivation_part text prop.1 >>= λ derivation.
    end_of derivation.1 >>= λ end. Ok (record { term = term.0; prop = prop.0; derivation = derivation.0 })

-- The certificate that a text is, or its first fault.
abbrev pub first_cert_of : List ℕ → OrFault Cert
first_cert_of text =
    if nat_lt 16777216 (length text) then Err (fault TextTooLong 16777216) else (tokens_of text >>= first_parts_of text)
