-- The certificate that a text is, or its first fault.
use Rattle.std.specs.Prelude.{ℕ, Bool, List, [], ◌∷◌, length, None, Ok, Err, ⊤, codes, if◌then◌else◌, nat_lt}
use Rattle.std.specs.Str.{bytes_eq}
use Rattle.vir_term.specs.declared.prop.Prop.{Prop}
use Rattle.vir_term.specs.Tree.{Tree}
use Rattle.vir_read.specs.declared.token.Token.{Token}
use Rattle.vir_read.specs.declared.text_fault.TextKind.TheVariants.{BadHeader, TextTooLong, TrailingText}
use Rattle.vir_read.specs.Faults.{OrFault, ◌>>=◌, fault}
use Rattle.vir_read.specs.Tokens.{tokens_of}
use Rattle.vir_read.specs.Grammar.{Read, unexpected, tree_of}
use Rattle.vir_read.specs.Arguments.{Names, span}
use Rattle.vir_read.specs.Typing.{term_of, first_place}
use Rattle.vir_rules.specs.RuleTrees.{RuleTree}
use Rattle.vir_cert.specs.declared.version.Version.{Version}
use Rattle.vir_cert.specs.declared.version.Version.TheVariants.{One, Two}
use Rattle.vir_cert.specs.Versions.{known_words, last_rule}
use Rattle.vir_cert.specs.Derivations.{derivation_of}
use Rattle.vir_cert.specs.Properties.{prop_of}

-- a term, a property, and a derivation, whatever it derives
pub record Cert : Type 0 where
  pub term : Tree
  pub prop : Prop
  pub derivation : RuleTree

-- whether a token is written so
abbrev pub is_written : List ℕ → Token → List ℕ → Bool
is_written text t wanted = bytes_eq (span text t.start t.end) wanted

-- ---- the header and the words that parts begin with

-- the version that a token names, and what stands behind it
abbrev pub version_in : List ℕ → Token → List Token → Read Version
version_in text t rest =
    if is_written text t (codes "1") then Ok (One, rest)
    else (if is_written text t (codes "2") then Ok (Two, rest) else Err (fault BadHeader 0))

-- A certificate begins with its name and its version.
abbrev pub header_of : List ℕ → List Token → Read Version
header_of text [] = Err (fault BadHeader 0)
header_of text (name ∷ []) = Err (fault BadHeader 0)
header_of text (name ∷ version ∷ rest) =
    if is_written text name (codes "virage-certificate") then version_in text version rest else Err (fault BadHeader 0)

-- the word that a part begins with
abbrev pub label_of : List ℕ → List ℕ → List Token → Read ⊤
label_of text wanted [] = unexpected text []
label_of text wanted (t ∷ rest) = if is_written text t wanted then Ok (tt, rest) else unexpected text (t ∷ rest)

-- ---- the parts

-- no names are defined
abbrev pub no_names : Names
no_names name = None

-- the term: its tree, then the words that the version lacks, then what it stands for
abbrev pub term_part : Version → List ℕ → List Token → Read Tree
term_part version text tokens =
    label_of text (codes "term") tokens >>= λ label. tree_of text label.1 >>= λ tree.
    known_words version text tree.0 >>= λ known.
    term_of text no_names (first_place tree.0) tree.0 >>= λ t. Ok (t, tree.1)

-- the property
abbrev pub prop_part : Version → List ℕ → List Token → Read Prop
prop_part version text tokens =
    label_of text (codes "property") tokens >>= λ label. tree_of text label.1 >>= λ tree.
    prop_of version text tree.0 >>= λ p. Ok (p, tree.1)

-- the derivation
abbrev pub derivation_part : Version → List ℕ → List Token → Read RuleTree
derivation_part version text tokens =
    label_of text (codes "derivation") tokens >>= λ label. derivation_of text (last_rule version) label.1

-- nothing stands behind it
abbrev pub end_of : List Token → OrFault ⊤
end_of [] = Ok tt
end_of (t ∷ rest) = Err (fault TrailingText t.start)

-- ---- certificates

-- The parts are judged in the order of the text.
abbrev pub parts_of : List ℕ → List Token → OrFault Cert
parts_of text tokens =
    header_of text tokens >>= λ header. term_part header.0 text header.1 >>= λ term.
    prop_part header.0 text term.1 >>= λ prop. derivation_part header.0 text prop.1 >>= λ derivation.
    end_of derivation.1 >>= λ end. Ok (record { term = term.0; prop = prop.0; derivation = derivation.0 })

-- The certificate that a text is, or its first fault: that it is too long, its first byte that belongs to no token, or
-- the first fault of its parts.
abbrev pub cert_of : List ℕ → OrFault Cert
cert_of text =
    if nat_lt 16777216 (length text) then Err (fault TextTooLong 16777216) else (tokens_of text >>= parts_of text)
