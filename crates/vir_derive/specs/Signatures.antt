-- Signatures: what decides which of the properties with some numbers are derivable of what a term is composed into.
-- (The program's promises don't stand on this file.)
use Rattle.std.specs.Prelude.{◌≡◌, ◌↔◌, ℕ, Bool, List, IsTrue, Option}
use Rattle.vir_term.specs.declared.leaf.Leaf.{Leaf}
use Rattle.vir_term.specs.declared.prop.Prop.{Prop}
use Rattle.vir_term.specs.Tree.{Tree}
use Rattle.vir_rules.specs.Claims.{of}
use Rattle.vir_rules.specs.Derivations.{Derivable}
use Rattle.vir_rules.specs.Forms.{Form, form_of, first_part, second_part}
use Rattle.vir_derive.specs.Heads.{head, are_opposed}
use Rattle.vir_derive.specs.Numbers.{is_within, is_listed, AreEnough}
use Rattle.vir_derive.specs.DerivableProps.{has, is_composed}
use Rattle.vir_derive.specs.declared.term_signature.Signature.{Signature}
use Rattle.vir_derive.specs.contracts.term_signature.SignaturePartialEq.TheImpl as signature_eq
use Rattle.vir_derive.specs.KeptHeads.{head_seen}

-- the numbers of a signature
abbrev pub numbers_of : Signature → List ℕ
numbers_of s = s.numbers.items

-- whether a property is in it
abbrev pub has_prop : Signature → Prop → Bool
has_prop s q = has s.props q

-- its head, where it has one
abbrev pub head_of : Signature → Option Leaf
head_of s = head_seen s.head

-- It is the signature of a term for these numbers: its properties are those with no number or one of these that are
-- derivable, and its head is the term's.
pub record IsSignatureOf (numbers : List ℕ) (s : Signature) (t : Tree) : Type 0 where
  pub numbers_are : numbers_of s ≡ numbers
  pub enough : AreEnough (is_listed numbers)
  pub has_are : (q : Prop) → IsTrue (has_prop s q) ↔ (IsTrue (is_within (is_listed numbers) q) × Derivable (of q t))
  pub head_is : head_of s ≡ head t

-- Two signatures say the same: they have the same numbers, the same properties and the same head.
pub record SayTheSame (s r : Signature) : Type 0 where
  pub numbers_same : numbers_of s ≡ numbers_of r
  pub props_same : (q : Prop) → has_prop s q ≡ has_prop r q
  pub head_same : head_of s ≡ head_of r

-- whether two signatures are equal by `==`
abbrev pub are_equal : Signature → Signature → Bool
are_equal = (signature_eq.ghosts).eq

-- It is the signature of each term of this form with this head that has parts of these signatures, for the same
-- numbers, with heads opposed or not.
abbrev pub JoinsParts : Form → Signature → Signature → Bool → Option Leaf → Signature → Type 0
JoinsParts form first second opposed kept s =
    (numbers : List ℕ) → (term : Tree) → form_of term ≡ form → IsTrue (is_composed form) →
    IsSignatureOf numbers first (first_part term) → IsSignatureOf numbers second (second_part term) →
    opposed ≡ are_opposed (first_part term) (second_part term) → kept ≡ head term → IsSignatureOf numbers s term
