-- What a printed term is made of, and which tokens of a text say it.
-- (The program's promises don't stand on this file.)
use Rattle.std.specs.Prelude.{ℕ, ◌≡◌, List, [], ◌∷◌, ◌++◌, Some, ⊤, codes, decimal, slice_get}
use Rattle.vir_term.specs.declared.leaf.Leaf.{Leaf}
use Rattle.vir_term.specs.declared.leaf.Leaf.TheVariants.{Elect, Defer, PassFirst, DropFirst, Plurality, Max, Min}
use Rattle.vir_term.specs.declared.leaf.Leaf.TheVariants.{Below, Upto}
use Rattle.vir_term.specs.Text.{score_text}
use Rattle.vir_read.specs.BuiltIns.{loop_name}
use Rattle.vir_term.specs.Tree.{Tree, leaf, rev, seq, par, loop, number_of}
use Rattle.vir_read.specs.declared.token.Token.{Token}
use Rattle.vir_read.specs.declared.token.TokenKind.TheVariants as kind
use Rattle.vir_read.specs.Faults.{OrFault}
use Rattle.vir_read.specs.declared.symbol.Symbol.TheVariants.{OpenParenthesis}
use Rattle.vir_read.specs.Tokens.{with_token}
use Rattle.vir_read.specs.Symbols.{symbol}
use Rattle.vir_read.specs.Arguments.{span}

-- a word, a number in decimals, or a sign
pub data Piece : Type 0 where
  name : List ℕ → Piece
  digits : ℕ → Piece
  sign : ℕ → Piece

-- the token of a text says this piece
abbrev pub Says : List ℕ → Piece → Token → Type 0
Says text (name word) t = (t.kind ≡ kind.Word) × (span text t.start t.end ≡ word)
Says text (digits n) t = (t.kind ≡ kind.Number) × (span text t.start t.end ≡ decimal n)
Says text (sign b) t = (t.kind ≡ kind.Sign) × (slice_get text t.start ≡ Some b)

-- the tokens say these pieces, one each
abbrev pub SayAll : List ℕ → List Piece → List Token → Type 0
SayAll text [] [] = ⊤
SayAll text (p ∷ pieces) (t ∷ tokens) = Says text p t × SayAll text pieces tokens
SayAll text [] (_ ∷ _) = ⊥
SayAll text (_ ∷ _) [] = ⊥

-- the first token, if there is one, is no opening parenthesis
abbrev pub OpensNothing : List ℕ → List Token → Type 0
OpensNothing text [] = ⊤
OpensNothing text (t ∷ _) = symbol text t ≡ OpenParenthesis → ⊥

-- a word with one argument
abbrev pub pieces_of : List ℕ → List Piece → List Piece
pieces_of word first = name word ∷ sign 40 ∷ (first ++ sign 41 ∷ [])

-- a word with two arguments
abbrev pub pieces_of_two : List ℕ → List Piece → List Piece → List Piece
pieces_of_two word first second = name word ∷ sign 40 ∷ (first ++ sign 44 ∷ (second ++ sign 41 ∷ []))

-- further members of a fixed order
abbrev pub more_pieces : List ℕ → List Piece
more_pieces [] = []
more_pieces (x ∷ rest) = sign 44 ∷ digits x ∷ more_pieces rest

-- a word with a number and a fixed order, which is left out where it is empty
abbrev pub ordered_pieces : List ℕ → ℕ → List ℕ → List Piece
ordered_pieces word k [] = pieces_of word (digits k ∷ [])
ordered_pieces word k (x ∷ rest) = pieces_of_two word (digits k ∷ []) (sign 91 ∷ digits x
    ∷ (more_pieces rest ++ sign 93 ∷ []))

-- a module
abbrev pub leaf_pieces : Leaf → List Piece
leaf_pieces Elect = name (codes "elect") ∷ []
leaf_pieces Defer = name (codes "defer") ∷ []
leaf_pieces Plurality = name (codes "plurality") ∷ []
leaf_pieces (PassFirst k order) = ordered_pieces (codes "pass") k order
leaf_pieces (DropFirst k order) = ordered_pieces (codes "drop") k order
leaf_pieces (Max s) = pieces_of (codes "max") (name (score_text s) ∷ [])
leaf_pieces (Min s) = pieces_of (codes "min") (name (score_text s) ∷ [])
leaf_pieces (Below s) = pieces_of (codes "below") (name (score_text s) ∷ [])
leaf_pieces (Upto s) = pieces_of (codes "upto") (name (score_text s) ∷ [])

-- a term
abbrev pub term_pieces : Tree → List Piece
term_pieces (leaf l) = leaf_pieces l
term_pieces (rev part) = pieces_of (codes "rev") (term_pieces part)
term_pieces (seq first second) = pieces_of_two (codes "seq") (term_pieces first) (term_pieces second)
term_pieces (par first second) = pieces_of_two (codes "par") (term_pieces first) (term_pieces second)
term_pieces (loop k body) = pieces_of_two (loop_name k) (digits (number_of k) ∷ []) (term_pieces body)

-- these tokens, and then those
abbrev pub with_tokens : List Token → OrFault (List Token) → OrFault (List Token)
with_tokens [] others = others
with_tokens (t ∷ rest) others = with_token t (with_tokens rest others)
