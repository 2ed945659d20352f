-- A rule file that defines one printed term.
-- (The program's promises don't stand on this file.)
use Rattle.std.specs.Prelude.{ℕ, ◌≡◌, Bool, false, ◌&&◌, List, [], ◌∷◌, ◌++◌, Ok, codes}
use Rattle.std.specs.List.{list_all}
use Rattle.vir_term.specs.Tree.{Tree}
use Rattle.vir_term.specs.Text.{term_text}
use Rattle.vir_read.specs.declared.token.Token.{Token}
use Rattle.vir_read.specs.Tokens.{is_letter, is_word_byte, tokens_of}
use Rattle.vir_read.specs.RawTrees.{RawTree}
use Rattle.vir_read.specs.Grammar.{tree_of}
use Rattle.vir_read.specs.Arguments.{Names}
use Rattle.vir_read.specs.Typing.{term_of}
use Rattle.vir_read.specs.Pieces.{name, sign, Says}

-- Each module and each composition adds at most so many bytes to a printed term. A module of a fixed order may name
-- each number that a fixed order may name.
abbrev pub part_length : ℕ
part_length = 5140

-- a letter, and behind it bytes of a word
abbrev pub is_name : List ℕ → Bool
is_name [] = false
is_name (b ∷ rest) = is_letter b && list_all is_word_byte rest

-- the definition of a term under a name, without spaces
abbrev pub definition_text : List ℕ → Tree → List ℕ
definition_text the_name t = the_name ++ (codes "=" ++ (term_text t ++ codes ";"))

-- the tokens begin a tree that stands for this term whatever names are defined, and those are behind it
pub record IsRead (text : List ℕ) (t : Tree) (tokens rest : List Token) : Type 0 where
  pub raw : RawTree
  pub read : tree_of text tokens ≡ Ok (raw, rest)
  pub meant : (names : Names) (at : ℕ) → term_of text names at raw ≡ Ok t

-- a text of a name, =, a tree that stands for this term, and ;
pub record IsDefinition (text the_name : List ℕ) (t : Tree) : Type 0 where
  pub word : Token
  pub equals : Token
  pub tokens : List Token
  pub semicolon : Token
  pub lexed : tokens_of text ≡ Ok (word ∷ equals ∷ tokens)
  pub says_name : Says text (name the_name) word
  pub says_equals : Says text (sign 61) equals
  pub says_semicolon : Says text (sign 59) semicolon
  pub body : IsRead text t tokens (semicolon ∷ [])
