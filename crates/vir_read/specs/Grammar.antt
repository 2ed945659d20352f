-- One tree of a list of tokens, read from the left.
--
-- A tree is a word, a word with trees in parentheses, a number, or numbers in brackets. What is read gives a value
-- and the tokens behind it, or a fault at the first token that the grammar doesn't allow.
use Rattle.std.specs.Prelude.{ℕ, zero, suc, List, [], ◌∷◌, length, Option, Some, None, Ok, Err, if◌then◌else◌}
use Rattle.vir_read.specs.declared.token.Token.{Token}
use Rattle.vir_read.specs.declared.symbol.Symbol.{Symbol}
use Rattle.vir_read.specs.declared.symbol.Symbol.TheVariants.{Word, Number, OpenParenthesis, CloseParenthesis}
use Rattle.vir_read.specs.declared.symbol.Symbol.TheVariants.{OpenBracket, CloseBracket, Comma}
use Rattle.vir_read.specs.declared.text_fault.TextKind.TheVariants.{Unexpected, TooDeep}
use Rattle.vir_read.specs.declared.tree_reader.Separator.{Separator}
use Rattle.vir_read.specs.declared.tree_reader.Separator.TheVariants as separator
use Rattle.vir_read.specs.declared.tree_reader.Members.{Members}
use Rattle.vir_read.specs.declared.tree_reader.Members.TheVariants.{Trees, Numbers}
use Rattle.vir_read.specs.Faults.{OrFault, ◌>>=◌, fault}
use Rattle.vir_read.specs.Symbols.{symbol, is_same}
use Rattle.vir_read.specs.RawTrees.{RawTree, word, number, bracket, none, gathered}

-- a value and the tokens behind it, or the first fault
abbrev pub Read : Type 0 → Type 0
Read A = OrFault (A × List Token)

-- how a tree is read
abbrev pub Reads : Type 0
Reads = List Token → Read RawTree

-- where the next token stands, or the text's length where there is none
abbrev pub front_place : List ℕ → List Token → ℕ
front_place text [] = length text
front_place text (t ∷ rest) = t.start

-- the next token isn't allowed, or the text ends too early
abbrev pub unexpected : {A : Type 0} → List ℕ → List Token → Read A
unexpected text tokens = Err (fault Unexpected (front_place text tokens))

-- the next token, which must be this to the grammar
abbrev pub symbol_of : List ℕ → Symbol → List Token → Read Token
symbol_of text wanted [] = unexpected text []
symbol_of text wanted (t ∷ rest) = if is_same wanted (symbol text t) then Ok (t, rest) else unexpected text (t ∷ rest)

-- a sign at this place opens what is read so, where one more sign may be left unclosed
abbrev pub opened : ℕ → Option Reads → (Reads → Read RawTree) → Read RawTree
opened at None inside = Err (fault TooDeep at)
opened at (Some tree) inside = inside tree

-- ---- lists

-- what stands behind a value of a list: a comma, or the sign that closes the list
abbrev pub separator_of : List ℕ → Symbol → List Token → Read Separator
separator_of text close [] = unexpected text []
separator_of text close (t ∷ rest) =
    if is_same Comma (symbol text t) then Ok (separator.Comma, rest)
    else (if is_same close (symbol text t) then Ok (separator.Close, rest) else unexpected text (t ∷ rest))

-- behind a comma stand further values
abbrev pub goes_on : {A : Type 0} → A → (List Token → Read (List A)) → List Token → Separator → Read (List A)
goes_on first further rest separator.Comma = further rest >>= λ others. Ok (first ∷ others.0, others.1)
goes_on first further rest separator.Close = Ok (first ∷ [], rest)

-- values that are read so, at most so many, up to the sign that closes the list
abbrev pub members : {A : Type 0} → List ℕ → Symbol → (List Token → Read A) → ℕ → List Token → Read (List A)
members text close read zero tokens = unexpected text tokens
members text close read (suc most) tokens =
    read tokens >>= λ first. separator_of text close first.1 >>= λ s. goes_on first.0 (members text close read most) s.1
    s.0

-- ---- numbers in brackets

-- a number
abbrev pub numeral_of : List ℕ → Reads
numeral_of text tokens = symbol_of text Number tokens >>= λ t. Ok (number t.0.start t.0.end, t.1)

abbrev pub bracket_then : List ℕ → Token → List Token → Symbol → Read (List RawTree)
bracket_then text t rest CloseBracket = Ok ([], rest)
bracket_then text t rest _ = members text CloseBracket (numeral_of text) (length (t ∷ rest)) (t ∷ rest)

-- behind the opening bracket stands the closing one, or numbers
abbrev pub in_brackets : List ℕ → List Token → Read (List RawTree)
in_brackets text [] = unexpected text []
in_brackets text (t ∷ rest) = bracket_then text t rest (symbol text t)

-- ---- trees

abbrev pub word_then : List ℕ → Option Reads → Token → Token → List Token → Symbol → Read RawTree
word_then text inside t s rest OpenParenthesis = opened s.start inside (λ tree. members text CloseParenthesis tree
    (length rest) rest >>= λ found. Ok (word t.start t.end (gathered found.0), found.1))
word_then text inside t s rest _ = Ok (word t.start t.end none, s ∷ rest)

-- a word may have trees in parentheses behind it
abbrev pub behind_word : List ℕ → Option Reads → Token → List Token → Read RawTree
behind_word text inside t [] = Ok (word t.start t.end none, [])
behind_word text inside t (s ∷ rest) = word_then text inside t s rest (symbol text s)

abbrev pub tree_at : List ℕ → Option Reads → Token → List Token → Symbol → Read RawTree
tree_at text inside t rest Word = behind_word text inside t rest
tree_at text inside t rest Number = Ok (number t.start t.end, rest)
tree_at text inside t rest OpenBracket = opened t.start inside (λ _. in_brackets text rest >>= λ found.
    Ok (bracket t.start (gathered found.0), found.1))
tree_at text inside t rest _ = unexpected text (t ∷ rest)

-- a tree, where what stands inside of a sign is read so, if one more sign may be left unclosed
abbrev pub tree_with : List ℕ → Option Reads → Reads
tree_with text inside [] = unexpected text []
tree_with text inside (t ∷ rest) = tree_at text inside t rest (symbol text t)

-- a tree in which so many signs may be unclosed at a time
unfoldable pub tree_within : List ℕ → ℕ → Reads
tree_within text zero tokens = tree_with text None tokens
tree_within text (suc room) tokens = tree_with text (Some (tree_within text room)) tokens

-- how what stands inside of a sign is read, where so many more may be unclosed
abbrev pub inside : List ℕ → ℕ → Option Reads
inside text zero = None
inside text (suc room) = Some (tree_within text room)

-- how many signs may be unclosed at a time
abbrev pub unclosed_limit : ℕ
unclosed_limit = 80

-- a tree of a text, and the tokens behind it
abbrev pub tree_of : List ℕ → Reads
tree_of text tokens = tree_within text unclosed_limit tokens

-- ---- the members of a list

-- the sign that closes the list
abbrev pub close_of : Members → Symbol
close_of (Trees room) = CloseParenthesis
close_of Numbers = CloseBracket

-- how each of them is read
abbrev pub member_of : List ℕ → Members → Reads
member_of text (Trees room) = tree_within text room
member_of text Numbers = numeral_of text
