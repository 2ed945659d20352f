-- The names and terms of a rule file, or its first fault.
use Rattle.std.specs.Prelude.{ℕ, zero, suc, List, [], ◌∷◌, ◌++◌, length, Some, None, Ok, Err, ⊤, if◌then◌else◌, nat_lt}
use Rattle.std.specs.Str.{bytes_eq}
use Rattle.vir_term.specs.Tree.{Tree}
use Rattle.vir_term.specs.Limits.{IsWithinLimits}
use Rattle.vir_read.specs.declared.token.Token.{Token}
use Rattle.vir_read.specs.declared.symbol.Symbol.TheVariants.{Word, Equals, Semicolon}
use Rattle.vir_read.specs.declared.text_fault.TextKind.TheVariants.{NameTwice, TextTooLong, EmptyBook}
use Rattle.vir_read.specs.Faults.{OrFault, ◌>>=◌, fault}
use Rattle.vir_read.specs.Tokens.{tokens_of}
use Rattle.vir_read.specs.RawTrees.{RawTree}
use Rattle.vir_read.specs.Grammar.{Read, symbol_of, tree_of}
use Rattle.vir_read.specs.Arguments.{Names, span, is_known}
use Rattle.vir_read.specs.Typing.{term_of}

-- ---- definitions as they stand

-- a definition's name, and the tree of its term
pub record Written : Type 0 where
  pub name : Token
  pub tree : RawTree

-- a definition: a word, =, a tree and ;
abbrev pub definition_of : List ℕ → List Token → Read Written
definition_of text tokens =
    symbol_of text Word tokens >>= λ name. symbol_of text Equals name.1 >>= λ equals. tree_of text equals.1 >>= λ tree.
    symbol_of text Semicolon tree.1 >>= λ end. Ok (record { name = name.0; tree = tree.0 }, end.1)

-- ---- what they define

-- a name and its term
pub record Entry : Type 0 where
  pub name : List ℕ
  pub term : Tree

abbrev pub entry : List ℕ → Tree → Entry
entry name term = record { name = name; term = term }

-- the terms of the names that are defined
abbrev pub lookup : List Entry → Names
lookup [] name = None
lookup (e ∷ rest) name = if bytes_eq name e.name then Some e.term else lookup rest name

-- all terms are within the limits
abbrev pub AllWithinLimits : List Entry → Type 0
AllWithinLimits [] = ⊤
AllWithinLimits (e ∷ rest) = IsWithinLimits e.term × AllWithinLimits rest

-- The term of a definition behind these entries. Its name must be new.
abbrev pub new_term : List ℕ → List Entry → List ℕ → Written → OrFault Tree
new_term text before name d = if is_known (lookup before) name then Err (fault NameTwice d.name.start)
    else term_of text (lookup before) d.name.start d.tree

-- these entries, and behind them that of a definition
abbrev pub with_definition : List ℕ → List Entry → Written → OrFault (List Entry)
with_definition text before d =
    new_term text before (span text d.name.start d.name.end) d >>= λ t.
    Ok (before ++ entry (span text d.name.start d.name.end) t ∷ [])

-- These entries, and those of the definitions up to the end, of which there are at most so many.
abbrev pub entries_of : ℕ → List ℕ → List Entry → List Token → OrFault (List Entry)
entries_of zero text before tokens = Ok before
entries_of (suc most) text before [] = Ok before
entries_of (suc most) text before (t ∷ rest) =
    definition_of text (t ∷ rest) >>= λ d. with_definition text before d.0 >>= λ after. entries_of most text after d.1

-- ---- rule files

-- how many bytes a rule file may have
abbrev pub rule_file_limit : ℕ
rule_file_limit = 1048576

-- at least one definition
abbrev pub filled : List Entry → OrFault (List Entry)
filled [] = Err (fault EmptyBook 0)
filled (e ∷ rest) = Ok (e ∷ rest)

-- The entries of a rule file. Each definition has tokens of its own, so that there are no more definitions than tokens.
abbrev pub book_of : List ℕ → OrFault (List Entry)
book_of text =
    if nat_lt rule_file_limit (length text) then Err (fault TextTooLong rule_file_limit)
    else (tokens_of text >>= λ tokens. entries_of (length tokens) text [] tokens >>= filled)

-- the term that is defined last
abbrev pub last_term : List Entry → OrFault Tree
last_term [] = Err (fault EmptyBook 0)
last_term (e ∷ []) = Ok e.term
last_term (e ∷ next ∷ rest) = last_term (next ∷ rest)

-- The rule of a rule file, or its first fault.
abbrev pub rule_of : List ℕ → OrFault Tree
rule_of text = book_of text >>= last_term
