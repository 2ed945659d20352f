-- One derivation of a list of tokens, read from the left.
--
-- A derivation is a rule's name, and derivations in parentheses where there are any. What is read gives a value and the
-- tokens behind it, or a fault at the first token that the grammar doesn't allow.
use Rattle.std.specs.Prelude.{ℕ, zero, suc, Bool, true, false, List, [], ◌∷◌, length, drop, Option, Some, None, Ok, Err}
use Rattle.std.specs.Prelude.{if◌then◌else◌, nat_le}
use Rattle.vir_read.specs.declared.token.Token.{Token}
use Rattle.vir_read.specs.declared.symbol.Symbol.{Symbol}
use Rattle.vir_read.specs.declared.symbol.Symbol.TheVariants.{Word, OpenParenthesis, CloseParenthesis}
use Rattle.vir_read.specs.declared.text_fault.TextKind.TheVariants.{TooDeep, UnknownRule}
use Rattle.vir_read.specs.Faults.{◌>>=◌, fault}
use Rattle.vir_read.specs.Symbols.{symbol}
use Rattle.vir_read.specs.Grammar.{Read, members, symbol_of}
use Rattle.vir_read.specs.Arguments.{span}
use Rattle.vir_rules.specs.RuleTrees.{RuleTree, node, none, gathered}
use Rattle.vir_rules.specs.Named.{rule_named}

-- how a derivation is read
abbrev pub Reads : Type 0
Reads = List Token → Read RuleTree

-- ---- the name of a rule

-- a rule, where it is one of the first so many
abbrev pub up_to : ℕ → Option ℕ → Option ℕ
up_to last None = None
up_to last (Some rule) = if nat_le rule last then Some rule else None

-- a rule, and where its name stands
pub record PlacedRule : Type 0 where
  pub rule : ℕ
  pub at : ℕ

-- a rule, which must be known
abbrev pub known_rule : ℕ → List Token → Option ℕ → Read PlacedRule
known_rule at rest None = Err (fault UnknownRule at)
known_rule at rest (Some rule) = Ok (record { rule = rule; at = at }, rest)

-- the name of one of the first so many rules
abbrev pub name_of : List ℕ → ℕ → List Token → Read PlacedRule
name_of text last tokens =
    symbol_of text Word tokens >>= λ word.
    known_rule word.0.start word.1 (up_to last (rule_named (span text word.0.start word.0.end)))

-- ---- derivations in parentheses

-- derivations, at most so many, up to the closing parenthesis
abbrev pub children : List ℕ → Reads → ℕ → List Token → Read (List RuleTree)
children text derivation most tokens = members text CloseParenthesis derivation most tokens

-- ---- derivations

-- whether it is an opening parenthesis
abbrev pub is_open : Symbol → Bool
is_open OpenParenthesis = true
is_open _ = false

-- whether an opening parenthesis comes first
abbrev pub opens : List ℕ → List Token → Bool
opens text [] = false
opens text (t ∷ rest) = is_open (symbol text t)

-- a rule may have derivations in parentheses behind it
abbrev pub behind_rule : List ℕ → Reads → ℕ → List Token → Read RuleTree
behind_rule text inside rule tokens =
    if opens text tokens
    then (children text inside (length (drop 1 tokens)) (drop 1 tokens) >>= λ found.
    Ok (node rule (gathered found.0), found.1))
    else Ok (node rule none, tokens)

-- a derivation by the first so many rules, of at most this nesting
unfoldable pub derivation_within : List ℕ → ℕ → ℕ → Reads
derivation_within text last zero tokens = name_of text last tokens >>= λ found. Err (fault TooDeep found.0.at)
derivation_within text last (suc room) tokens = name_of text last tokens >>= λ found.
    behind_rule text (derivation_within text last room) found.0.rule found.1

-- a derivation by the first so many rules, and the tokens behind it
abbrev pub derivation_of : List ℕ → ℕ → Reads
derivation_of text last tokens = derivation_within text last 256 tokens
