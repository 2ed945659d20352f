-- A definition takes at least one token.
use Rattle.std.proofs.Common.{◌≡◌, ℕ, ◌≤◌, List, ◌∷◌, length, Ok, arith}
use Rattle.vir_read.specs.declared.token.Token.{Token}
use Rattle.vir_read.specs.declared.symbol.Symbol.TheVariants.{Word, Semicolon, Equals}
use Rattle.vir_read.specs.Grammar.{symbol_of, tree_of, unclosed_limit}
use Rattle.vir_read.proofs.LeavesLemmas.{leaves, next_leaves, symbol_of-takes, symbol_of-leaves, tree_within-leaves}
use Rattle.vir_book.specs.Books.{Written, definition_of}

pub definition_of-leaves : (text : List ℕ) (t : Token) (rest : List Token) (d : Written × List Token)
    → definition_of text (t ∷ rest) ≡ Ok d → length d.1 ≤ length rest
definition_of-leaves text t rest d e = leaves (length rest) (definition_of text (t ∷ rest)) d
    (next_leaves (length rest) (symbol_of text Word (t ∷ rest)) _ (symbol_of-takes text Word t rest)
    (λ name. next_leaves (length name.1) (symbol_of text Equals name.1) _ (symbol_of-leaves text Equals name.1)
    (λ equals. next_leaves (length equals.1) (tree_of text equals.1) _ (tree_within-leaves text unclosed_limit equals.1)
    (λ tree. next_leaves (length tree.1) (symbol_of text Semicolon tree.1) _ (symbol_of-leaves text Semicolon tree.1)
    (λ end. omega arith)))))
    e
