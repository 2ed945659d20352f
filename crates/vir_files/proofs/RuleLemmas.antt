-- Rule files as texts.
use Rattle.std.proofs.Common.{◌≡◌, ℕ, List, [], true, length, nat_lt, Err, ap, if◌then◌else◌}
use Rattle.vir_book.specs.Books.{entries_of, filled, last_term, rule_of, rule_file_limit}
use Rattle.vir_book.specs.declared.book.TheConstants.{RULE_FILE_LIMIT}
use Rattle.vir_read.specs.Faults.{◌>>=◌, fault}
use Rattle.vir_read.specs.Tokens.{tokens_of}
use Rattle.vir_read.specs.declared.text_fault.TextKind.TheVariants.{TextTooLong}
use Rattle.vir_term.specs.declared.term.Term.{Term}
use Rattle.vir_term.specs.Tree.{Tree, tree}

-- a term of the code is this tree
abbrev pub SeesTree : Tree → Term → Type 0
SeesTree t x = t ≡ tree x

-- a text that is too long has that fault
pub long_rule : (bytes : List ℕ) → nat_lt RULE_FILE_LIMIT (length bytes) ≡ true
    → rule_of bytes ≡ Err (fault TextTooLong RULE_FILE_LIMIT)
long_rule bytes long =
    ap (λ b. (if b then Err (fault TextTooLong rule_file_limit)
    else (tokens_of bytes >>= λ tokens. entries_of (length tokens) bytes [] tokens >>= filled)) >>= last_term) long
