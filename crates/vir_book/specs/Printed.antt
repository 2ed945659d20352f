-- Rule files of printed terms.
-- (The program's promises don't stand on this file.)
use Rattle.std.specs.Prelude.{ℕ, ◌≡◌, true, false, List, [], ◌∷◌, ◌++◌, ⊤}
use Rattle.vir_term.specs.Limits.{IsWithinLimits}
use Rattle.vir_read.specs.Arguments.{is_known}
use Rattle.vir_read.specs.Printed.{is_name, definition_text}
use Rattle.vir_book.specs.Books.{Entry, lookup}

-- the definitions of these entries, one behind the other
abbrev pub book_text : List Entry → List ℕ
book_text [] = []
book_text (e ∷ rest) = definition_text e.name e.term ++ book_text rest

-- Behind those entries, each of these has a word for a name, which is neither built in nor defined before it, and a
-- term within the limits.
abbrev pub AreDefinable : List Entry → List Entry → Type 0
AreDefinable before [] = ⊤
AreDefinable before (e ∷ rest) =
    (is_name e.name ≡ true) × (is_known (lookup before) e.name ≡ false) × IsWithinLimits e.term
    × AreDefinable (before ++ e ∷ []) rest

-- a name of at most so many bytes leaves room for each term within the limits
abbrev pub name_limit : ℕ
name_limit = 20000
