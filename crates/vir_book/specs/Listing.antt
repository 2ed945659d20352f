-- What the code's values list.
-- (The program's promises don't stand on this file.)
use Rattle.std.specs.Prelude.{List}
use Rattle.vir_term.specs.Tree.{tree}
use Rattle.vir_read.specs.RawTrees.{raw_tree}
use Rattle.vir_book.specs.Books.{Entry, Written}
use Rattle.vir_book.specs.Entries.{entries}
use Rattle.vir_book.specs.declared.book.Book.{Book}
use Rattle.vir_book.specs.declared.definition.Definition.{Definition}

-- the entries of a book, in the order of its definitions
abbrev pub listing : Book → List Entry
listing book = entries tree book.filled.found

-- a definition without its place in memory
abbrev pub written : Definition → Written
written d = record { name = d.name; tree = raw_tree d.raw }
