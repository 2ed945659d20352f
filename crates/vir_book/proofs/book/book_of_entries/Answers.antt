use Rattle.vir_term.specs.Tree.{tree}
use Rattle.vir_book.specs.Entries.{entries}
use Rattle.vir_book.proofs.BookLemmas.{lookup_within}
use Rattle.vir_book.proofs.book.book_of_entries.Goals as goal

pub returns-clause-within : goal.returns-clause-within
returns-clause-within c = lookup_within (entries tree c.args.found) c.requires
