use Rattle.vir_book.specs.Entries.{entries}
use Rattle.vir_book.proofs.BookLemmas.{lookup_within}
use Rattle.vir_book.proofs.book.term_of_definition.Goals as goal

pub share_term_at-requires : goal.share_term_at-requires
share_term_at-requires g c = lookup_within (entries g.T.KeptTerm.meaning c.args.found.now) c.requires
