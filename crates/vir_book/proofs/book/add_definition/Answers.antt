use Rattle.std.proofs.Common.{sym, subst}
use Rattle.vir_term.specs.Limits.{IsWithinLimits}
use Rattle.vir_book.specs.Books.{entry, AllWithinLimits}
use Rattle.vir_book.specs.Entries.{entries}
use Rattle.vir_book.proofs.BookLemmas.{within-append}
use Rattle.vir_book.proofs.book.add_definition.Goals as goal

pub returns-clause-within : goal.returns-clause-within
returns-clause-within g c =
    let meaning = g.T.KeptTerm.meaning in
    let within : IsWithinLimits (meaning c.in_ok-kept.kept) = subst IsWithinLimits (sym c.in_ok-kept.ensures)
    c.in_ok-term.ensures.new.1 in
    subst AllWithinLimits (sym c.in_ok-add.ensures)
    (within-append (entries meaning c.args.found) (entry c.in_ok-name.name.items (meaning c.in_ok-kept.kept))
    c.requires within)
