use Rattle.std.proofs.Common.{◌≡◌, ◌-◌, length, drop, []}
use Rattle.vir_book.specs.Books.{entries_of, AllWithinLimits}
use Rattle.vir_book.specs.Entries.{entries}
use Rattle.vir_book.proofs.book.entries_of.Given as goal

abbrev pub invariant-loop : goal.invariant-loop
invariant-loop g l =
    record {
      same : entries_of (length l.list - l.counter) l.text (entries g.T.KeptTerm.meaning l.found) (drop l.at l.list)
          ≡ entries_of (length l.list) l.text [] l.list;
      within : AllWithinLimits (entries g.T.KeptTerm.meaning l.found);
    }
