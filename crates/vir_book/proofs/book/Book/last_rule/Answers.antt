use Rattle.std.proofs.Common.{◌-◌, length}
use Rattle.vir_term.specs.Tree.{tree}
use Rattle.vir_book.specs.Entries.{entries}
use Rattle.vir_book.proofs.BookLemmas.{last_term-last}
use Rattle.vir_book.proofs.PropLemmas.{last-within-kept}
use Rattle.vir_book.proofs.book.Book.last_rule.Goals as goal

pub returns-clause-within : goal.returns-clause-within
returns-clause-within c =
    let list = entries tree c.args.self.now.filled.found in
    last-within-kept list (length list - 1) (tree c.in-Some.term.now) c.args.self.now.filled.within c.in-Some.ensures

pub returns-clause-last : goal.returns-clause-last
returns-clause-last c = last_term-last (entries tree c.args.self.now.filled.found) (tree c.in-Some.term.now)
    c.in-Some.ensures
