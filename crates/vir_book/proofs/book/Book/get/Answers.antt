use Rattle.std.proofs.Common.{◌≡◌, List, ℕ, Option, Some, None, option_map, sym}
use Rattle.std.specs.Borrow.{Bor}
use Rattle.std.specs.Option.{IfSome}
use Rattle.vir_term.specs.declared.term.Term.{Term}
use Rattle.vir_term.specs.Tree.{tree}
use Rattle.vir_term.specs.Limits.{IsWithinLimits}
use Rattle.vir_book.specs.Books.{Entry, AllWithinLimits, lookup}
use Rattle.vir_book.specs.Entries.{entries}
use Rattle.vir_book.proofs.PropLemmas.{lookup-within-kept}
use Rattle.vir_book.proofs.book.Book.get.Goals as goal

-- the term that was found is one of the list's
found_within : (list : List Entry) (name : List ℕ) (found : Option (Bor Term)) → ∥ AllWithinLimits list ∥₁
    → option_map (λ (term : Bor Term). tree term.now) found ≡ lookup list name
    → IfSome found (λ (term : Bor Term). IsWithinLimits (tree term.now))
found_within list name None kept h = tt
found_within list name (Some term) kept h = lookup-within-kept list name (tree term.now) kept (sym h)

pub returns-clause-within : goal.returns-clause-within
returns-clause-within c =
    let found = c.args.self.now.filled in
    found_within (entries tree found.found) c.args.name.now c.get.result found.within c.get.ensures
