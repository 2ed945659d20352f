use Rattle.std.proofs.Common.{◌-◌, length, Ok, ◌∙◌, ap, sym, subst}
use Rattle.vir_term.specs.Limits.{IsWithinLimits}
use Rattle.vir_read.specs.SharedTerms.{tree}
use Rattle.vir_read.proofs.TypingLemmas.{fails_fault}
use Rattle.vir_book.specs.Entries.{entries}
use Rattle.vir_book.proofs.BookLemmas.{last-within, rule_of-last, rule_of-none}
use Rattle.vir_book.proofs.book.rule_of_entries.Goals as goal

pub returns-in-None-clause-exact : goal.returns-in-None-clause-exact
returns-in-None-clause-exact c = fails_fault _ _ _ c.fault.ensures (rule_of-none (entries tree c.args.found.now)
    c.in-None.ensures)

pub returns-in-Ok-clause-exact : goal.returns-in-Ok-clause-exact
returns-in-Ok-clause-exact c =
    rule_of-last (entries tree c.args.found.now) (tree c.in-Some.term.now) c.in-Some.ensures
    ∙ ap Ok (sym c.in-Ok.ensures)

pub returns-in-Ok-clause-within : goal.returns-in-Ok-clause-within
returns-in-Ok-clause-within c =
    let list = entries tree c.args.found.now in
    subst IsWithinLimits (sym c.in-Ok.ensures)
    (last-within list (length list - 1) (tree c.in-Some.term.now) c.requires c.in-Some.ensures)
