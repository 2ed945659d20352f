use Rattle.std.proofs.lemmas.Result.{err_from_is_err_and}
use Rattle.vir_book.specs.Books.{rule_of}
use Rattle.vir_book.specs.declared.book.TheConstants.{RULE_FILE_LIMIT}
use Rattle.vir_files.proofs.RuleLemmas.{long_rule}
use Rattle.vir_files.proofs.TextLemmas.{reads_judged, reads_stopped}
use Rattle.vir_files.proofs.rule_file.rule_file.Goals as goal
use Rattle.vir_term.specs.Tree.{tree}

pub returns-in_err-text-clause-reads : goal.returns-in_err-text-clause-reads
returns-in_err-text-clause-reads g c =
    let p = err_from_is_err_and c.from_residual.result c.from_residual.ensures.1 in
    rw (p.1, p.2)
    (reads_stopped RULE_FILE_LIMIT rule_of tree long_rule _ _ _ c.in_err-text.field-0.0
    c.in_err-text.ensures)

pub returns-clause-reads : goal.returns-clause-reads
returns-clause-reads g c =
    reads_judged RULE_FILE_LIMIT rule_of tree long_rule _ _ _ _ _ c.in_ok-text.ensures
    (rw c.deref.ensures.value at c.judge.ensures.judges)
