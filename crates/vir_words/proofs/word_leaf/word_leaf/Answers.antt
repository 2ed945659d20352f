use Rattle.std.proofs.Common.{◌∙◌}
use Rattle.vir_term.specs.Tree.{tree}
use Rattle.vir_book.specs.Listing.{listing}
use Rattle.vir_words.proofs.LeafLemmas.{leaf_found, leaf_missing}
use Rattle.vir_words.proofs.word_leaf.word_leaf.Goals as goal

pub returns-in-Ok-clause-module : goal.returns-in-Ok-clause-module
returns-in-Ok-clause-module c =
    leaf_found c.args.word.now c.deref.result.now (listing c.in-Ok.book) (tree c.last_rule.result.now)
    c.find_printed.result (c.deref.ensures.value ∙ c.in_ok-text.ensures) c.in-Ok.ensures.exact
    c.last_rule.ensures.last c.find_printed.ensures

pub returns-in-Err-Fault-clause-module : goal.returns-in-Err-Fault-clause-module
returns-in-Err-Fault-clause-module c =
    leaf_missing c.args.word.now c.deref.result.now c.in-Err-Fault.field-0-0
    (c.deref.ensures.value ∙ c.in_ok-text.ensures) (rw c.in-Err-Fault.field-0-is at c.in-Err-Fault.ensures.exact)
