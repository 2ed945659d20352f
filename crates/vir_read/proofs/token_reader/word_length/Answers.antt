use Rattle.std.proofs.Common.{rules, tests, ◌∙◌}
use Rattle.std.proofs.lemmas.Iterator.{YieldsList-from_slice}
use Rattle.std.proofs.lemmas.Iterator.Consumers.{count_from_yields_List}
use Rattle.std.proofs.lemmas.Iterator.Search.{YieldsList-from_take_while}
use Rattle.vir_read.specs.Tokens.{is_word_byte}
use Rattle.vir_read.proofs.RunLemmas.{length_passing}
use Rattle.vir_read.proofs.token_reader.word_length.Goals as goal

pub returns : goal.returns
returns c =
    count_from_yields_List c.take_while.result c.count.result c.count.ensures.ran
    (YieldsList-from_take_while _ is_word_byte (YieldsList-from_slice c.args.bytes.now (cc))
    c.take_while.ensures.closure c.take_while.ensures.done (λ x b q k. search (rules, tests)))
    ∙ length_passing is_word_byte c.args.bytes.now
