use Rattle.std.proofs.Common.{◌∙◌, sym}
use Rattle.vir_read.proofs.FrontLemmas.{with_tokens-end}
use Rattle.vir_read.proofs.token_reader.tokens.Goals as goal

pub returns : goal.returns
returns c = sym c.loop-at.invariant.0 ∙ with_tokens-end c.loop-at.list.items c.loop-at.at c.args.text.now
    c.loop-at-test.false
