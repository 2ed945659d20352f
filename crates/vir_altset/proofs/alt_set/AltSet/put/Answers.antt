use Rattle.std.proofs.Common.{arith}
use Rattle.vir_altset.proofs.OneWordLemmas.{bit_set_words, set_of-bit_set}
use Rattle.vir_altset.specs.Words.{word_count}
use Rattle.vir_altset.proofs.alt_set.AltSet.put.Goals as goal

pub invariant_of-self : goal.invariant_of-self
invariant_of-self c = rw c.from-i.ensures (bit_set_words word_count _ c.args.x c.self.invariant (omega arith)
    (omega arith))

pub returns : goal.returns
returns c = rw (← c.self.view_is, c.from-i.ensures) (set_of-bit_set word_count _ c.args.x c.self.invariant (omega arith)
    (omega arith))
