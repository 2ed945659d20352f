use Rattle.std.proofs.Common.{arith}
use Rattle.vir_altset.proofs.OneWordLemmas.{bit_read}
use Rattle.vir_altset.specs.Words.{word_count}
use Rattle.vir_altset.proofs.alt_set.AltSet.has.Goals as goal

pub returns : goal.returns
returns c = rw (← c.self.view_is, c.from-i.ensures) (bit_read word_count _ c.args.x (omega arith) (omega arith))
