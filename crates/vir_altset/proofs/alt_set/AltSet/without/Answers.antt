use Rattle.std.proofs.Common.{arith}
use Rattle.vir_altset.proofs.OneWordLemmas.{set_of-bit_cleared}
use Rattle.vir_altset.specs.Words.{word_count}
use Rattle.vir_altset.proofs.alt_set.AltSet.without.Goals as goal

pub returns : goal.returns
returns c = rw (← c.self.view_is, c.from-i.ensures) (set_of-bit_cleared word_count _ c.args.x c.self.invariant
    (omega arith) (omega arith))
