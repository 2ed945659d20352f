use Rattle.std.proofs.Common.{arith}
use Rattle.vir_altset.specs.Words.{word_count}
use Rattle.vir_altset.proofs.AllLemmas.{set_of-filled}
use Rattle.vir_altset.proofs.alt_set.AltSet.all.Goals as goal

pub returns : goal.returns
returns c = set_of-filled word_count c.loop-i.words c.args.m (λ k h. c.loop-i.invariant.filled k (omega arith))
    (omega arith)
