use Rattle.std.proofs.Common.{◌≤◌, count_ones, get_or, sym, arith}
use lib.Count.{ones-le}
use Rattle.vir_altset.proofs.PassingLemmas.{len-passing-0}
use Rattle.vir_altset.specs.Words.{has_bit, word_count}
use Rattle.vir_altset.proofs.CountLemmas.{len-further_word}
use Rattle.vir_altset.proofs.alt_set.AltSet.count.Goals as goal

pub loop-i-init : goal.loop-i-init
loop-i-init c = (sym (len-passing-0 (has_bit c.self.inside.words)), omega arith)

pub loop-i-preserved : goal.loop-i-preserved
loop-i-preserved c =
    let few : count_ones (get_or c.self.inside.words c.loop-i.i 0) ≤ 64 = ones-le 64 _ (c.self.invariant.fit c.loop-i.i)
    in
    let more = len-further_word word_count c.self.inside.words c.loop-i.i c.self.invariant in
    (omega arith, omega arith)
