use Rattle.std.proofs.Common.{refl, arith}
use Rattle.vir_altset.proofs.JoinedWordsLemmas.{bit_and-lt, joined_none, joined_more, set_of-intersection}
use Rattle.vir_altset.specs.Words.{word_count}
use Rattle.vir_altset.proofs.alt_set.AltSet.inter.Goals as goal

pub loop-i-init : goal.loop-i-init
loop-i-init c = joined_none word_count _ _ _ c.self.invariant

pub loop-i-preserved : goal.loop-i-preserved
loop-i-preserved c = joined_more word_count c.loop-i.invariant (omega arith) _ refl
    (bit_and-lt _ _ _ (c.loop-i.invariant.are.fit c.loop-i.i))

pub invariant_of-result : goal.invariant_of-result
invariant_of-result c = c.loop-i.invariant.are

pub returns : goal.returns
returns c = rw (← c.self.view_is, ← c.other.view_is) (set_of-intersection word_count c.loop-i.invariant (omega arith)
    c.self.invariant c.other.invariant)
