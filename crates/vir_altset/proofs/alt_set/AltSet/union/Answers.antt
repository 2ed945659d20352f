use Rattle.std.proofs.Common.{refl, arith}
use Rattle.std.proofs.lemmas.Nat.{or_lt}
use Rattle.vir_altset.proofs.JoinedWordsLemmas.{joined_none, joined_more, set_of-union}
use Rattle.vir_altset.specs.Words.{word_count}
use Rattle.vir_altset.proofs.alt_set.AltSet.union.Goals as goal

pub loop-i-init : goal.loop-i-init
loop-i-init c = joined_none word_count _ _ _ c.self.invariant

pub loop-i-preserved : goal.loop-i-preserved
loop-i-preserved c = joined_more word_count c.loop-i.invariant (omega arith) _ refl
    (or_lt 64 _ _ (c.loop-i.invariant.are.fit c.loop-i.i) (c.other.invariant.fit c.loop-i.i))

pub invariant_of-result : goal.invariant_of-result
invariant_of-result c = c.loop-i.invariant.are

pub returns : goal.returns
returns c = rw (← c.self.view_is, ← c.other.view_is) (set_of-union word_count c.loop-i.invariant (omega arith)
    c.self.invariant c.other.invariant)
