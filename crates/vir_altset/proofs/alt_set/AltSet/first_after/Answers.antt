use Rattle.std.proofs.Common.{◌%◌, ◌/◌, arith}
use Rattle.std.proofs.lemmas.Nat.Bits.{ones_shl}
use Rattle.vir_altset.specs.Words.{word_count}
use Rattle.vir_altset.proofs.JoinedWordsLemmas.{bit_and-lt}
use Rattle.vir_altset.proofs.NextLemmas.{lowest, last_of_clear, next_in_first_word, clear_first_word}
use Rattle.vir_altset.proofs.NextLemmas.{next_in_later_word, clear_later_word}
use Rattle.vir_altset.proofs.alt_set.AltSet.first_after.Goals as goal

pub returns-then-x-eq-LIMIT-clause-least : goal.returns-then-x-eq-LIMIT-clause-least
returns-then-x-eq-LIMIT-clause-least c = rw (← c.self.view_is) (last_of_clear word_count c.self.inside.words c.args.x
    (λ y a b. absurd (omega arith)))

pub returns-then-word-ne0-clause-least : goal.returns-then-word-ne0-clause-least
returns-then-word-ne0-clause-least c =
    let mask = ones_shl 64 (c.args.x % 64) (omega arith) in
    let some = rw (c.from-at.ensures, mask) at c.if-word-ne0.true in
    rw (← c.self.view_is, c.from-at.ensures, mask)
    (next_in_first_word word_count c.self.inside.words c.args.x _ (omega arith)
    (lowest _ some (bit_and-lt _ _ _ (c.self.invariant.fit (c.args.x / 64)))))

pub loop-i-init : goal.loop-i-init
loop-i-init c =
    let mask = ones_shl 64 (c.args.x % 64) (omega arith) in
    let none = rw (c.from-at.ensures, mask) at c.if-word-ne0.false in
    (rw c.from-at.ensures (clear_first_word c.self.inside.words c.args.x none), omega arith)

pub loop-i-preserved : goal.loop-i-preserved
loop-i-preserved c = (
  clear_later_word c.self.inside.words c.args.x c.loop-i.i c.loop-i.invariant.0
      c.if-word-ne0-2.false,
  omega arith,
)

pub returns-then-word-ne0-2-clause-least : goal.returns-then-word-ne0-2-clause-least
returns-then-word-ne0-2-clause-least c =
    rw (← c.self.view_is)
    (next_in_later_word word_count c.self.inside.words c.args.x c.loop-i.i _ c.loop-i.invariant.0 c.loop-i.invariant.1
    (omega arith) (lowest _ c.if-word-ne0-2.true (c.self.invariant.fit c.loop-i.i)))

pub returns-clause-least : goal.returns-clause-least
returns-clause-least c = rw (← c.self.view_is) (last_of_clear word_count c.self.inside.words c.args.x
    (λ y a b. c.loop-i.invariant.0 y a (omega arith)))
