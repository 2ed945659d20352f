use Rattle.std.proofs.Common.{[], ◌∷◌, arith}
use Rattle.std.proofs.lemmas.Bool.Decides.{nat_tests}
use Rattle.vir_words.proofs.CommandLemmas.{five_words, if_in_range, told_in_range, too_few, too_many}
use Rattle.vir_words.proofs.reading.read_words.Goals.{in_default-via-then-words-lt2}
use Rattle.vir_words.proofs.reading.read_words.Goals.{
  in_default-via-else-words-lt2+else-words-lt3+else-words-lt4+else-words-lt5+then-words-lt6,
}
use Rattle.vir_words.proofs.reading.read_words.Goals.{
  in_default-via-else-words-lt2+else-words-lt3+else-words-lt4+else-words-lt5+else-words-lt6+else-words-lt7,
}
use Rattle.vir_words.proofs.reading.read_words.Goals as goal

pub returns-in-len3-clause-range : goal.returns-in-len3-clause-range
returns-in-len3-clause-range c =
    told_in_range c.read_two.result
    (c.deref-in-len3.result.now ∷ c.deref-in-len3-2.result.now ∷ c.deref-in-len3-3.result.now ∷ [])
    c.read_two.ensures.command

pub returns-in-len4-clause-range : goal.returns-in-len4-clause-range
returns-in-len4-clause-range c =
    told_in_range c.read_three.result
    (c.deref-in-len4.result.now ∷ c.deref-in-len4-2.result.now ∷ c.deref-in-len4-3.result.now
    ∷ c.deref-in-len4-4.result.now ∷ []) c.read_three.ensures.command

pub returns-in-len6-clause-range : goal.returns-in-len6-clause-range
returns-in-len6-clause-range c =
    if_in_range c.read_five.result
    (c.deref-in-len6.result.now ∷ c.deref-in-len6-2.result.now ∷ c.deref-in-len6-3.result.now
    ∷ c.deref-in-len6-4.result.now ∷ c.deref-in-len6-5.result.now ∷ c.deref-in-len6-6.result.now ∷ [])
    c.read_five.ensures

pub returns-in_default-clause-command : goal.returns-in_default-clause-command
returns-in_default-clause-command c =
    elim c.in_default.branch [
      | in_default-via-then-words-lt2 w ↦ too_few c.args.words.now (grind (arith, nat_tests))
      | in_default-via-else-words-lt2+else-words-lt3+else-words-lt4+else-words-lt5+then-words-lt6 w ↦ five_words
          c.args.words.now (grind (arith, nat_tests))
      | in_default-via-else-words-lt2+else-words-lt3+else-words-lt4+else-words-lt5+else-words-lt6+else-words-lt7 w ↦
          too_many c.args.words.now (grind (arith, nat_tests))
    ]
