use Rattle.std.proofs.Common.{◌≡◌, true, arith}
use Rattle.vir_words.specs.WordNumbers.{is_number}
use Rattle.vir_words.proofs.WordLemmas.{number_inside, number_unread}
use Rattle.vir_words.proofs.word_number.word_number.Goals as goal

pub returns-then-number-high-clause-number : goal.returns-then-number-high-clause-number
returns-then-number-high-clause-number c =
    let is : is_number c.args.word.now ≡ true = grind arith in
    number_inside c.args.low c.args.high c.args.word.now c.in-Ok.number is c.in-Ok.ensures.value.0.1 (omega arith)
    (omega arith)

pub returns-in_default-clause-number : goal.returns-in_default-clause-number
returns-in_default-clause-number c =
    let is : is_number c.args.word.now ≡ true = grind arith in
    number_unread c.args.low c.args.high c.args.word.now (omega arith) is c.in_default.ensures.value.0
