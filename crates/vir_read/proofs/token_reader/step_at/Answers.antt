use Rattle.std.proofs.Common.{arith, ◌∙◌, ◌+◌, sym}
use Rattle.vir_read.specs.Tokens.{is_comment_byte, is_word_byte, is_digit}
use Rattle.vir_read.proofs.StepLemmas as step
use Rattle.vir_read.proofs.StepLemmas.{run-rest}
use Rattle.vir_read.proofs.token_reader.step_at.Goals as goal

pub returns-then-is_blank : goal.returns-then-is_blank
returns-then-is_blank c = step.blank c.args.text.now c.args.at 0 c.requires.at (sym c.is_blank.ensures
    ∙ c.if-is_blank.true)

pub overflow_add-result : goal.overflow_add-result
overflow_add-result c = let b = step.bounds c.args.text.now c.args.at 0 c.requires.at is_comment_byte
    c.comment_length.result (c.comment_length.ensures ∙ run-rest is_comment_byte (c.args.at + 1) c.args.text.now)
    in grind arith

pub returns-then-is_comment_sign : goal.returns-then-is_comment_sign
returns-then-is_comment_sign c = step.comment c.args.text.now c.args.at 0 c.requires.at c.comment_length.result
    (sym c.is_blank.ensures ∙ c.if-is_blank.false) (sym c.is_comment_sign.ensures ∙ c.if-is_comment_sign.true)
    (c.comment_length.ensures ∙ run-rest is_comment_byte (c.args.at + 1) c.args.text.now)

pub overflow_add-next-then-is_letter : goal.overflow_add-next-then-is_letter
overflow_add-next-then-is_letter c = let b = step.bounds c.args.text.now c.args.at 0 c.requires.at is_word_byte
    c.word_length.result (c.word_length.ensures ∙ run-rest is_word_byte (c.args.at + 1) c.args.text.now) in grind arith

pub returns-then-is_letter : goal.returns-then-is_letter
returns-then-is_letter c = rw (c.token_step.ensures.token, c.token_step.ensures.next)
    (step.word c.args.text.now c.args.at 0 c.requires.at c.word_length.result (sym c.is_blank.ensures
    ∙ c.if-is_blank.false) (sym c.is_comment_sign.ensures ∙ c.if-is_comment_sign.false) (sym c.is_letter.ensures
    ∙ c.if-is_letter.true) (c.word_length.ensures ∙ run-rest is_word_byte (c.args.at + 1) c.args.text.now))

pub overflow_add-next-then-is_digit : goal.overflow_add-next-then-is_digit
overflow_add-next-then-is_digit c = let b = step.bounds c.args.text.now c.args.at 0 c.requires.at is_digit
    c.number_length.result (c.number_length.ensures ∙ run-rest is_digit (c.args.at + 1) c.args.text.now) in grind arith

pub returns-then-is_digit : goal.returns-then-is_digit
returns-then-is_digit c = rw (c.token_step-then-is_digit.ensures.token, c.token_step-then-is_digit.ensures.next)
    (step.number c.args.text.now c.args.at 0 c.requires.at c.number_length.result
    (sym c.is_blank.ensures ∙ c.if-is_blank.false) (sym c.is_comment_sign.ensures ∙ c.if-is_comment_sign.false)
    (sym c.is_letter.ensures ∙ c.if-is_letter.false) (sym c.is_digit.ensures ∙ c.if-is_digit.true)
    (c.number_length.ensures ∙ run-rest is_digit (c.args.at + 1) c.args.text.now))

pub returns-then-is_sign : goal.returns-then-is_sign
returns-then-is_sign c = rw (c.token_step-then-is_sign.ensures.token, c.token_step-then-is_sign.ensures.next)
    (step.sign c.args.text.now c.args.at 0 c.requires.at (sym c.is_blank.ensures ∙ c.if-is_blank.false)
    (sym c.is_comment_sign.ensures ∙ c.if-is_comment_sign.false) (sym c.is_letter.ensures ∙ c.if-is_letter.false)
    (sym c.is_digit.ensures ∙ c.if-is_digit.false) (sym c.is_sign.ensures ∙ c.if-is_sign.true))

pub returns-else-is_sign : goal.returns-else-is_sign
returns-else-is_sign c = step.no_token c.args.text.now c.args.at 0 c.requires.at (sym c.is_blank.ensures
    ∙ c.if-is_blank.false) (sym c.is_comment_sign.ensures ∙ c.if-is_comment_sign.false) (sym c.is_letter.ensures
    ∙ c.if-is_letter.false) (sym c.is_digit.ensures ∙ c.if-is_digit.false) (sym c.is_sign.ensures ∙ c.if-is_sign.false)

pub token_step-requires-clause-end : goal.token_step-requires-clause-end
token_step-requires-clause-end c = let b = step.bounds c.args.text.now c.args.at 0 c.requires.at is_word_byte
    c.word_length.result (c.word_length.ensures ∙ run-rest is_word_byte (c.args.at + 1) c.args.text.now)
    in let short = c.requires.short in grind arith

pub token_step-requires-then-is_digit-clause-end : goal.token_step-requires-then-is_digit-clause-end
token_step-requires-then-is_digit-clause-end c = let b = step.bounds c.args.text.now c.args.at 0 c.requires.at is_digit
    c.number_length.result (c.number_length.ensures ∙ run-rest is_digit (c.args.at + 1) c.args.text.now)
    in let short = c.requires.short in grind arith
