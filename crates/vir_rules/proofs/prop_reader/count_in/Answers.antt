use Rattle.std.proofs.Common.{◌≡◌, decimal, sym, ◌∙◌, ap, subst}
use Rattle.std.specs.Cmp.Lexicographic.{other_text}
use Rattle.vir_term.specs.Limits.{IsCount}
use Rattle.vir_rules.proofs.PropTexts.{utf8_decimal, parses_decimal, ok_same}
use Rattle.vir_rules.proofs.prop_reader.count_in.Goals as goal

pub returns-in_default : goal.returns-in_default
returns-in_default c = λ k is same. c.in_default.ensures.cases.0 (utf8_decimal k c.args.digits.now is same)

pub returns-in_default-parse : goal.returns-in_default-parse
returns-in_default-parse c = λ k is same.
    c.in_default-parse.not-Ok k (parses_decimal k c.in-Ok.word.now c.parse.result is
    (same ∙ sym c.in-Ok.ensures.cases.0) c.parse.ensures.value.0)

pub returns-then-not-is_count : goal.returns-then-not-is_count
returns-then-not-is_count c = λ k is same.
    let read = parses_decimal k c.in-Ok.word.now c.parse.result is (same ∙ sym c.in-Ok.ensures.cases.0)
    c.parse.ensures.value.0 in
    let e : k ≡ c.in-Ok-parse.k = sym (ok_same c.in-Ok-parse.k k (sym c.in-Ok-parse.is ∙ read)) in
    let bad = c.if-not-is_count.ensures.1 (subst IsCount e is) in
    absurd cc

pub returns-else-eq : goal.returns-else-eq
returns-else-eq c = λ k is same.
    let read = parses_decimal k c.in-Ok.word.now c.parse.result is (same ∙ sym c.in-Ok.ensures.cases.0)
    c.parse.ensures.value.0 in
    let e : c.in-Ok-parse.k ≡ k = ok_same c.in-Ok-parse.k k (sym c.in-Ok-parse.is ∙ read) in
    other_text c.as_bytes.result.now c.args.digits.now c.if-eq.ensures (c.as_bytes.ensures.value ∙ c.format.ensures.text
    ∙ ap decimal e ∙ same)
