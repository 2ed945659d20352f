use Rattle.std.proofs.Common.{◌≡◌, ◌<◌, inl, inr, ◌≤◌, length, sym, arith}
use Rattle.vir_rules.specs.Claims.{of}
use Rattle.vir_rules.specs.Forms.{form_seen}
use Rattle.vir_rules.specs.Premises.{letters_of, row_of}
use Rattle.vir_rules.specs.declared.rule_id.TheConstants.RuleId.{COUNT}
use Rattle.std.proofs.lemmas.Bool.{cases_lt}
use Rattle.vir_derive.specs.Ranges.{first_row, end_row, later_row, later_end}
use Rattle.vir_derive.proofs.RowRanges.{fails_before, fails_between, fails_behind, rows_end}
use Rattle.vir_derive.proofs.Closing.{need_asked_within}
use Rattle.vir_derive.proofs.Deriving.{underivable}
use Rattle.vir_derive.proofs.Rows.{rule_range}
use Rattle.vir_derive.proofs.Serving.{unfit_fails, need_fails, all_serve, need_more, rule_at, is_rule_at, fails_more}
use Rattle.vir_derive.proofs.Serving.{gone, not_derivable, disjointness_told}
use Rattle.vir_derive.proofs.Smaller.{need_below}
use Rattle.vir_derive.proofs.sight.Sight.+derives.Goals as goal

pub derives-loop-i-init : goal.derives-loop-i-init
derives-loop-i-init t c = λ numbers enough term seen w rule l.
    (let first : c.rows_of-first.result.0 ≡ first_row c.args.prop = c.rows_of-first.ensures.first in
    fails_before rule c.args.prop term (omega (arith, first, l)))

pub derives-serves-requires : goal.derives-serves-requires
derives-serves-requires t c =
    (let ends = rows_end c.args.prop in
    let end : c.rows_of-first.result.1 ≡ end_row c.args.prop = c.rows_of-first.ensures.end in
    let below : c.loop-i.i < COUNT = omega (arith, ends.between, ends.later, ends.last, end, c.loop-i-test.true) in
    (omega arith, is_rule_at c.loop-i.i c.in-Some.rule below c.in-Some.ensures))

pub derives-loop-i-preserved : goal.derives-loop-i-preserved
derives-loop-i-preserved t c = λ numbers enough term seen w.
    fails_more c.loop-i.i c.in-Some.rule (of c.args.prop term) (rule_at c.loop-i.i c.in-Some.rule c.in-Some.ensures)
    (c.loop-i.invariant numbers enough term seen w) (c.if-serves.ensures numbers enough term seen w)

pub derives-loop-j-init : goal.derives-loop-j-init
derives-loop-j-init t c = λ numbers enough term seen w rule l.
    (let end : c.rows_of-first.result.1 ≡ end_row c.args.prop = c.rows_of-first.ensures.end in
    let later : c.later_rows_of-first.result.0 ≡ later_row c.args.prop = c.later_rows_of-first.ensures.first in
    elim (cases_lt c.loop-i.i rule) [
      | inl behind ↦ fails_between rule c.args.prop term (omega (arith, end, behind, c.loop-i-test.false))
          (omega (arith, later, l))
      | inr so_far ↦ c.loop-i.invariant numbers enough term seen w rule so_far
    ])

pub derives-serves-requires-in-loop-j : goal.derives-serves-requires-in-loop-j
derives-serves-requires-in-loop-j t c =
    (let ends = rows_end c.args.prop in
    let end : c.later_rows_of-first.result.1 ≡ later_end c.args.prop = c.later_rows_of-first.ensures.end in
    let below : c.loop-j.j < COUNT = omega (arith, ends.last, end, c.loop-j-test.true) in
    (omega arith, is_rule_at c.loop-j.j c.in-Some-at.rule below c.in-Some-at.ensures))

pub derives-loop-j-preserved : goal.derives-loop-j-preserved
derives-loop-j-preserved t c = λ numbers enough term seen w.
    fails_more c.loop-j.j c.in-Some-at.rule (of c.args.prop term) (rule_at c.loop-j.j c.in-Some-at.rule
    c.in-Some-at.ensures) (c.loop-j.invariant numbers enough term seen w) (c.if-serves-2.ensures numbers enough term
    seen w)

pub derives-returns : goal.derives-returns
derives-returns t c = λ numbers enough term seen w. (
  (λ h. cc),
  (λ d. absurd (underivable (of c.args.prop term) (λ rule l.
      (let end : c.later_rows_of-first.result.1 ≡ later_end c.args.prop = c.later_rows_of-first.ensures.end in
      elim (cases_lt c.loop-j.j rule) [
        | inl behind ↦ fails_behind rule c.args.prop term l (omega (arith, end, behind, c.loop-j-test.false))
        | inr so_far ↦ c.loop-j.invariant numbers enough term seen w rule so_far
      ])) d)),
)

pub derives_need-returns-in-Disj : goal.derives_need-returns-in-Disj
derives_need-returns-in-Disj t c = λ numbers enough term seen w.
    disjointness_told numbers c.args.self.now term seen c.args.k c.args.need c.in-Disj.field-0 c.in-Disj.field-1
    c.in-Disj.is c.requires

pub serves-returns-in_default : goal.serves-returns-in_default
serves-returns-in_default t c = λ numbers enough term seen w. unfit_fails numbers c.args.self.now term seen c.args.rule
    c.requires c.args.prop c.in_default.ensures

pub serves-unreachable-requires : goal.serves-unreachable-requires
serves-unreachable-requires t c = gone (row_of c.args.rule).premises c.loop-i.i c.in_default-need_at.ensures
    (omega arith)

pub serves-derives_need-requires : goal.serves-derives_need-requires
serves-derives_need-requires t c =
    let range = rule_range c.args.rule c.requires in
    let below = need_below c.args.rule c.args.prop (form_seen c.args.self.now.form) c.in-Some.k c.loop-i.i
    c.in-Some-need_at.need range.0 range.1 (sym c.in-Some.ensures) (sym c.in-Some-need_at.ensures) in
    (omega (arith, below.before), below.told)

pub serves-returns-then-not-derives_need : goal.serves-returns-then-not-derives_need
serves-returns-then-not-derives_need t c = λ numbers enough term seen w.
    let range = rule_range c.args.rule c.requires in
    let asked = need_asked_within numbers enough.0 enough.1 c.args.rule c.args.prop (form_seen c.args.self.now.form)
    c.in-Some.k c.loop-i.i c.in-Some-need_at.need range.0 range.1 (sym c.in-Some.ensures)
    (sym c.in-Some-need_at.ensures) w in
    need_fails numbers c.args.self.now term seen c.args.rule c.requires c.args.prop c.in-Some.k c.loop-i.i
    c.in-Some-need_at.need c.in-Some.ensures c.in-Some-need_at.ensures
    (not_derivable (c.derives_need.ensures numbers enough term seen asked) c.if-not-derives_need.true)

pub serves-loop-i-preserved : goal.serves-loop-i-preserved
serves-loop-i-preserved t c = (
  c.loop-i.invariant.0,
  (λ numbers enough term seen w.
      (let range = rule_range c.args.rule c.requires in
      let asked = need_asked_within numbers enough.0 enough.1 c.args.rule c.args.prop (form_seen c.args.self.now.form)
      c.in-Some.k c.loop-i.i c.in-Some-need_at.need range.0 range.1 (sym c.in-Some.ensures)
      (sym c.in-Some-need_at.ensures) w in
      need_more (letters_of term c.in-Some.k) (row_of c.args.rule).premises c.loop-i.i c.in-Some-need_at.need
      c.in-Some-need_at.ensures (c.loop-i.invariant.1 numbers enough term seen w)
      ((c.derives_need.ensures numbers enough term seen asked).0 c.if-not-derives_need.false))),
)

pub serves-returns : goal.serves-returns
serves-returns t c = λ numbers enough term seen w.
    let l : length (row_of c.args.rule).premises ≤ c.loop-i.i = omega (arith, c.loop-i.invariant.0) in
    all_serve numbers c.args.self.now term seen c.args.rule c.requires c.args.prop c.in-Some.k c.loop-i.i
    c.in-Some.ensures l (c.loop-i.invariant.1 numbers enough term seen w)
