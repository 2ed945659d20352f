use Rattle.std.proofs.Common.{◌≡◌, ◌∙◌, ◌<◌, ℕ, true, false, length, get_or, replicate, sym, ap, arith}
use Rattle.std.proofs.Math.ListN.{set as put, length-set}
use Rattle.vir_tables.proofs.Marked.{none_at_0, unmarked, all_marked, all_marked_at_end, marked_next, unmarked_next}
use Rattle.vir_tables.proofs.first_places.mark.Goals as goal

pub loop-turn-init : goal.loop-turn-init
loop-turn-init c =
    let none : c.fill.new.self ≡ replicate _ false = c.fill.ensures.after (λ y is. is) in
    let each = λ (y : ℕ). ap (λ l. get_or l y false) none ∙ unmarked _ y in
    record {
      size = c.fill.ensures.len ∙ c.requires.size;
      turns = omega arith;
      within = omega arith;
      passed = λ y low. each y ∙ sym (none_at_0 c.args.domain.now c.bounded.ensures y low);
      rest = λ y late. each y;
    }

pub returns-in-None-clause-marked : goal.returns-in-None-clause-marked
returns-in-None-clause-marked c =
    let here = c.loop-turn.invariant in
    all_marked c.args.domain.now c.loop-turn.marks c.loop-turn.last here.passed here.rest c.in-None.ensures.least

pub loop-turn-preserved : goal.loop-turn-preserved
loop-turn-preserved c =
    let here = c.loop-turn.invariant in
    let marks = c.loop-turn.marks in
    let x = c.in-Some.x in
    let next = c.in-Some.ensures.least in
    let above = next.above in
    let high = c.in-Some.ensures.within_limit in
    let turns = here.turns in
    let size = here.size in
    let within : x < length marks = omega arith in
    let same : c.from.result ≡ x = c.from.ensures in
    record {
      size = length-set marks _ _ ∙ size;
      turns = omega arith;
      within = high;
      passed = λ y low. ap (λ i. get_or (put marks i true) y false) same ∙ marked_next c.args.domain.now marks
          c.loop-turn.last here.passed here.rest x next within y low;
      rest = λ y late. ap (λ i. get_or (put marks i true) y false) same ∙ unmarked_next c.args.domain.now marks
          c.loop-turn.last here.passed here.rest x next within y late;
    }

pub returns-clause-marked : goal.returns-clause-marked
returns-clause-marked c =
    let here = c.loop-turn.invariant in
    let turns = here.turns in
    all_marked_at_end c.args.domain.now c.loop-turn.marks c.loop-turn.last here.passed here.rest c.bounded.ensures
    (omega arith)
