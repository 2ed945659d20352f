use Rattle.std.proofs.Common.{◌≡◌, ◌≢◌, IfOk, true≢false, sym, ap, subst, ◌∙◌, arith}
use Rattle.std.specs.FinSet as set
use Rattle.vir_altset.specs.declared.split.Split.{Split}
use Rattle.vir_profile.specs.Profiles.{restrict}
use Rattle.vir_term.specs.Tree.{tree}
use Rattle.vir_mean.specs.Compositions.{IsEnd, joined, loop_of}
use Rattle.vir_mean.specs.Endings.{end_of}
use Rattle.vir_mean.specs.Meaning.{mean}
use Rattle.vir_mean.proofs.LoopLaws.{joined-all_deferred, split_of_all_deferred, loop_of-few, loop_of-none}
use Rattle.vir_mean.proofs.LoopLaws.{loop_of-whole, loop_of-more, len-deferred, joined-turn}
use Rattle.vir_mean.proofs.MeaningLaws.{mean-split}
use Rattle.vir_mean.proofs.plain.+mean.Goals as goal

pub loop_result-returns-then-ends_at : goal.loop_result-returns-then-ends_at
loop_result-returns-then-ends_at t c =
    let few : IsEnd (end_of c.args.ending) (set.len c.args.domain.now) = c.ends_at.ensures.0 c.if-ends_at.true in
    c.defer_all.ensures ∙ sym (loop_of-few (end_of c.args.ending) (mean (tree c.args.body.now)) c.args.domain.now
    c.args.lines.now few)

pub loop_result-returns-then-equals : goal.loop_result-returns-then-equals
loop_result-returns-then-equals t c =
    let body = tree c.args.body.now in
    let a = c.args.domain.now in
    let lines = c.args.lines.now in
    let is : c.in_ok-first.first ≡ mean body a lines = c.in_ok-first.ensures in
    let whole : (mean body a lines).deferred ≡ a = ap (λ (s : Split). s.deferred) (sym is)
    ∙ c.equals.ensures.0 c.if-equals.true in
    is ∙ split_of_all_deferred a (mean body a lines) lines (mean-split body a lines) whole
    ∙ sym (loop_of-whole (end_of c.args.ending) (mean body) (mean-split body) a lines whole)

pub loop_result-returns : goal.loop_result-returns
loop_result-returns t c =
    let body = tree c.args.body.now in
    let a = c.args.domain.now in
    let lines = c.args.lines.now in
    let is : c.in_ok-first.first ≡ mean body a lines = c.in_ok-first.ensures in
    let some : IsEnd (end_of c.args.ending) (set.len a) → ⊥ = λ e. true≢false (sym (c.ends_at.ensures.1 e)
    ∙ c.if-ends_at.false) in
    let other : (mean body a lines).deferred ≢ a = λ e.
    true≢false (sym (c.equals.ensures.1 (ap (λ (s : Split). s.deferred) is ∙ e)) ∙ c.if-equals.false) in
    let whole =
    ap (λ (s : Split). joined s (loop_of (end_of c.args.ending) (mean body) s.deferred (restrict s.deferred lines)))
    is ∙ sym (loop_of-more (end_of c.args.ending) (mean body) (mean-split body) a lines some other) in
    subst (λ (s : Split). IfOk c.further_turns.result (λ split. split ≡ s)) whole c.further_turns.ensures

pub further_turns-returns-then-ends_at : goal.further_turns-returns-then-ends_at
further_turns-returns-then-ends_at t c =
    let so_far = c.loop-turn.so_far in
    let left = restrict so_far.deferred c.args.lines.now in
    let few : IsEnd (end_of c.args.ending) (set.len so_far.deferred) = c.ends_at.ensures.0 c.if-ends_at.true in
    sym (joined-all_deferred so_far left)
    ∙ ap (joined so_far) (sym (loop_of-few (end_of c.args.ending) (mean (tree c.args.body.now)) so_far.deferred left
    few)) ∙ c.loop-turn.invariant.whole

pub further_turns-returns-then-equals : goal.further_turns-returns-then-equals
further_turns-returns-then-equals t c =
    let body = tree c.args.body.now in
    let so_far = c.loop-turn.so_far in
    let left = restrict so_far.deferred c.args.lines.now in
    let is : c.in_ok-next.next ≡ mean body so_far.deferred left = c.in_ok-next.ensures in
    let whole : (mean body so_far.deferred left).deferred ≡ so_far.deferred = ap (λ (s : Split). s.deferred) (sym is)
    ∙ c.equals.ensures.0 c.if-equals.true in
    sym (joined-all_deferred so_far left)
    ∙ ap (joined so_far) (sym (loop_of-whole (end_of c.args.ending) (mean body) (mean-split body) so_far.deferred
    left whole)) ∙ c.loop-turn.invariant.whole

pub further_turns-loop-turn-preserved : goal.further_turns-loop-turn-preserved
further_turns-loop-turn-preserved t c =
    let body = tree c.args.body.now in
    let so_far = c.loop-turn.so_far in
    let next = c.in_ok-next.next in
    let lines = c.args.lines.now in
    let left = restrict so_far.deferred lines in
    let is : next ≡ mean body so_far.deferred left = c.in_ok-next.ensures in
    let some : IsEnd (end_of c.args.ending) (set.len so_far.deferred) → ⊥ = λ e. true≢false (sym (c.ends_at.ensures.1 e)
    ∙ c.if-ends_at.false) in
    let other : next.deferred ≢ so_far.deferred = λ e. true≢false (sym (c.equals.ensures.1 e) ∙ c.if-equals.false) in
    let further : c.join_in_sequence-so_far.result ≡ joined so_far next = c.join_in_sequence-so_far.ensures in
    let smaller = len-deferred (end_of c.args.ending) (mean body) (mean-split body) so_far.deferred left
    (λ e. other (ap (λ (s : Split). s.deferred) is ∙ e)) in
    let less : set.len c.join_in_sequence-so_far.result.deferred ≡ set.len (mean body so_far.deferred left).deferred =
    ap (λ (s : Split). set.len s.deferred) further ∙ ap (λ (s : Split). set.len s.deferred) is in
    record {
      whole =
          ap (λ (s : Split). joined s (loop_of (end_of c.args.ending) (mean body) s.deferred
          (restrict s.deferred lines))) further
          ∙ joined-turn (end_of c.args.ending) (mean body) (mean-split body) so_far next lines is some other
          ∙ c.loop-turn.invariant.whole;
      fewer = let before = c.loop-turn.invariant.fewer in omega arith;
    }

pub further_turns-returns : goal.further_turns-returns
further_turns-returns t c =
    let so_far = c.loop-turn.so_far in
    let left = restrict so_far.deferred c.args.lines.now in
    let none : set.len so_far.deferred ≡ 0 = let fewer = c.loop-turn.invariant.fewer in omega arith in
    sym (joined-all_deferred so_far left)
    ∙ ap (joined so_far) (sym (loop_of-none (end_of c.args.ending) (mean (tree c.args.body.now)) so_far.deferred
    left none)) ∙ c.loop-turn.invariant.whole
