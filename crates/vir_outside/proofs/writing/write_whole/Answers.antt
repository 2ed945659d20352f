use Rattle.std.proofs.Common.{◌<◌, arith, length, rules}
use Rattle.std.proofs.lemmas.Grind.{common_steps}
use Rattle.vir_outside.proofs.Texts.{hands_one, leaves_more, leaves_some, written_more}
use Rattle.vir_outside.specs.Sink.{AppendsPrefix}
use Rattle.vir_outside.proofs.writing.write_whole.Goals as goal

pub loop-left-preserved : goal.loop-left-preserved
loop-left-preserved g c =
    let so_far = c.loop-left.invariant in
    record {
      later = omega arith;
      front = written_more c.args.text.now so_far.front.0 c.loop-left.left.now c.in_ok-count.count _ _ _
          so_far.front.1 so_far.front.2 c.in_ok-count.ensures.bytes;
      hands = leaves_more _ _ c.in_ok-count.count _ _ _ _ so_far.hands.0 so_far.hands.1 so_far.hands.2
          c.in_ok-count.ensures.asked (grind (arith, common_steps)) (grind (arith, common_steps));
      within = grind (arith, common_steps);
      no_text = λ empty. absurd (grind (arith, common_steps));
    }

pub returns-in_err-count-clause-writes : goal.returns-in_err-count-clause-writes
returns-in_err-count-clause-writes g c =
    let so_far = c.loop-left.invariant in
    let more : 0 < length c.loop-left.left.now = grind (arith, common_steps) in
    let prefix : AppendsPrefix (g.W.Sink.seen c.args.sink.now).written (g.W.Sink.seen c.write.new.self).written
    c.args.text.now = (so_far.front.0, c.loop-left.left.now, so_far.front.1, more, search rules) in
    record {
      later = omega arith;
      handed = hands_one _ _ 0 _ _ _ so_far.hands.0 so_far.hands.1 so_far.hands.2 c.in_err-count.ensures.asked
          (grind (arith, common_steps));
      whole = search rules;
      failed = search rules;
    }

pub returns-clause-writes : goal.returns-clause-writes
returns-clause-writes g c =
    let so_far = c.loop-left.invariant in
    record {
      later = so_far.later;
      handed = (so_far.hands.0, so_far.hands.1, leaves_some _ _ so_far.hands.0 so_far.hands.2);
      whole = grind (arith, common_steps);
      failed = tt;
    }
