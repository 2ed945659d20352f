use Rattle.std.proofs.Common.{◌<◌, ℕ, ◌*◌, ◌∙◌, length, get_or, sym, ap, ap₂, arith}
use Rattle.std.proofs.Math.ListN.{length-set}
use Rattle.vir_tables.specs.Marks.{is_marked}
use Rattle.vir_positional.proofs.GainLemmas.{gained_more, gained_same}
use Rattle.vir_positional.proofs.sums.add_line.Goals as goal
use Rattle.vir_positional.proofs.sums.add_line.Goals.{then-marks-from, else-marks-from}

pub loop-i-preserved : goal.loop-i-preserved
loop-i-preserved c =
    let m = is_marked c.args.marks.now in
    let gain = λ (i : ℕ). c.args.voters * get_or c.args.weights.now i 0 in
    let order = c.args.order.now in
    let i = c.loop-i.i in
    let within : i < length order = omega arith in
    let inside = c.requires.listed.each i within in
    let low = inside.low in
    let high = inside.high in
    elim c.if-marks-from.branch [
      | then-marks-from w ↦
          let place_is = w.place-is in
          let here = w.from-then-marks-from-3.ensures in
          record {
            size = ap length w.sums-is ∙ length-set c.loop-i.sums _ _ ∙ c.loop-i.invariant.size;
            few = omega arith;
            sums = λ x member low high. gained_more m gain order c.loop-i.sums c.loop-i.place i
                w.from-then-marks-from-3.result x _ within here c.if-marks-from.sums c.if-marks-from.place _
                (ap m here ∙ ap m (sym c.from.ensures) ∙ w.if-marks-from.true) c.loop-i.invariant.size (omega arith)
                (omega arith) low
                (ap₂ (λ v k. v * k) w.from-then-marks-from.ensures w.from-then-marks-from-2.ensures) w.place-is
                w.sums-is
                (c.loop-i.invariant.sums x member low high);
          }
      | else-marks-from w ↦
          let place_is = w.place-is in
          record {
            size = ap length w.sums-is ∙ c.loop-i.invariant.size;
            few = omega arith;
            sums = λ x member low high. gained_same m gain order c.loop-i.sums c.loop-i.place i (get_or order i 0) x _
                within (λ j. get_or order i 0) c.if-marks-from.sums c.if-marks-from.place
                (ap m (sym c.from.ensures) ∙ w.if-marks-from.false) w.sums-is w.place-is
                (c.loop-i.invariant.sums x member low high);
          }
    ]
