use Rattle.std.proofs.Common.{◌≡◌, ◌+◌, ◌-◌, ◌≤◌, ◌∙◌, ap, arith, drop, length, take}
use Rattle.std.proofs.Math.Nat.{min-le_left, mul-le-mul_right}
use Rattle.std.proofs.lemmas.List.{length-take}
use Rattle.vir_profile.specs.Orders.{puts_before}
use Rattle.vir_profile.specs.Profiles.{pairwise_weight}
use Rattle.vir_tables.proofs.Lines.{weight_where_le_total}
use Rattle.vir_tables.proofs.Places.{weight_of_block}
use Rattle.vir_tables.proofs.table.fill_by_blocks.Goals as goal

pub fill_block-requires-clause-enough : goal.fill_block-requires-clause-enough
fill_block-requires-clause-enough c =
    let s = c.loop-start.start in
    let k = s + c.min.result - s in
    let lines = c.args.lines.now in
    let few : length (take k (drop s lines)) ≤ 128
    = let size = length-take k (drop s lines) in let least = min-le_left k (length (drop s lines)) in
    let block = c.min.ensures in omega arith in
    let most = mul-le-mul_right c.args.m few in
    let places = c.loop-start.invariant.places in
    let enough = c.requires.enough in
    omega arith

pub fill_block-requires-clause-room : goal.fill_block-requires-clause-room
fill_block-requires-clause-room c a b ha hb below =
    let lines = c.args.lines.now in
    let s = c.loop-start.start in
    let k : s + c.min.result - s ≡ c.min.result = omega arith in
    let part = ap (λ n. pairwise_weight (take n (drop s lines)) a b) k in
    omega (
      arith,
      part,
      weight_of_block (puts_before a b) lines s c.min.result,
      c.loop-start.invariant.cells a b ha hb below,
      weight_where_le_total (puts_before a b) lines,
      c.requires.known.weights,
    )

pub loop-start-preserved : goal.loop-start-preserved
loop-start-preserved c =
    let lines = c.args.lines.now in
    let s = c.loop-start.start in
    let k : s + c.min.result - s ≡ c.min.result = omega arith in
    record {
      start = omega arith;
      size = c.fill_block.ensures.size;
      places = c.fill_block.ensures.places ∙ c.loop-start.invariant.places;
      cells = λ a b ha hb below.
          let part = ap (λ n. pairwise_weight (take n (drop s lines)) a b) k in
          omega (
            arith,
            part,
            weight_of_block (puts_before a b) lines s c.min.result,
            c.loop-start.invariant.cells a b ha hb below,
            c.fill_block.ensures.added.at a b ha hb below,
          );
    }
