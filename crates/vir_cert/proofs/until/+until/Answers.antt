use Rattle.std.proofs.Common.{◌+◌, ◌≤◌, drop, ap, sym, ◌∙◌, arith}
use Rattle.vir_read.specs.RawTrees.{gathered, listed, raw_tree}
use Rattle.vir_cert.specs.Untils.{until_in, or_else}
use Rattle.vir_cert.proofs.PartLemmas.{heft, hefts, heft_at, until_in_at}
use Rattle.vir_cert.proofs.until.+until.Goals as goal

pub until_in-until_at-requires : goal.until_in-until_at-requires
until_in-until_at-requires t c =
    let below : heft (raw_tree c.in-Some.part.now) ≤ hefts (gathered (listed c.args.parts.now)) =
    heft_at (listed c.args.parts.now) c.loop-i.i (raw_tree c.in-Some.part.now) (rw c.in-Some.is at c.at.ensures) in
    (omega arith, tt)

pub until_in-loop-i-preserved : goal.until_in-loop-i-preserved
until_in-loop-i-preserved t c =
    let raws = listed c.args.parts.now in
    let text = c.args.text.now in
    ap (λ found. or_else found (until_in text (gathered (drop (c.loop-i.i + 1) raws)))) c.in_default-until_at.ensures
    ∙ sym (until_in_at text raws c.loop-i.i (raw_tree c.in-Some.part.now) (rw c.in-Some.is at c.at.ensures))
    ∙ c.loop-i.invariant

pub until_in-returns-in-Some-until_at : goal.until_in-returns-in-Some-until_at
until_in-returns-in-Some-until_at t c =
    let raws = listed c.args.parts.now in
    let text = c.args.text.now in
    ap (λ found. or_else found (until_in text (gathered (drop (c.loop-i.i + 1) raws)))) c.in-Some-until_at.ensures
    ∙ sym (until_in_at text raws c.loop-i.i (raw_tree c.in-Some.part.now) (rw c.in-Some.is at c.at.ensures))
    ∙ c.loop-i.invariant
