use Rattle.std.proofs.Common.{◌≡◌, ◌++◌, decimal, ◌∙◌}
use Rattle.vir_top.proofs.delivery.write_placed.Goals as goal

pub returns : goal.returns
returns g c =
    let old = g.E.Sink.seen c.args.err.now in
    let what = c.args.what.now in
    let kind = c.as_bytes.result.now in
    let unit = c.args.unit.now in
    let digits = c.as_bytes-2.result.now in
    let same_kind : kind ≡ c.args.kind.now = c.as_bytes.ensures.value in
    let same_digits : digits ≡ decimal c.args.place = c.as_bytes-2.ensures.value ∙ c.format.ensures.text in
    let two = c.and_write-written.ensures old what c.write_whole-written.ensures.writes in
    let three = c.and_write-written-2.ensures old (what ++ kind) two in
    let four = c.and_write-written-3.ensures old (what ++ kind ++ unit) three in
    rw (same_kind, same_digits) at (c.and_write.ensures old (what ++ kind ++ unit ++ digits) four)
