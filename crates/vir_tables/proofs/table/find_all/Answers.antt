use Rattle.std.proofs.Common.{◌+◌, ◌-◌, ◌*◌, ◌<◌, arith, get_or, length, subst, ℕ}
use Rattle.std.proofs.Math.Nat.{mul-le-mul_right}
use Rattle.vir_tables.specs.Places.{HasPlace}
use Rattle.vir_tables.proofs.Places.{as_long, has_place, listing_here, places_more}
use Rattle.vir_tables.proofs.RankedPairs.{listed_alternatives}
use Rattle.vir_tables.proofs.table.find_all.Goals as goal

pub find_places-requires-clause-listed : goal.find_places-requires-clause-listed
find_places-requires-clause-listed c =
    let m = c.args.m in
    let n = length c.args.lines.now in
    let lists = listing_here m c.args.lines.now c.loop-l.l c.index-lines-l.result c.requires.known (omega arith)
    c.index-lines-l.is in
    let each = listed_alternatives m c.index-lines-l.result.order lists in
    let size = c.requires.size in
    let long = c.loop-l.auto.places in
    rw c.alternatives.ensures (record {
      low = λ i h. let r = each.each i h in r.low;
      high = λ i h. let r = each.each i h in let most = mul-le-mul_right n r.high in omega arith;
    })

pub find_places-requires-clause-short : goal.find_places-requires-clause-short
find_places-requires-clause-short c =
    let lists = listing_here c.args.m c.args.lines.now c.loop-l.l c.index-lines-l.result c.requires.known (omega arith)
    c.index-lines-l.is in
    let long = as_long c.args.m c.index-lines-l.result.order lists in
    let fits = c.ranges.m.fits in
    rw c.alternatives.ensures (omega arith)

pub loop-l-preserved : goal.loop-l-preserved
loop-l-preserved c =
    let m = c.args.m in
    let n = length c.args.lines.now in
    let line = c.index-lines-l.result in
    let lists = listing_here m c.args.lines.now c.loop-l.l line c.requires.known (omega arith) c.index-lines-l.is in
    places_more m n c.loop-l.l c.loop-l.places c.find_places.new.places c.args.lines.now line (omega arith)
    c.index-lines-l.is (omega arith) c.loop-l.invariant
    (λ x hx. has_place m x n c.loop-l.l line.order c.find_places.new.places lists hx
    (subst (λ o. (k : ℕ) → k < length o
    → HasPlace o c.find_places.new.places ((get_or o k 0 - 1) * n + c.loop-l.l) (get_or o k 0))
    c.alternatives.ensures c.find_places.ensures.found))
    c.find_places.ensures.others
