use Rattle.std.proofs.Common.{◌∙◌, sym, ap, arith}
use Rattle.vir_altset.specs.Sets.{limit}
use Rattle.vir_tables.specs.Marks.{is_marked}
use Rattle.vir_tables.proofs.Cells.{eq_itself}
use Rattle.vir_tables.proofs.FirstPlaces.{begins_with-filter, found_within, is_at, number_of-put}
use Rattle.vir_tables.proofs.first_places.add_first.Goals as goal

pub overflow_sub-weights : goal.overflow_sub-weights
overflow_sub-weights c =
    let x_in = found_within limit (is_marked c.args.marks.now) c.args.order.now c.in-Some.x c.requires.listed
    (sym c.first_marked.ensures ∙ c.in-Some.is) in
    let low = x_in.low in
    omega arith

pub bounds-weights-from : goal.bounds-weights-from
bounds-weights-from c =
    let x_in = found_within limit (is_marked c.args.marks.now) c.args.order.now c.in-Some.x c.requires.listed
    (sym c.first_marked.ensures ∙ c.in-Some.is) in
    let low = x_in.low in
    let high = x_in.high in
    omega arith

pub bounds-weights-from-in-Some : goal.bounds-weights-from-in-Some
bounds-weights-from-in-Some c =
    let x_in = found_within limit (is_marked c.args.marks.now) c.args.order.now c.in-Some.x c.requires.listed
    (sym c.first_marked.ensures ∙ c.in-Some.is) in
    let low = x_in.low in
    let high = x_in.high in
    omega arith

pub overflow_add-weights : goal.overflow_add-weights
overflow_add-weights c =
    let found = sym c.first_marked.ensures ∙ c.in-Some.is in
    let x_in = found_within limit (is_marked c.args.marks.now) c.args.order.now c.in-Some.x c.requires.listed found in
    let begins = begins_with-filter (is_marked c.args.marks.now) c.in-Some.x c.args.order.now ∙ ap (is_at c.in-Some.x)
    found ∙ eq_itself c.in-Some.x in
    let room = c.requires.room c.in-Some.x x_in.low x_in.high begins in
    rw c.from.ensures (omega arith)

pub returns-in-Some-clause-added : goal.returns-in-Some-clause-added
returns-in-Some-clause-added c y low high =
    let found = sym c.first_marked.ensures ∙ c.in-Some.is in
    let x_in = found_within limit (is_marked c.args.marks.now) c.args.order.now c.in-Some.x c.requires.listed found in
    let begins = begins_with-filter (is_marked c.args.marks.now) y c.args.order.now ∙ ap (is_at y) found in
    rw (c.from.ensures, begins) (number_of-put c.args.weights.now c.in-Some.x y c.args.weight c.requires.size x_in.low
    x_in.high low)

pub returns-in_default-clause-added : goal.returns-in_default-clause-added
returns-in_default-clause-added c y low high =
    let begins = begins_with-filter (is_marked c.args.marks.now) y c.args.order.now
    ∙ ap (is_at y) (sym c.first_marked.ensures ∙ c.in_default.is) in
    rw begins (omega arith)
