use Rattle.vir_term.specs.Tree.{tree, exactly, at_most}
use Rattle.vir_simplify.proofs.Taking.{missed_rev, missed_loop, takes_first, takes_second, missed_first, missed_second}
use Rattle.vir_simplify.proofs.rewriting.+rewrite.Goals as goal

pub rewrite_within-returns-in-Err : goal.rewrite_within-returns-in-Err
rewrite_within-returns-in-Err t c =
    let why = rw (c.in-Err.is, c.deref.ensures) at c.in_ok-part-in-Rev.ensures in
    rw c.in-Rev.is (missed_rev c.args.equation c.args.place (tree c.in-Rev.part.value) c.in-Err.missed c.requires why)

pub rewrite_within-returns-in-Err-3 : goal.rewrite_within-returns-in-Err-3
rewrite_within-returns-in-Err-3 t c =
    let why = rw (c.in-Err-3.is, c.deref-in-Par.ensures, c.deref-in-Par-2.ensures) at c.in_ok-first-in-Par.ensures in
    rw c.in-Par.is why.1

pub rewrite_within-returns-in-Err-4 : goal.rewrite_within-returns-in-Err-4
rewrite_within-returns-in-Err-4 t c =
    let why = rw (c.in-Err-4.is, c.deref-in-Loop.ensures) at c.in_ok-body-in-Loop.ensures in
    rw c.in-Loop.is (missed_loop c.args.equation c.args.place (exactly c.in-Loop.k) (tree c.in-Loop.body.value)
    c.in-Err-4.missed c.requires why)

pub rewrite_within-returns-in-Err-5 : goal.rewrite_within-returns-in-Err-5
rewrite_within-returns-in-Err-5 t c =
    let why = rw (c.in-Err-5.is, c.deref-in-Until.ensures) at c.in_ok-body-in-Until.ensures in
    rw c.in-Until.is (missed_loop c.args.equation c.args.place (at_most c.in-Until.k) (tree c.in-Until.body.value)
    c.in-Err-5.missed c.requires why)

pub rewrite_two-returns-in-Err-Unfit : goal.rewrite_two-returns-in-Err-Unfit
rewrite_two-returns-in-Err-Unfit t c =
    let why = rw (c.in-Err-Unfit.is, c.in-Err-Unfit.field-0-is) at c.in_ok-new.ensures in
    missed_first c.args.equation c.args.place (tree c.args.first.now) (tree c.args.second.now) c.requires why

pub rewrite_two-returns-in_ok-new-in-Ok-2 : goal.rewrite_two-returns-in_ok-new-in-Ok-2
rewrite_two-returns-in_ok-new-in-Ok-2 t c =
    let takes = rw c.in-Ok.is at c.in_ok-new.ensures in
    rw (c.in_ok-new-in-Ok.ensures.ok, c.in_ok-new-in-Ok-2.ensures.ok, c.in_ok-second-in-Ok.ensures)
    (takes_first c.args.equation c.args.place (tree c.args.first.now) (tree c.args.second.now) (tree c.in-Ok.new)
    c.requires takes)

pub rewrite_two-returns-in_ok-new-in-Ok-2-3 : goal.rewrite_two-returns-in_ok-new-in-Ok-2-3
rewrite_two-returns-in_ok-new-in-Ok-2-3 t c =
    let at = rw (c.in-Err-Behind.is, c.in-Err-Behind.field-0-is) at c.in_ok-new.ensures in
    let takes = rw c.in-Ok-2.is at c.in_ok-new-in-Err-Behind.ensures in
    rw (c.in_ok-new-in-Ok-2-2.ensures.ok, c.in_ok-new-in-Ok-2-3.ensures.ok, c.in_ok-first-in-Ok-2.ensures)
    (takes_second c.args.equation c.args.place c.in-Err-Behind.place (tree c.args.first.now) (tree c.args.second.now)
    (tree c.in-Ok-2.new) c.requires at takes)

pub rewrite_two-returns-in-Err : goal.rewrite_two-returns-in-Err
rewrite_two-returns-in-Err t c =
    let at = rw (c.in-Err-Behind.is, c.in-Err-Behind.field-0-is) at c.in_ok-new.ensures in
    let why = rw c.in-Err.is at c.in_ok-new-in-Err-Behind.ensures in
    missed_second c.args.equation c.args.place c.in-Err-Behind.place (tree c.args.first.now) (tree c.args.second.now)
    c.in-Err.missed c.requires at why
