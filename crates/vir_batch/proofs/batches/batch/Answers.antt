use Rattle.std.proofs.Common.{sym, ap}
use Rattle.std.proofs.lemmas.Result.{err_from_is_err_and}
use Rattle.vir_batch.proofs.BatchLemmas.{batch_served, batch_unserved, batch_wanting}
use Rattle.vir_batch.proofs.batches.batch.Goals as goal
use Rattle.vir_term.specs.Tree.{tree}

pub returns-in_err-of : goal.returns-in_err-of
returns-in_err-of g c =
    let p = err_from_is_err_and c.from_residual.result c.from_residual.ensures.1 in
    rw (p.1, p.2) (batch_wanting (tree c.args.rule.now) c.args.names.now g.S.Shelf.seen _ _)

pub returns-in-Some : goal.returns-in-Some
returns-in-Some g c =
    batch_unserved (tree c.args.rule.now) c.args.names.now g.S.Shelf.seen _ _ c.in-Some.leaf.now c.in_ok-of.field-0
    (sym c.in-Some.ensures.first) c.in_ok-of.ensures

pub returns-in_err-compiled : goal.returns-in_err-compiled
returns-in_err-compiled g c =
    let p =
    err_from_is_err_and c.from_residual-in_err-compiled.result c.from_residual-in_err-compiled.ensures.1 in
    rw (p.1, p.2) (batch_wanting (tree c.args.rule.now) c.args.names.now g.S.Shelf.seen _ _)

pub returns : goal.returns
returns g c =
    batch_served (tree c.args.rule.now) c.args.names.now g.S.Shelf.seen _ _ _ _ (tree
    c.in_ok-compiled.compiled.rule.now) _
    (sym c.in_default.ensures.first) (ap tree c.in_ok-compiled.ensures) c.text_of_all.ensures
