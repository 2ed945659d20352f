use Rattle.std.proofs.Common.{sym, ap, arith}
use Rattle.vir_batch.proofs.BatchLemmas.{all_done, none_done, one_done, served_still, some_name, stopped}
use Rattle.vir_batch.proofs.batches.lines_of_all.Goals as goal
use Rattle.vir_term.specs.Tree.{tree}

pub loop-i-init : goal.loop-i-init
loop-i-init g c =
    none_done _ _ g.S.Shelf.seen _ _ _ c.new-lines.ensures.text c.new-lines.ensures.profiles c.new-lines.ensures.refused

pub unreachable-requires : goal.unreachable-requires
unreachable-requires g c = some_name c.args.names.now c.loop-i.i (omega arith) c.in_default.ensures

pub add_profile-requires-clause-served : goal.add_profile-requires-clause-served
add_profile-requires-clause-served g c = served_still _ _ g.S.Shelf.seen _ _ _ _ _ _ _ c.loop-i.invariant c.requires

pub returns-in-Err : goal.returns-in-Err
returns-in-Err g c =
    stopped _ _ g.S.Shelf.seen _ _ _ _ _ _ _ c.loop-i.invariant c.in-Some.name.now (omega arith)
    (sym c.in-Some.ensures) _ _ _ c.in-Err.stop c.in-Err.ensures.performs

pub loop-i-preserved : goal.loop-i-preserved
loop-i-preserved g c =
    let fine = c.in_default-add_profile in
    one_done _ _ g.S.Shelf.seen _ _ _ _ _ _ _ c.loop-i.invariant c.in-Some.name.now (omega arith)
    (sym c.in-Some.ensures) _ _ _ fine.ensures.performs _ (ap tree c.add_profile.ensures.same) fine.ensures.served
    fine.ensures.more

pub returns : goal.returns
returns g c = all_done _ _ g.S.Shelf.seen _ _ _ _ _ _ _ c.loop-i.invariant (omega arith)
