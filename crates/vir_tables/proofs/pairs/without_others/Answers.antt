use Rattle.std.proofs.Common.{ap, sym, ◌∙◌}
use Rattle.std.specs.List.{find}
use Rattle.vir_tables.specs.Pairs.{is_one_of}
use Rattle.vir_tables.proofs.FirstOfTwo.{find-behind}
use Rattle.vir_tables.proofs.pairs.without_others.Goals as goal

pub loop-rest-preserved : goal.loop-rest-preserved
loop-rest-preserved c =
    let t = is_one_of c.args.x c.args.y in
    sym (ap (find t) c.split_at.ensures.by_index.0
    ∙ find-behind t c.split_at.result.0.now c.split_at.result.1.now (sym c.if-has_one_of.ensures))
    ∙ c.loop-rest.invariant
