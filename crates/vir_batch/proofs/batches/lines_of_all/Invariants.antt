use Rattle.vir_batch.proofs.BatchLemmas.{AreDone}
use Rattle.vir_batch.proofs.batches.lines_of_all.Given as goal
use Rattle.vir_machine.specs.Bench.{views}
use Rattle.vir_term.specs.Tree.{tree}

-- the first names are done
abbrev pub invariant-loop-i : goal.invariant-loop-i
invariant-loop-i g l =
    let seen = views (λ b. (g.dyn-1.0.entry b.vtable).1.kinds b.value)
    (λ b. (g.dyn-1.0.entry b.vtable).1.made b.value) in
    AreDone (tree l.fn.compiled.rule.now) l.names g.S.Shelf.seen l.fn.shelf l.shelf
    (record { counters = seen l.fn.bench.counters.items; runs = l.fn.bench.runs })
    (record { counters = seen l.bench.counters.items; runs = l.bench.runs }) l.i (tree l.compiled.rule.now) l.lines
