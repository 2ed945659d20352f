use Rattle.vir_batch.proofs.TurnLemmas.{performs_counted, performs_uncounted}
use Rattle.vir_batch.proofs.batches.add_profile.Goals as goal
use Rattle.vir_term.specs.Tree.{tree}

pub returns-in-Ok-clause-performs : goal.returns-in-Ok-clause-performs
returns-in-Ok-clause-performs g c = λ place.
    performs_counted (tree c.args.compiled.now.rule.now) c.args.name.now c.args.lines.now c.add_said.new.lines
    g.S.Shelf.seen c.args.shelf.now c.profile_or_fault.new.shelf _ place _ c.in-Ok.said c.add_said.result
    (c.in-Ok.ensures.performs place _) c.add_said.ensures.works

pub returns-in-Err-clause-performs : goal.returns-in-Err-clause-performs
returns-in-Err-clause-performs g c = λ place.
    performs_uncounted (tree c.args.compiled.now.rule.now) c.args.name.now c.args.lines.now c.args.lines.now
    g.S.Shelf.seen c.args.shelf.now c.profile_or_fault.new.shelf _ place c.in-Err.stop
    (c.in-Err.ensures.performs place _)
