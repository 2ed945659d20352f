use Rattle.std.proofs.Common.{refl}
use Rattle.std.proofs.lemmas.List.{drop_all}
use Rattle.vir_term.specs.Tree.{tree}
use Rattle.vir_simplify.proofs.StepLaws.{replays_means}
use Rattle.vir_simplify.proofs.replaying.replay.Goals as goal

pub returns-clause-meaning : goal.returns-clause-meaning
returns-clause-meaning c =
    let none = drop_all c.loop-step.step-index c.args.steps.now c.loop-step-test.false in
    replays_means c.args.steps.now (tree c.args.term.now) (tree c.loop-step.current)
    (c.loop-step.invariant.on (tree c.loop-step.current) (rw none refl))
