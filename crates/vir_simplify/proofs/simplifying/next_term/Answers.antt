use Rattle.vir_term.specs.Tree.{tree}
use Rattle.vir_simplify.proofs.Simplifications.{next_takes}
use Rattle.vir_simplify.proofs.Taking.{missed_none}
use Rattle.vir_simplify.proofs.simplifying.next_term.Goals as goal

pub unreachable-requires : goal.unreachable-requires
unreachable-requires c =
    let why = rw c.in-Err.is at c.in_ok-new.ensures in
    let taken = next_takes (tree c.args.term.now) c.args.step c.requires in
    missed_none c.args.step.equation c.args.step.place (tree c.args.term.now) taken.0 c.in-Err.field-0 why taken.1
