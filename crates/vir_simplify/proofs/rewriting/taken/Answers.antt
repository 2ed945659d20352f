use Rattle.vir_term.specs.Tree.{tree}
use Rattle.vir_simplify.proofs.Taking.{missed_none}
use Rattle.vir_simplify.proofs.rewriting.taken.Goals as goal

pub returns-in-Err : goal.returns-in-Err
returns-in-Err c other takes within =
    let why = rw c.in-Err.is at c.in_ok-new.ensures in
    missed_none c.args.step.equation c.args.step.place (tree c.args.term.now) other c.in-Err.field-0 why takes
