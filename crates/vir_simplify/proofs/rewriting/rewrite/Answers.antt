use Rattle.vir_term.specs.Tree.{tree}
use Rattle.vir_simplify.proofs.Taking.{missed_whole}
use Rattle.vir_simplify.proofs.rewriting.rewrite.Goals as goal

pub returns-in-None : goal.returns-in-None
returns-in-None c = missed_whole c.args.equation (tree c.args.term.now) c.in-None.ensures
