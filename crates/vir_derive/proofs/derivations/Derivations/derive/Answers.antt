use Rattle.vir_term.specs.Tree.{tree}
use Rattle.vir_rules.specs.Claims.{of}
use Rattle.vir_derive.proofs.Answering.{answer_decides}
use Rattle.vir_derive.proofs.Deciding.{settled_tree}
use Rattle.vir_derive.proofs.derivations.Derivations.derive.Goals as goal

pub answer-requires : goal.answer-requires
answer-requires c = settled_tree c.args.self.now.props (tree c.args.self.now.term.now) c.args.self.now.its_props

pub returns-clause-derivable : goal.returns-clause-derivable
returns-clause-derivable c = answer_decides c.answer.result (of c.args.prop (tree c.args.self.now.term.now))
    c.answer.ensures
