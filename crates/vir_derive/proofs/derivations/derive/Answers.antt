use Rattle.vir_rules.specs.Claims.{claim}
use Rattle.vir_derive.proofs.Answering.{answer_decides}
use Rattle.vir_derive.proofs.derivations.derive.Goals as goal

pub returns-in-Disj-clause-derivable : goal.returns-in-Disj-clause-derivable
returns-in-Disj-clause-derivable c = answer_decides c.answer.result (claim c.args.judgement) c.answer.ensures
