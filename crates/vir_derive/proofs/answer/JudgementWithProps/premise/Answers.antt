use Rattle.vir_rules.specs.Claims.{claim}
use Rattle.vir_derive.specs.Judged.{claim_of}
use Rattle.vir_derive.proofs.PremiseProps.{tree_of_some}
use Rattle.vir_derive.proofs.answer.JudgementWithProps.premise.Goals as goal

pub returns-clause-props : goal.returns-clause-props
returns-clause-props c =
    tree_of_some c.args.rule (claim_of c.args.self) c.args.i (claim c.in_ok-judgement.judgement) c.args.self.props.now
    c.tree_for-props.result.now c.in_ok-judgement.ensures c.tree_for-props.ensures c.requires
