use Rattle.std.proofs.Common.{◌≡◌, ◌+◌, sym, ◌∙◌, ap, subst, arith}
use Rattle.vir_rules.specs.Reasons.{AreReasonsBy, fitting, reasons_seen}
use Rattle.vir_rules.specs.declared.rule_id.TheConstants.RuleId.{COUNT}
use Rattle.vir_derive.specs.Judged.{claim_of}
use Rattle.vir_derive.proofs.Answering.{reasons_of_none, reasons_without, reasons_with, all_reasons}
use Rattle.vir_derive.proofs.Serving.{rule_at}
use Rattle.vir_derive.proofs.answer.JudgementWithProps.reasons.Goals as goal
use Rattle.vir_derive.proofs.answer.JudgementWithProps.reasons.Goals.{in-Some-reason+in_ok-push, in_default-reason}

pub loop-i-init : goal.loop-i-init
loop-i-init c = reasons_of_none (claim_of c.args.self) (reasons_seen c.new-why.result) c.new-why.ensures

pub loop-i-preserved : goal.loop-i-preserved
loop-i-preserved c =
    let rule = rule_at c.loop-i.i c.in-Some.rule c.in-Some.ensures in
    elim c.match-reason.branch [
      | in-Some-reason+in_ok-push w ↦
          reasons_with c.loop-i.i c.in-Some.rule (claim_of c.args.self) (reasons_seen c.loop-i.why)
          (reasons_seen c.match-reason.why) c.reason.result w.in-Some-reason.line rule w.in-Some-reason.is
          (ap reasons_seen w.why-is ∙ w.in_ok-push.ensures.ok) c.reason.ensures.unfit c.reason.ensures.fit
          c.loop-i.invariant
      | in_default-reason w ↦
          subst (λ why. AreReasonsBy (claim_of c.args.self) (fitting (c.loop-i.i + 1) (claim_of c.args.self))
          (reasons_seen why)) (sym w.why-is)
          (reasons_without c.loop-i.i c.in-Some.rule (claim_of c.args.self) (reasons_seen c.loop-i.why) c.reason.result
          rule c.requires.underivable w.in_default-reason.is c.reason.ensures.fit c.loop-i.invariant)
    ]

pub returns : goal.returns
returns c =
    let end : c.loop-i.i ≡ COUNT = omega arith in
    all_reasons c.loop-i.i (claim_of c.args.self) (reasons_seen c.loop-i.why) end c.loop-i.invariant
