use Rattle.vir_rules.specs.Reasons.{AreReasonsBy, fitting, reasons_seen}
use Rattle.vir_derive.specs.Judged.{claim_of}
use Rattle.vir_derive.proofs.answer.JudgementWithProps.reasons.Given as goal

-- the reasons so far are those of the rules so far
abbrev pub invariant-loop-i : goal.invariant-loop-i
invariant-loop-i l = AreReasonsBy (claim_of l.self) (fitting l.i (claim_of l.self)) (reasons_seen l.why)
