use Rattle.std.proofs.Common.{◌≡◌, length, take, List, Some}
use Rattle.vir_rules.specs.Claims.{Claim}
use Rattle.vir_rules.specs.Derivations.{AllDerivable}
use Rattle.vir_rules.specs.Premises.{premises}
use Rattle.vir_derive.specs.Judged.{claim_of}
use Rattle.vir_derive.proofs.answer.JudgementWithProps.reason.Given as goal

-- the premises so far are derivable
abbrev pub invariant-loop-i : goal.invariant-loop-i
invariant-loop-i l = (needed : List Claim) × (premises l.rule (claim_of l.self) ≡ Some needed)
    × (length needed ≡ l.count) × AllDerivable (take l.i needed)
