-- The names of the reasons why a case violates nothing.
use Rattle.std.specs.Prelude.{ℕ, List, codes}
use Rattle.vir_refute.specs.declared.verdict.Reason.{Reason}
use Rattle.vir_refute.specs.declared.verdict.Reason.TheVariants.{NotALift, PremiseNotMet, ClauseHolds}

-- the name of a variant
abbrev pub reason_name : Reason → List ℕ
reason_name NotALift = codes "NotALift"
reason_name PremiseNotMet = codes "PremiseNotMet"
reason_name ClauseHolds = codes "ClauseHolds"
