-- The case that the code holds, and what a verdict on it says.
use Rattle.vir_altset.specs.Sets.{all}
use Rattle.vir_profile.specs.Profiles.{Votes}
use Rattle.vir_term.specs.declared.prop.Prop.{Prop}
use Rattle.vir_mean.specs.Modules.{Meaning}
use Rattle.vir_refute.specs.declared.case.Case.{Case as Handed}
use Rattle.vir_refute.specs.declared.case.Case.TheVariants.{One, Pair}
use Rattle.vir_refute.specs.declared.verdict.CaseVerdict.{CaseVerdict}
use Rattle.vir_refute.specs.declared.verdict.CaseVerdict.TheVariants.{Violated, NotViolated}
use Rattle.vir_refute.specs.declared.verdict.Reason.TheVariants.{NotALift, PremiseNotMet, ClauseHolds}
use Rattle.vir_refute.specs.Cases.{Election, Case, one, pair, IsOneOrLift}
use Rattle.vir_refute.specs.Violations.{Premise, Conclusion, Violates}

-- a profile as an election of all of its alternatives
abbrev pub election_of : Votes → Election
election_of votes = record { members = all votes.alternatives; lines = votes.lines }

-- the case that is handed in
abbrev pub case_of : Handed → Case
case_of (One profile) = one (election_of profile.now)
case_of (Pair first second lifted) = pair (election_of first.now) (election_of second.now) lifted

-- A verdict on a case is right.
abbrev pub IsVerdict : CaseVerdict → Prop → Meaning → Case → Type 0
IsVerdict Violated prop m c = Violates prop m c
IsVerdict (NotViolated NotALift) prop m c = IsOneOrLift c → ⊥
IsVerdict (NotViolated PremiseNotMet) prop m c = IsOneOrLift c × (Premise prop m c → ⊥)
IsVerdict (NotViolated ClauseHolds) prop m c = IsOneOrLift c × Premise prop m c × Conclusion prop m c
