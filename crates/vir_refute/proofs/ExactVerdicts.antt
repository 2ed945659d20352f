-- A right verdict is the only right one, and what is violated is false.
use Rattle.std.proofs.Common.{◌≡◌, ◌↔◌, Result, Ok, Err, IfOk, refl, subst}
use Rattle.vir_term.specs.Tree.{Tree}
use Rattle.vir_term.specs.declared.prop.Prop.{Prop}
use Rattle.vir_mean.specs.Meaning.{mean}
use Rattle.vir_mean.specs.Modules.{Meaning}
use Rattle.vir_mean.specs.Properties.{Holds}
use Rattle.vir_rules.specs.Claims.{of}
use Rattle.vir_rules.specs.Derivations.{Valid}
use Rattle.vir_rules.specs.RuleTrees.{RuleTree}
use Rattle.vir_sound.specs.Truth.{IsProper}
use Rattle.vir_sound.proofs.DerivedTruth.{true_by}
use Rattle.vir_refute.specs.declared.verdict.CaseVerdict.{CaseVerdict}
use Rattle.vir_refute.specs.declared.verdict.CaseVerdict.TheVariants.{Violated, NotViolated}
use Rattle.vir_refute.specs.declared.verdict.Reason.TheVariants.{NotALift, PremiseNotMet, ClauseHolds}
use Rattle.vir_refute.specs.Cases.{Case, AreElections, IsOneOrLift}
use Rattle.vir_refute.specs.Judged.{IsVerdict}
use Rattle.vir_refute.specs.Violations.{Premise, Conclusion}
use Rattle.vir_refute.proofs.Violated.{never_violated}

-- what follows of an answer, where there is one
pub of_answer : {E : Type 0} (P Q : CaseVerdict → Type 0) (answer : Result CaseVerdict E)
    → ((v : CaseVerdict) → P v → Q v) → IfOk answer P → IfOk answer Q
of_answer P Q (Ok v) follows is = follows v is
of_answer P Q (Err e) follows is = tt

module _ (prop : Prop) (m : Meaning) (c : Case) where
  -- the only right one where the premise is false
  pub premise_exact : (v : CaseVerdict) → IsVerdict v prop m c
      → (v ≡ NotViolated PremiseNotMet) ↔ (IsOneOrLift c × (Premise prop m c → ⊥))
  premise_exact Violated is = (λ e. cc e, λ both. absurd (both.1 is.premise))
  premise_exact (NotViolated NotALift) is = (λ e. cc e, λ both. absurd (is both.0))
  premise_exact (NotViolated PremiseNotMet) is = (λ e. is, λ both. refl)
  premise_exact (NotViolated ClauseHolds) is = (λ e. cc e, λ both. absurd (both.1 is.1))

  -- and where premise and conclusion are true
  pub clause_exact : (v : CaseVerdict) → IsVerdict v prop m c
      → (v ≡ NotViolated ClauseHolds) ↔ (IsOneOrLift c × Premise prop m c × Conclusion prop m c)
  clause_exact Violated is = (λ e. cc e, λ all. absurd (is.conclusion_false all.2))
  clause_exact (NotViolated NotALift) is = (λ e. cc e, λ all. absurd (is all.0))
  clause_exact (NotViolated PremiseNotMet) is = (λ e. cc e, λ all. absurd (is.1 all.1))
  clause_exact (NotViolated ClauseHolds) is = (λ e. is, λ all. refl)

-- what is violated doesn't hold
pub refuted : {E : Type 0} (t : Tree) (prop : Prop) (c : Case) (answer : Result CaseVerdict E)
    → IfOk answer (λ v. IsVerdict v prop (mean t) c) → AreElections c → answer ≡ Ok Violated → Holds prop (mean t) → ⊥
refuted {E} t prop c answer right on violated holds =
    let Right : Result CaseVerdict E → Type 0 = λ a. IfOk a (λ v. IsVerdict v prop (mean t) c) in
    never_violated prop (mean t) holds c on (subst Right violated right)

-- so no derivation is valid for it
pub underivable : {E : Type 0} (t : Tree) (prop : Prop) (c : Case) (answer : Result CaseVerdict E)
    → IfOk answer (λ v. IsVerdict v prop (mean t) c) → AreElections c → answer ≡ Ok Violated → IsProper t
    → (d : RuleTree) → Valid d (of prop t) → ⊥
underivable t prop c answer right on violated proper d valid =
    refuted t prop c answer right on violated (true_by d (of prop t) proper valid)
