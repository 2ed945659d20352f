-- A property that holds is violated by no case.
use Rattle.std.proofs.Common.{◌≡◌, ℕ, true, sym, subst}
use Rattle.std.specs.FinSet as set
use Rattle.vir_altset.specs.Sets.{Set}
use Rattle.vir_altset.specs.declared.split.Split.{Split}
use Rattle.vir_profile.specs.Elections.{IsElection}
use Rattle.vir_term.specs.declared.prop.Prop.{Prop}
use Rattle.vir_term.specs.declared.prop.Prop.TheVariants.{Ne, Ea, El, Defers, Rejects, Elim, Nb, Decr, Dli, Imono}
use Rattle.vir_term.specs.declared.prop.Prop.TheVariants.{Dimono, Dmono, Mono, Cc, Dcc, Cprog, Ccomp}
use Rattle.vir_mean.specs.Modules.{Meaning}
use Rattle.vir_mean.specs.Properties.{Holds, OnLifts, StaysOrBecomes}
use Rattle.vir_refute.specs.Cases.{Election, one, pair, renamed, split_by, IsLift}
use Rattle.vir_refute.specs.Violations.{PremiseOnOne, ConclusionOnOne, PremiseOnLift, ConclusionOnLift}
use Rattle.vir_refute.specs.Violations.{IsNeverViolated}

-- what holds of one election whose premise is true
concluded_on_one : (prop : Prop) (m : Meaning) → Holds prop m → (e : Election) → IsElection e.members e.lines
    → PremiseOnOne prop e → ConclusionOnOne prop e (split_by m e)
concluded_on_one Ne m holds e on premise = holds e.members e.lines on
concluded_on_one Ea m holds e on premise = holds e.members e.lines on
concluded_on_one El m holds e on premise = holds e.members e.lines on premise
concluded_on_one (Defers k) m holds e on premise = holds e.members e.lines on premise
concluded_on_one (Rejects k) m holds e on premise = holds e.members e.lines on premise
concluded_on_one (Elim k) m holds e on premise = holds e.members e.lines on premise
concluded_on_one Nb m holds e on premise = holds e.members e.lines on premise
concluded_on_one Decr m holds e on premise = holds e.members e.lines on premise
concluded_on_one Cc m holds e on premise = λ w winner. holds e.members e.lines w on winner
concluded_on_one Dcc m holds e on premise = λ w winner. holds e.members e.lines w on winner
concluded_on_one Cprog m holds e on premise = λ w winner. holds e.members e.lines w on winner
concluded_on_one Ccomp m holds e on premise = λ w winner. holds e.members e.lines w on winner
concluded_on_one _ m holds e on premise = absurd premise

-- what holds of all lifts holds of two elections of which the second is one
of_lift : (m : Meaning) (Says : ℕ → Split → Split → Type 0) → OnLifts m Says → (e f : Election) (x : ℕ)
    → IsElection e.members e.lines → IsElection f.members f.lines → IsLift e f x
    → Says x (split_by m e) (split_by m f)
of_lift m Says says e f x on_e on_f lift =
    let Second : Set → Type 0 = λ a. IsElection a f.lines in
    let Said : Set → Type 0 = λ a. Says x (split_by m e) (m a f.lines) in
    subst Said lift.same (says e.members e.lines f.lines x on_e (subst Second (sym lift.same) on_f) lift.member
    lift.lifted)

-- where the premise of a property of lifts is true, so is its conclusion
abbrev AsksOf : Prop → ℕ → Split → Split → Type 0
AsksOf prop x s t = PremiseOnLift prop x s → ConclusionOnLift prop x s t

-- where x is deferred, the deferred set stays, or becomes that of x alone
abbrev StaysDeferred : ℕ → Split → Split → Type 0
StaysDeferred x s t = set.contains s.deferred x ≡ true → StaysOrBecomes x s.deferred t.deferred

-- what holds of a lift whose premise is true
concluded_on_lift : (prop : Prop) (m : Meaning) → Holds prop m → (e f : Election) (x : ℕ)
    → IsElection e.members e.lines → IsElection f.members f.lines → IsLift e f x
    → PremiseOnLift prop x (split_by m e) → ConclusionOnLift prop x (split_by m e) (split_by m f)
concluded_on_lift Dli m holds e f x on_e on_f lift premise =
    of_lift m (AsksOf Dli) holds e f x on_e on_f lift premise
concluded_on_lift Imono m holds e f x on_e on_f lift premise =
    of_lift m (AsksOf Imono) holds e f x on_e on_f lift premise
concluded_on_lift Dimono m holds e f x on_e on_f lift premise =
    (holds.0 e.members e.lines on_e, of_lift m StaysDeferred holds.1 e f x on_e on_f lift)
concluded_on_lift Dmono m holds e f x on_e on_f lift premise =
    of_lift m (AsksOf Dmono) holds e f x on_e on_f lift premise
concluded_on_lift Mono m holds e f x on_e on_f lift premise =
    of_lift m (AsksOf Mono) holds e f x on_e on_f lift premise
concluded_on_lift _ m holds e f x on_e on_f lift premise = absurd premise

pub never_violated : (prop : Prop) (m : Meaning) → Holds prop m → IsNeverViolated prop m
never_violated prop m holds (one e) on violates =
    violates.conclusion_false (concluded_on_one prop m holds e on violates.premise)
never_violated prop m holds (pair e f x) on violates =
    violates.conclusion_false
    (concluded_on_lift prop m holds e f x on.0 on.1 violates.one_or_lift violates.premise)
never_violated prop m holds (renamed e f) on violates =
    violates.conclusion_false
    (subst (λ (p : Prop). Holds p m) violates.premise holds e.members e.lines f on violates.one_or_lift)
