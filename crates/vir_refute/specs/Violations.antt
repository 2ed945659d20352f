-- Which cases violate a property: those in which its premise is true, and its conclusion false.
use Rattle.std.specs.Prelude.{◌≡◌, ◌≢◌, ◌⊎◌, ℕ, ◌<◌, ◌≤◌, Bool, true, false}
use Rattle.std.specs.FinSet as set
use Rattle.vir_altset.specs.Sets.{Set}
use Rattle.vir_altset.specs.declared.split.Split.{Split}
use Rattle.vir_profile.specs.Winners.{IsCondorcetWinner}
use Rattle.vir_term.specs.declared.prop.Prop.{Prop}
use Rattle.vir_term.specs.declared.prop.Prop.TheVariants.{Ne, Ea, El, Defers, Rejects, Elim, Nb, Decr, Dli, Imono}
use Rattle.vir_term.specs.declared.prop.Prop.TheVariants.{Dimono, Dmono, Mono, Cc, Dcc, Cprog, Ccomp, Neut}
use Rattle.vir_mean.specs.Modules.{Meaning}
use Rattle.vir_mean.specs.Neutrality.{renamed_split}
use Rattle.vir_mean.specs.Properties.{just, StaysOrBecomes, MakesProgress, IsCompatible}
use Rattle.vir_refute.specs.Cases.{Election, Case, one, pair, renamed, split_by, under, AreElections, IsOneOrLift}

-- whether the property is about lifts: about what becomes of one alternative from one election to another
abbrev pub is_on_lifts : Prop → Bool
is_on_lifts Dli = true
is_on_lifts Imono = true
is_on_lifts Dimono = true
is_on_lifts Dmono = true
is_on_lifts Mono = true
is_on_lifts _ = false

-- The property is about such cases: about pairs of elections, about one, or about new names.
abbrev pub IsAbout : Prop → Case → Type 0
IsAbout prop (one e) = (is_on_lifts prop ≡ false) × (prop ≢ Neut)
IsAbout prop (pair e f x) = is_on_lifts prop ≡ true
IsAbout prop (renamed e f) = prop ≡ Neut

-- an election with a Condorcet winner
abbrev pub HasWinner : Election → Type 0
HasWinner e = (w : ℕ) × IsCondorcetWinner w e.members e.lines

-- It holds of each Condorcet winner.
abbrev pub OfWinner : Election → (ℕ → Type 0) → Type 0
OfWinner e Says = (w : ℕ) → IsCondorcetWinner w e.members e.lines → Says w

-- The premise of a property of one election: when it asks something of the split.
abbrev pub PremiseOnOne : Prop → Election → Type 0
PremiseOnOne Ne e = Unit {0}
PremiseOnOne Ea e = Unit {0}
PremiseOnOne El e = e.members ≢ set.empty
PremiseOnOne (Defers k) e = k ≤ set.len e.members
PremiseOnOne (Rejects k) e = k ≤ set.len e.members
PremiseOnOne (Elim k) e = k < set.len e.members
PremiseOnOne Nb e = e.members ≢ set.empty
PremiseOnOne Decr e = 2 ≤ set.len e.members
PremiseOnOne Cc e = HasWinner e
PremiseOnOne Dcc e = HasWinner e
PremiseOnOne Cprog e = HasWinner e
PremiseOnOne Ccomp e = HasWinner e
PremiseOnOne _ e = ⊥

-- what a property says of a Condorcet winner w, its set, and the split
abbrev pub SaysOfWinner : Prop → ℕ → Set → Split → Type 0
SaysOfWinner Cc w a s =
    s ≡ record { elected = just w; rejected = set.difference a (just w); deferred = set.empty }
SaysOfWinner Dcc w a s =
    s ≡ record { elected = set.empty; rejected = set.difference a (just w); deferred = just w }
SaysOfWinner Cprog w a s = MakesProgress w a s
SaysOfWinner Ccomp w a s = IsCompatible w a s
SaysOfWinner _ w a s = Unit {0}

-- And its conclusion: what it asks of the split.
abbrev pub ConclusionOnOne : Prop → Election → Split → Type 0
ConclusionOnOne Ne e s = s.elected ≡ set.empty
ConclusionOnOne Ea e s = s.elected ≡ e.members
ConclusionOnOne El e s = s.elected ≢ set.empty
ConclusionOnOne (Defers k) e s = set.len s.deferred ≡ k
ConclusionOnOne (Rejects k) e s = set.len s.rejected ≡ k
ConclusionOnOne (Elim k) e s = set.len s.rejected ≡ k
ConclusionOnOne Nb e s = s.rejected ≢ e.members
ConclusionOnOne Decr e s = s.rejected ≢ set.empty
ConclusionOnOne prop e s = OfWinner e (λ w. SaysOfWinner prop w e.members s)

-- The premise of a property of lifts, by the split of the first election.
abbrev pub PremiseOnLift : Prop → ℕ → Split → Type 0
PremiseOnLift Dli x s = set.contains s.deferred x ≡ true
PremiseOnLift Imono x s = set.contains s.elected x ≡ true
PremiseOnLift Dimono x s = (set.contains s.deferred x ≡ true) ⊎ (s.elected ≢ set.empty)
PremiseOnLift Dmono x s = set.contains s.deferred x ≡ true
PremiseOnLift Mono x s = set.contains s.elected x ≡ true
PremiseOnLift _ x s = ⊥

-- And its conclusion, by the splits of both.
abbrev pub ConclusionOnLift : Prop → ℕ → Split → Split → Type 0
ConclusionOnLift Dli x s t = t ≡ s
ConclusionOnLift Imono x s t = StaysOrBecomes x s.elected t.elected
ConclusionOnLift Dimono x s t =
    (s.elected ≡ set.empty) × (set.contains s.deferred x ≡ true → StaysOrBecomes x s.deferred t.deferred)
ConclusionOnLift Dmono x s t = set.contains t.deferred x ≡ true
ConclusionOnLift Mono x s t = set.contains t.elected x ≡ true
ConclusionOnLift _ x s t = Unit {0}

-- the premise in a case
abbrev pub Premise : Prop → Meaning → Case → Type 0
Premise prop m (one e) = PremiseOnOne prop e
Premise prop m (pair e f x) = PremiseOnLift prop x (split_by m e)
Premise prop m (renamed e f) = prop ≡ Neut

-- the conclusion in a case
abbrev pub Conclusion : Prop → Meaning → Case → Type 0
Conclusion prop m (one e) = ConclusionOnOne prop e (split_by m e)
Conclusion prop m (pair e f x) = ConclusionOnLift prop x (split_by m e) (split_by m f)
Conclusion prop m (renamed e f) = split_by m (under f e) ≡ renamed_split f (split_by m e)

-- The case violates the property of the meaning.
pub record Violates (prop : Prop) (m : Meaning) (c : Case) : Type 0 where
  pub one_or_lift : IsOneOrLift c
  pub premise : Premise prop m c
  pub conclusion_false : Conclusion prop m c → ⊥

-- No case violates it, of whatever size.
abbrev pub IsNeverViolated : Prop → Meaning → Type 0
IsNeverViolated prop m = (c : Case) → AreElections c → Violates prop m c → ⊥
