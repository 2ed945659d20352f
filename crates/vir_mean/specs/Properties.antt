-- What each property says of a meaning: on every finite set of alternatives, which are numbers from 1 on, and every
-- profile on it of whatever size.
use Rattle.std.specs.Prelude.{◌≡◌, ◌≢◌, ◌⊎◌, ℕ, ◌<◌, ◌≤◌, true, false, List}
use Rattle.std.specs.FinSet as set
use Rattle.vir_altset.specs.Sets.{Set}
use Rattle.vir_altset.specs.declared.split.Split.{Split}
use Rattle.vir_profile.specs.declared.ballot.Entry.{Entry}
use Rattle.vir_profile.specs.Elections.{IsElection}
use Rattle.vir_profile.specs.Winners.{IsCondorcetWinner}
use Rattle.vir_term.specs.declared.prop.Prop.{Prop}
use Rattle.vir_term.specs.declared.prop.Prop.TheVariants.{Ne, Ea, El, Defers, Rejects, Elim, Nb, Decr, Dli, Imono}
use Rattle.vir_term.specs.declared.prop.Prop.TheVariants.{Dimono, Dmono, Mono, Cc, Dcc, Cprog, Ccomp, Neut}
use Rattle.vir_mean.specs.Lifts.{Lifts}
use Rattle.vir_mean.specs.Modules.{Meaning}
use Rattle.vir_mean.specs.Neutrality.{IsNeutral}

-- It holds of each set and its split.
abbrev pub OnEach : Meaning → (Set → Split → Type 0) → Type 0
OnEach m Says = (a : Set) (p : List Entry) → IsElection a p → Says a (m a p)

-- It holds of each member x, and the splits before and after x is lifted.
abbrev pub OnLifts : Meaning → (ℕ → Split → Split → Type 0) → Type 0
OnLifts m Says =
    (a : Set) (p q : List Entry) (x : ℕ) → IsElection a p → IsElection a q → set.contains a x ≡ true → Lifts x p q
    → Says x (m a p) (m a q)

-- It holds of each Condorcet winner w, its set, and the split.
abbrev pub OnWinners : Meaning → (ℕ → Set → Split → Type 0) → Type 0
OnWinners m Says = (a : Set) (p : List Entry) (w : ℕ) → IsElection a p → IsCondorcetWinner w a p → Says w a (m a p)

-- the set of x alone
abbrev pub just : ℕ → Set
just x = set.insert set.empty x

-- The set stays, or becomes that of x alone.
abbrev pub StaysOrBecomes : ℕ → Set → Set → Type 0
StaysOrBecomes x before after = (after ≡ before) ⊎ (after ≡ just x)

-- Nobody is elected, w stays deferred, and where there are two or more not all do.
pub record MakesProgress (w : ℕ) (a : Set) (s : Split) : Type 0 where
  pub none_elected : s.elected ≡ set.empty
  pub deferred : set.contains s.deferred w ≡ true
  pub fewer : 2 ≤ set.len a → s.deferred ≢ a

-- w isn't rejected, nobody else is elected, and where w is elected all others are rejected.
pub record IsCompatible (w : ℕ) (a : Set) (s : Split) : Type 0 where
  pub kept : set.contains s.rejected w ≡ false
  pub no_other : (x : ℕ) → set.contains s.elected x ≡ true → x ≡ w
  pub others : set.contains s.elected w ≡ true → s.rejected ≡ set.difference a (just w)

-- nobody is elected
abbrev pub ElectsNobody : Meaning → Type 0
ElectsNobody m = OnEach m (λ a s. s.elected ≡ set.empty)

-- The property holds of the meaning.
abbrev pub Holds : Prop → Meaning → Type 0
Holds Ne m = ElectsNobody m
Holds Ea m = OnEach m (λ a s. s.elected ≡ a)
Holds El m = OnEach m (λ a s. a ≢ set.empty → s.elected ≢ set.empty)
Holds (Defers k) m = OnEach m (λ a s. k ≤ set.len a → set.len s.deferred ≡ k)
Holds (Rejects k) m = OnEach m (λ a s. k ≤ set.len a → set.len s.rejected ≡ k)
Holds (Elim k) m = OnEach m (λ a s. k < set.len a → set.len s.rejected ≡ k)
Holds Nb m = OnEach m (λ a s. a ≢ set.empty → s.rejected ≢ a)
Holds Decr m = OnEach m (λ a s. 2 ≤ set.len a → s.rejected ≢ set.empty)
Holds Dli m = OnLifts m (λ x s t. set.contains s.deferred x ≡ true → t ≡ s)
Holds Imono m = OnLifts m (λ x s t. set.contains s.elected x ≡ true → StaysOrBecomes x s.elected t.elected)
Holds Dimono m =
    ElectsNobody m × OnLifts m (λ x s t. set.contains s.deferred x ≡ true → StaysOrBecomes x s.deferred t.deferred)
Holds Dmono m = OnLifts m (λ x s t. set.contains s.deferred x ≡ true → set.contains t.deferred x ≡ true)
Holds Mono m = OnLifts m (λ x s t. set.contains s.elected x ≡ true → set.contains t.elected x ≡ true)
Holds Cc m =
    OnWinners m (λ w a s. s ≡ record { elected = just w; rejected = set.difference a (just w); deferred = set.empty })
Holds Dcc m =
    OnWinners m (λ w a s. s ≡ record { elected = set.empty; rejected = set.difference a (just w); deferred = just w })
Holds Cprog m = OnWinners m MakesProgress
Holds Ccomp m = OnWinners m IsCompatible
Holds Neut m = IsNeutral m
