-- What meanings may do beside the properties: leave nothing open, elect one at most, agree.
-- (The program's promises don't stand on this file.)
use Rattle.std.specs.Prelude.{◌≡◌, ℕ, ◌≤◌, List}
use Rattle.std.specs.FinSet as set
use Rattle.vir_altset.specs.Sets.{Set}
use Rattle.vir_altset.specs.declared.split.Split.{Split}
use Rattle.vir_profile.specs.declared.ballot.Entry.{Entry}
use Rattle.vir_profile.specs.Elections.{IsElection}
use Rattle.vir_profile.specs.Winners.{IsCondorcetWinner}
use Rattle.vir_mean.specs.Modules.{Meaning}
use Rattle.vir_mean.specs.Properties.{OnEach, just, IsCompatible}

-- nobody is deferred
abbrev pub DefersNobody : Meaning → Type 0
DefersNobody m = OnEach m (λ a s. s.deferred ≡ set.empty)

-- at most one alternative is elected
abbrev pub ElectsAtMostOne : Meaning → Type 0
ElectsAtMostOne m = OnEach m (λ a s. set.len s.elected ≤ 1)

-- Two meanings give the same split in each election.
abbrev pub Agree : Meaning → Meaning → Type 0
Agree m n = (a : Set) (p : List Entry) → IsElection a p → m a p ≡ n a p

-- It holds of each Condorcet winner w among at most so many alternatives, their set, and the split.
abbrev pub OnWinnersOf : ℕ → Meaning → (ℕ → Set → Split → Type 0) → Type 0
OnWinnersOf most m Says =
    (a : Set) (p : List Entry) (w : ℕ) → IsElection a p → set.len a ≤ most → IsCondorcetWinner w a p → Says w a (m a p)

-- What `cc`, `dcc` and `ccomp` say, of at most so many alternatives: a Condorcet winner among them alone is elected, or
-- alone is deferred, or isn't rejected while anybody else wins.
abbrev pub CcAmong : ℕ → Meaning → Type 0
CcAmong most m =
    OnWinnersOf most m
    (λ w a s. s ≡ record { elected = just w; rejected = set.difference a (just w); deferred = set.empty })

abbrev pub DccAmong : ℕ → Meaning → Type 0
DccAmong most m =
    OnWinnersOf most m
    (λ w a s. s ≡ record { elected = set.empty; rejected = set.difference a (just w); deferred = just w })

abbrev pub CcompAmong : ℕ → Meaning → Type 0
CcompAmong most m = OnWinnersOf most m IsCompatible
