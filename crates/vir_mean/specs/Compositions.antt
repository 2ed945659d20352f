-- The meanings of compositions, by the meanings of their parts.
use Rattle.std.specs.Prelude.{◌≡◌, ℕ, zero, suc, ◌≤◌, Bool, ◌||◌, nat_eq, nat_le, if◌then◌else◌}
use Rattle.std.specs.FinSet as set
use Rattle.vir_altset.specs.Sets.{Set}
use Rattle.vir_altset.specs.declared.split.Split.{Split}
use Rattle.vir_profile.specs.Profiles.{restrict}
use Rattle.vir_term.specs.Tree.{End, exactly, at_most}
use Rattle.vir_mean.specs.Modules.{Meaning, all_deferred}

-- the revision of a split of a set: those elected are deferred, and all others are rejected
abbrev pub revised : Set → Split → Split
revised a split = record { elected = set.empty; rejected = set.difference a split.elected; deferred = split.elected }

-- revision: what a part gives is revised
abbrev pub rev_of : Meaning → Meaning
rev_of part a lines = revised a (part a lines)

-- a split of a set, and one of what the first defers, as one split of the set
abbrev pub joined : Split → Split → Split
joined first second = record {
  elected = set.union first.elected second.elected;
  rejected = set.union first.rejected second.rejected;
  deferred = second.deferred;
}

-- sequential composition: the second decides on what the first defers, by the profile restricted to it
abbrev pub seq_of : Meaning → Meaning → Meaning
seq_of first second a lines =
    joined (first a lines) (second (first a lines).deferred (restrict (first a lines).deferred lines))

-- two splits of a set as one: elected by one of them, rejected by both, and else deferred
abbrev pub merged : Split → Split → Split
merged first second = record {
  elected = set.union first.elected second.elected;
  rejected = set.intersection first.rejected second.rejected;
  deferred = set.difference (set.union first.deferred second.deferred) (set.union first.elected second.elected);
}

-- parallel composition: both decide on the same set by the same profile
abbrev pub par_of : Meaning → Meaning → Meaning
par_of first second a lines = merged (first a lines) (second a lines)

-- whether a loop that ends so ends at a set of this size
abbrev pub is_end : End → ℕ → Bool
is_end (exactly k) size = nat_eq size k
is_end (at_most k) size = nat_le size k

-- The same as a statement: it ends at a set of this size.
abbrev pub IsEnd : End → ℕ → Type 0
IsEnd (exactly k) size = size ≡ k
IsEnd (at_most k) size = size ≤ k

-- One turn of a loop: it ends where the set has the size to end at, or the body defers all of it; else it goes on
-- with what the body defers.
abbrev pub turn : End → Meaning → Meaning → Meaning
turn k body next a lines =
    if is_end k (set.len a) || set.is_subset a (body a lines).deferred
    then all_deferred a lines
    else joined (body a lines) (next (body a lines).deferred (restrict (body a lines).deferred lines))

-- a loop of at most so many turns
unfoldable pub turns : ℕ → End → Meaning → Meaning
turns zero k body a lines = all_deferred a lines
turns (suc most) k body a lines = turn k body (turns most k body) a lines

-- loop composition: each turn that goes on leaves fewer, so there are at most as many as the set has members
abbrev pub loop_of : End → Meaning → Meaning
loop_of k body a lines = turns (set.len a) k body a lines
