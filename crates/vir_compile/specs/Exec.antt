-- What the machine does: the steps of code, and its run from the start to its end.
-- (The program's promises don't stand on this file.)
use Rattle.std.specs.Prelude.{◌≡◌, ℕ, zero, suc, ◌+◌, nat_eq, nat_le, List, [], ◌∷◌, length, Option, Some, None}
use Rattle.std.specs.Prelude.{slice_get, if◌then◌else◌}
use Rattle.std.specs.FinSet as set
use Rattle.vir_altset.specs.Sets.{Set}
use Rattle.vir_altset.specs.declared.split.Split.{Split}
use Rattle.vir_profile.specs.declared.ballot.Entry.{Entry}
use Rattle.vir_profile.specs.Profiles.{restrict}
use Rattle.vir_code.specs.declared.instr.Instr.{Instr}
use Rattle.vir_code.specs.declared.instr.Instr.TheVariants.{Call, KeepDomain, FetchDomain, JoinSeq, JoinMax, Revise}
use Rattle.vir_code.specs.declared.instr.Instr.TheVariants.{StartLoop, LoopTest, UntilTest, LoopBack, EndLoop}
use Rattle.vir_mean.specs.Modules.{leaf_mean}
use Rattle.vir_mean.specs.Compositions.{joined, merged}

-- a position, a domain, and the stacks of splits and of domains, each with its top first
pub record State : Type 0 where
  pub place : ℕ
  pub domain : Set
  pub splits : List Split
  pub domains : List Set

-- a state of these
abbrev pub state : ℕ → Set → List Split → List Set → State
state place domain splits domains =
    record { place = place; domain = domain; splits = splits; domains = domains }

-- the split that defers all of a set
abbrev pub undecided : Set → Split
undecided a = record { elected = set.empty; rejected = set.empty; deferred = a }

-- what a split of a set elects is deferred, and the rest of the set is rejected
abbrev pub revised : Set → Split → Split
revised a s = record { elected = set.empty; rejected = set.difference a s.elected; deferred = s.elected }

-- the domain becomes what the top split defers
abbrev pub fetched : State → List Split → Option State
fetched s (top ∷ rest) = Some (state (s.place + 1) top.deferred s.splits s.domains)
fetched s [] = None

-- the two top splits become one, and these the domain and the domains
abbrev pub combined : (Split → Split → Split) → ℕ → Set → List Set → List Split → Option State
combined join place domain domains (second ∷ first ∷ rest) = Some (state (place + 1) domain (join first second ∷ rest)
    domains)
combined join place domain domains (only ∷ []) = None
combined join place domain domains [] = None

-- the two top splits become one, and the domain is popped
abbrev pub joined_back : State → List Set → Option State
joined_back s (domain ∷ domains) = combined joined s.place domain domains s.splits
joined_back s [] = None

-- the top split is revised
abbrev pub turned_round : State → List Split → Option State
turned_round s (top ∷ rest) = Some (state (s.place + 1) s.domain (revised s.domain top ∷ rest) s.domains)
turned_round s [] = None

-- the split of a turn is popped: the loop is over where it defers the whole domain, and else goes on with what it
-- defers
abbrev pub turn_joined : ℕ → State → List Split → Option State
turn_joined start s (turn ∷ so_far ∷ rest) =
    Some (if set.is_subset s.domain turn.deferred
    then state (s.place + 1) s.domain (so_far ∷ rest) s.domains
    else state start turn.deferred (joined so_far turn ∷ rest) s.domains)
turn_joined start s (only ∷ []) = None
turn_joined start s [] = None

-- the domain is popped
abbrev pub ended : State → List Set → Option State
ended s (domain ∷ domains) = Some (state (s.place + 1) domain s.splits domains)
ended s [] = None

-- the state to which an instruction leads, on ballots; none where an operand is missing
abbrev pub act : List Entry → Instr → State → Option State
act lines (Call l) s =
    Some (state (s.place + 1) s.domain (leaf_mean l s.domain (restrict s.domain lines) ∷ s.splits) s.domains)
act lines KeepDomain s = Some (state (s.place + 1) s.domain s.splits (s.domain ∷ s.domains))
act lines FetchDomain s = fetched s s.splits
act lines JoinSeq s = joined_back s s.domains
act lines JoinMax s = combined merged s.place s.domain s.domains s.splits
act lines Revise s = turned_round s s.splits
act lines StartLoop s = Some (state (s.place + 1) s.domain (undecided s.domain ∷ s.splits) (s.domain ∷ s.domains))
act lines (LoopTest k exit) s =
    Some (state (if nat_eq (set.len s.domain) k then exit else s.place + 1) s.domain s.splits s.domains)
act lines (UntilTest k exit) s =
    Some (state (if nat_le (set.len s.domain) k then exit else s.place + 1) s.domain s.splits s.domains)
act lines (LoopBack start) s = turn_joined start s s.splits
act lines EndLoop s = ended s s.domains

-- one step of code, on ballots
pub record IsStep (code : List Instr) (lines : List Entry) (b c : State) : Type 0 where
  pub at : Instr
  pub stands : slice_get code b.place ≡ Some at
  pub leads : act lines at b ≡ Some c

-- so many steps
abbrev pub AreSteps : List Instr → List Entry → ℕ → State → State → Type 0
AreSteps code lines zero b c = b ≡ c
AreSteps code lines (suc n) b c = (next : State) × IsStep code lines b next × AreSteps code lines n next c

-- the start on a domain: the first position, and nothing on the stacks
abbrev pub start_of : Set → State
start_of a = state 0 a [] []

-- a state that steps from the start on a domain lead to
pub record IsReached (code : List Instr) (a : Set) (lines : List Entry) (b : State) : Type 0 where
  pub steps : ℕ
  pub run : AreSteps code lines steps (start_of a) b

-- a state at the end of the code, with a split on top, that is reached from the start on a domain
pub record Exec (code : List Instr) (a : Set) (lines : List Entry) (s : Split) : Type 0 where
  pub last : State
  pub rest : List Split
  pub reached : IsReached code a lines last
  pub ends : last.place ≡ length code
  pub top : last.splits ≡ s ∷ rest
