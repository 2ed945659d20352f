-- What is proved of the steps of a term's code.
-- (The program's promises don't stand on this file.)
use Rattle.std.specs.Prelude.{◌≡◌, ◌≤◌, ◌<◌, ◌↔◌, ◌⊎◌, ℕ, ◌+◌, List, [], ◌++◌, length, slice_get, Some}
use Rattle.vir_altset.specs.Sets.{Set, IsPart}
use Rattle.vir_altset.specs.declared.split.Split.{Split}
use Rattle.vir_profile.specs.declared.ballot.Entry.{Entry}
use Rattle.vir_profile.specs.Profiles.{IsProfileOn, restrict}
use Rattle.vir_term.specs.Tree.{Tree}
use Rattle.vir_code.specs.declared.instr.Instr.{Instr}
use Rattle.vir_code.specs.declared.instr.Instr.TheVariants.{LoopTest, UntilTest, LoopBack}
use Rattle.vir_code.specs.Code.{code_of}
use Rattle.vir_code.specs.Depth.{depth_of}
use Rattle.vir_mean.specs.Meaning.{mean}
use Rattle.vir_compile.specs.Exec.{State, start_of, IsStep, AreSteps, IsReached, Exec}
use Rattle.vir_compile.specs.Calls.{calls_of, called, calls_left}
use Rattle.vir_compile.specs.StepsLeft.{steps_left}

-- The code of a term executes to a split just where this is its meaning, on any set and any profile on it.
abbrev pub CodeExecutesToTheMeaning : Type 0
CodeExecutesToTheMeaning =
    (t : Tree) (a : Set) (lines : List Entry) (s : Split)
    → IsProfileOn a lines
    → Exec (code_of t) a lines s ↔ (s ≡ mean t a lines)

-- the same on any ballots, for the meaning on what of them is restricted to the set
abbrev pub CodeExecutesOnRestrictedBallots : Type 0
CodeExecutesOnRestrictedBallots =
    (t : Tree) (a : Set) (lines : List Entry) (s : Split)
    → Exec (code_of t) a lines s ↔ (s ≡ mean t a (restrict a lines))

-- The state is at the end of the code, or a step leads on; neither stack is above the depth; the domain is a part of
-- the first.
pub record IsSafe (code : List Instr) (a : Set) (lines : List Entry) (depth : ℕ) (b : State) : Type 0 where
  pub goes_on : (b.place ≡ length code) ⊎ ((c : State) × IsStep code lines b c)
  pub splits_fit : length b.splits ≤ depth
  pub domains_fit : length b.domains ≤ depth
  pub part : IsPart b.domain a

-- No step of a term's code is stuck, and neither stack passes its depth.
abbrev pub CodeIsSafe : Type 0
CodeIsSafe =
    (t : Tree) (a : Set) (lines : List Entry) (b : State)
    → IsReached (code_of t) a lines b
    → IsSafe (code_of t) a lines (depth_of t) b

-- From the state so many steps lead to the end of the code, and each step lowers their number by one.
pub record StepsAreLeft (code : List Instr) (lines : List Entry) (b : State) : Type 0 where
  pub end : State
  pub run : AreSteps code lines (steps_left code lines b) b end
  pub ends : end.place ≡ length code
  pub lower : (c : State) → IsStep code lines b c → steps_left code lines b ≡ steps_left code lines c + 1

-- The steps left of a term's code are those to its end.
abbrev pub StepsLeftAreExact : Type 0
StepsLeftAreExact =
    (t : Tree) (a : Set) (lines : List Entry) (b : State)
    → IsReached (code_of t) a lines b
    → StepsAreLeft (code_of t) lines b

-- Each jump of a term's code leads to a position within it.
pub record AreJumpsWithin (code : List Instr) : Type 0 where
  pub exits : (i k exit : ℕ) → slice_get code i ≡ Some (LoopTest k exit) → exit < length code
  pub until_exits : (i k exit : ℕ) → slice_get code i ≡ Some (UntilTest k exit) → exit < length code
  pub starts : (i start : ℕ) → slice_get code i ≡ Some (LoopBack start) → start < length code

-- No jump of a term's code leads past it.
abbrev pub JumpsStayWithin : Type 0
JumpsStayWithin = (t : Tree) → AreJumpsWithin (code_of t)

-- No call is left at the end of the code; and before, there are those of the next instruction and those left after it.
pub record CallsAreLeft (code : List Instr) (lines : List Entry) (b : State) : Type 0 where
  pub none : b.place ≡ length code → calls_left code lines b ≡ []
  pub first : (c : State) (step : IsStep code lines b c) → calls_left code lines b ≡ called step.at
      ++ calls_left code lines c

-- The calls left of a term's code are those to its end; from the start, these are the calls of the term's meaning.
pub record CallsAreExact (t : Tree) (a : Set) (lines : List Entry) : Type 0 where
  pub all : calls_left (code_of t) lines (start_of a) ≡ calls_of t a (restrict a lines)
  pub left : (b : State) → IsReached (code_of t) a lines b → CallsAreLeft (code_of t) lines b

-- The calls left are exact for each term, on each set and any ballots.
abbrev pub CallsLeftAreExact : Type 0
CallsLeftAreExact = (t : Tree) (a : Set) (lines : List Entry) → CallsAreExact t a lines
