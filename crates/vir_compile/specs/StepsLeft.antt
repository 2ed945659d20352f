-- How many steps are left of a run.
-- (The program's promises don't stand on this file.)
use Rattle.std.specs.Prelude.{ℕ, zero, suc, ◌+◌, ◌^◌, List, [], ◌∷◌, length, Option, Some, None, slice_get}
use Rattle.std.specs.FinSet as set
use Rattle.vir_altset.specs.Sets.{Set}
use Rattle.vir_profile.specs.declared.ballot.Entry.{Entry}
use Rattle.vir_code.specs.declared.instr.Instr.{Instr}
use Rattle.vir_compile.specs.Exec.{State, act}

-- the domain with which a run began: the lowest on the stack, or that of the machine where the stack is empty
abbrev pub origin : Set → List Set → Set
origin domain [] = domain
origin domain (top ∷ rest) = origin top rest

-- no run of so many instructions on n alternatives takes more steps
abbrev pub steps_bound : ℕ → ℕ → ℕ
steps_bound n width = (n + 3) ^ width

-- one more than from the next state on, if there is one
abbrev pub one_more : (State → ℕ) → Option State → ℕ
one_more left None = 0
one_more left (Some s) = suc (left s)

-- by the instruction at a position, if there is one
abbrev pub at_instr : (Instr → ℕ) → Option Instr → ℕ
at_instr left None = 0
at_instr left (Some i) = left i

-- the number of steps from a state on, of which at most so many are counted
abbrev pub steps_within : List Instr → List Entry → ℕ → State → ℕ
steps_within code lines zero s = 0
steps_within code lines (suc n) s = at_instr (λ i. one_more (steps_within code lines n) (act lines i s))
    (slice_get code s.place)

-- the number of steps from a state on that is reached from a start
unfoldable pub steps_left : List Instr → List Entry → State → ℕ
steps_left code lines s =
    steps_within code lines (steps_bound (set.len (origin s.domain s.domains)) (length code)) s
