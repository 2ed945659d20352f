-- Which modules are called: by the meaning of a term, and by a run of code. They stand in the order of their calls.
-- (The program's promises don't stand on this file.)
use Rattle.std.specs.Prelude.{ℕ, zero, suc, if◌then◌else◌, List, [], ◌∷◌, ◌++◌, Option, Some, None, length, slice_get}
use Rattle.std.specs.FinSet as set
use Rattle.vir_altset.specs.Sets.{Set}
use Rattle.vir_profile.specs.declared.ballot.Entry.{Entry}
use Rattle.vir_profile.specs.Profiles.{restrict}
use Rattle.vir_term.specs.declared.leaf.Leaf.{Leaf}
use Rattle.vir_term.specs.Tree.{Tree, leaf, rev, seq, par, loop, End}
use Rattle.vir_code.specs.declared.instr.Instr.{Instr}
use Rattle.vir_code.specs.declared.instr.Instr.TheVariants.{Call}
use Rattle.vir_mean.specs.Modules.{Meaning}
use Rattle.vir_mean.specs.Compositions.{is_end}
use Rattle.vir_mean.specs.Meaning.{mean}
use Rattle.vir_compile.specs.Exec.{State, act}
use Rattle.vir_compile.specs.StepsLeft.{origin, steps_bound}

-- for each set and each profile on it, the modules that are called
abbrev pub Calls : Type 0
Calls = Set → List Entry → List Leaf

-- by a loop of at most so many turns
unfoldable pub turns_calls : ℕ → End → Meaning → Calls → Calls
turns_calls zero k body calls a lines = []
turns_calls (suc most) k body calls a lines =
    if is_end k (set.len a)
    then []
    else (calls a lines
    ++ (if set.is_subset a (body a lines).deferred
    then []
    else turns_calls most k body calls (body a lines).deferred (restrict (body a lines).deferred lines)))

-- by the meaning of a term
abbrev pub calls_of : Tree → Calls
calls_of (leaf l) a lines = l ∷ []
calls_of (rev part) a lines = calls_of part a lines
calls_of (seq first second) a lines =
    calls_of first a lines ++ calls_of second (mean first a lines).deferred (restrict (mean first a lines).deferred
    lines)
calls_of (par first second) a lines = calls_of first a lines ++ calls_of second a lines
calls_of (loop k body) a lines = turns_calls (suc (set.len a)) k (mean body) (calls_of body) a lines

-- by an instruction
abbrev pub called : Instr → List Leaf
called (Call l) = l ∷ []
called _ = []

-- from the next state on, if there is one
abbrev pub calls_after : (State → List Leaf) → Option State → List Leaf
calls_after calls None = []
calls_after calls (Some s) = calls s

-- by the instruction at a position, if there is one
abbrev pub calls_at : (Instr → List Leaf) → Option Instr → List Leaf
calls_at calls None = []
calls_at calls (Some i) = calls i

-- from a state on, within so many steps
abbrev pub calls_within : List Instr → List Entry → ℕ → State → List Leaf
calls_within code lines zero s = []
calls_within code lines (suc n) s =
    calls_at (λ i. called i ++ calls_after (calls_within code lines n) (act lines i s)) (slice_get code s.place)

-- from a state on that is reached from a start
unfoldable pub calls_left : List Instr → List Entry → State → List Leaf
calls_left code lines s =
    calls_within code lines (steps_bound (set.len (origin s.domain s.domains)) (length code)) s
