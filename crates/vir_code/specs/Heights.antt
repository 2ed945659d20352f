-- For a private clause alone: the depth by a pass over the instructions, each done once.
-- (The program's promises don't stand on this file.)
use Rattle.std.specs.Prelude.{ℕ, ◌+◌, ◌-◌, max, List, [], ◌∷◌}
use Rattle.vir_code.specs.declared.instr.Instr.{Instr}
use Rattle.vir_code.specs.declared.instr.Instr.TheVariants.{Call, KeepDomain, FetchDomain, JoinSeq, JoinMax, Revise}
use Rattle.vir_code.specs.declared.instr.Instr.TheVariants.{StartLoop, LoopTest, UntilTest, LoopBack, EndLoop}

-- how many splits are on the stack after an instruction, where so many were there before
abbrev pub height_after : Instr → ℕ → ℕ
height_after (Call l) height = height + 1
height_after KeepDomain height = height
height_after FetchDomain height = height
height_after JoinSeq height = height - 1
height_after JoinMax height = height - 1
height_after Revise height = height
height_after StartLoop height = height + 1
height_after (LoopTest k exit) height = height
height_after (UntilTest k exit) height = height
height_after (LoopBack start) height = height - 1
height_after EndLoop height = height

-- the greatest number of splits that there was or that is to come
abbrev pub peak_from : ℕ → ℕ → List Instr → ℕ
peak_from height most [] = most
peak_from height most (instr ∷ rest) = peak_from (height_after instr height) (max most (height_after instr height)) rest

-- the greatest number of splits on the stack
abbrev pub peak_of : List Instr → ℕ
peak_of code = peak_from 0 0 code
