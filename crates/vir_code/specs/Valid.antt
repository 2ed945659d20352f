-- Which lists of instructions are valid code.
-- (The program's promises don't stand on this file.)
use Rattle.std.specs.Prelude.{◌≡◌, ◌≤◌, ℕ, List, length}
use Rattle.vir_term.specs.Tree.{Tree}
use Rattle.vir_term.specs.Limits.{IsWithinLimits}
use Rattle.vir_code.specs.declared.instr.Instr.{Instr}
use Rattle.vir_code.specs.Code.{code_of}

-- the greatest number of instructions
abbrev pub code_limit : ℕ
code_limit = 2000

-- a list of few enough instructions that is the code of a term within limits
pub record IsValid (list : List Instr) : Type 0 where
  pub few : length list ≤ code_limit
  pub term : Tree
  pub within : IsWithinLimits term
  pub is : list ≡ code_of term
