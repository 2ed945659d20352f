-- Marks of alternatives, that of x at place x.
-- (The program's promises don't stand on this file.)
use Rattle.std.specs.Prelude.{ℕ, List, Bool, false, slice_index_or}

-- whether x is marked
abbrev pub is_marked : List Bool → ℕ → Bool
is_marked marks x = slice_index_or marks x false
