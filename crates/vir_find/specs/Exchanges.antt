-- Two neighbours change names.
-- (The program's promises don't stand on this file.)
use Rattle.std.specs.Prelude.{ℕ, suc, nat_eq, if◌then◌else◌}

-- the name that i and the next number give each other, and all others keep
abbrev pub exchanging : ℕ → ℕ → ℕ
exchanging i x = if nat_eq x i then suc i else (if nat_eq x (suc i) then i else x)
