-- Numbers of calls.
use Rattle.std.specs.Prelude.{ℕ, ◌+◌, ◌-◌, ◌^◌, min, max}

-- a number of calls that has risen by n, or to the greatest u64 where that is less; it never falls
abbrev pub risen : ℕ → ℕ → ℕ
risen calls n = max calls (min (calls + n) (2 ^ 64 - 1))
