-- Counts of faults.
use Rattle.std.specs.Prelude.{ℕ, ◌+◌, ◌-◌, ◌^◌, ◌≤◌, min, Result, OnErr, is_ok, if◌then◌else◌}

-- a count one higher, or the greatest `u64`
abbrev pub one_more : ℕ → ℕ
one_more n = min (n + 1) (2 ^ 64 - 1)

-- The count rose, or stands at the greatest `u64`.
abbrev pub Rose : ℕ → ℕ → Type 0
Rose before now = one_more before ≤ now

-- A count never falls, and a call fails only where it rose.
pub record HasCause {T E : Type 0} (before now : ℕ) (result : Result T E) : Type 0 where
  pub later : before ≤ now
  pub failed : OnErr result (Rose before now)

-- the count after a call that counts its failure, and nothing else
abbrev pub count_after : {T E : Type 0} → ℕ → Result T E → ℕ
count_after before result = if is_ok result then before else one_more before
