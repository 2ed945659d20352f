-- How large a file may be.
use Rattle.std.specs.Prelude.{ℕ}

-- the most bytes that the file of a profile may have
abbrev pub profile_size_limit : ℕ
profile_size_limit = 268435456
