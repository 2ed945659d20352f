-- How many rules there are.
use Rattle.std.specs.Prelude.{ℕ}

-- the number of rows of the table
abbrev pub rule_count : ℕ
rule_count = 95
