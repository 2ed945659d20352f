-- Numbers as text.
use Rattle.std.specs.Prelude.{ℕ, ◌&&◌, List, length, Option, Some, None, if◌then◌else◌, nat_lt}
use Rattle.std.specs.List.{list_all}
use Rattle.std.specs.Char.{is_ascii_digit}
use Rattle.std.specs.Str.Parse.{digits_value}

-- the number that a text spells, where it is one or more digits
abbrev pub number : List ℕ → Option ℕ
number text = if nat_lt 0 (length text) && list_all is_ascii_digit text then Some (digits_value 10 text) else None
