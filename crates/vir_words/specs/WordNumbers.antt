-- Numbers as words of the command line.
use Rattle.std.specs.Prelude.{ℕ, Bool, ◌&&◌, List, length, nat_le, nat_lt, Some, None, decimal, if◌then◌else◌}
use Rattle.std.specs.declared.option.Option.{Option}
use Rattle.std.specs.Char.{is_ascii_digit}
use Rattle.std.specs.List.{list_all}
use Rattle.std.specs.Str.{bytes_eq}
use Rattle.std.specs.Str.Parse.{digits_value}

-- one digit or more, and nothing else
abbrev pub is_number : List ℕ → Bool
is_number word = nat_lt 0 (length word) && list_all is_ascii_digit word

-- whether a number is one of low to high
abbrev pub is_within : ℕ → ℕ → ℕ → Bool
is_within low high number = nat_le low number && nat_le number high

-- the number that a word writes, where it writes one of low to high
abbrev pub number_within : ℕ → ℕ → List ℕ → Option ℕ
number_within low high word = if is_number word && is_within low high (digits_value 10 word)
    then Some (digits_value 10 word) else None

-- the number that a word writes without leading zeros, where it is at most so great
abbrev pub plain_number : ℕ → List ℕ → Option ℕ
plain_number most word =
    if bytes_eq (decimal (digits_value 10 word)) word then number_within 0 most word else None
