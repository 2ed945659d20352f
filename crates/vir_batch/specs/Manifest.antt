-- The names that a manifest lists, or its first fault.
use Rattle.std.specs.Prelude.{ℕ, ◌+◌, ◌-◌, ◌==◌, Bool, not, nat_lt, if◌then◌else◌, List, [], ◌∷◌, ◌++◌, length, take}
use Rattle.std.specs.Prelude.{slice_index, Ok, Err}
use Rattle.std.specs.List.{slice_split}
use Rattle.std.specs.Str.{is_utf8}
use Rattle.vir_read.specs.declared.text_fault.TextKind.TheVariants.{BadByte, TextTooLong, TooLarge}
use Rattle.vir_read.specs.Faults.{OrFault, ◌>>=◌, fault}

-- a byte that ends a line
abbrev pub is_line_feed : ℕ → Bool
is_line_feed byte = byte == 10

-- the lines of a text: what stands between the line feeds
abbrev pub lines : List ℕ → List (List ℕ)
lines text = slice_split is_line_feed text

-- a line without the carriage return at its end
abbrev pub without_return : List ℕ → List ℕ
without_return line = if slice_index line (length line - 1) == 13 then take (length line - 1) line else line

-- names, and behind them the line at a place; an empty line is no name
abbrev pub with_line : List (List ℕ) → ℕ → List ℕ → OrFault (List (List ℕ))
with_line names at line =
    if length line == 0 then Ok names
    else (if not (is_utf8 line) then Err (fault BadByte at)
    else (if nat_lt (length names) 10000 then Ok (names ++ line ∷ []) else Err (fault TooLarge at)))

-- names, and behind them the lines from a place on, each without its carriage return
abbrev pub with_lines : List (List ℕ) → ℕ → List (List ℕ) → OrFault (List (List ℕ))
with_lines names at [] = Ok names
with_lines names at (line ∷ rest) =
    with_line names at (without_return line) >>= λ more. with_lines more (at + length line + 1) rest

-- The names that a text lists, or its first fault: that it is too long, or the first of a line that isn't text or that
-- is one name too many.
abbrev pub manifest_of : List ℕ → OrFault (List (List ℕ))
manifest_of text =
    if nat_lt 1048576 (length text) then Err (fault TextTooLong 1048576)
    else with_lines [] 0 (lines text)
