-- Bytes as lines, and lines without what does not count.
use Rattle.std.specs.Prelude.{ℕ, ◌-◌, List, [], ◌∷◌, length, take, drop, if◌then◌else◌}
use Rattle.std.specs.List.{slice_split, slice_index_or, prefix_len, suffix_len}
use Rattle.std.specs.Str.{bytes_eq}
use Rattle.vir_profile.specs.SocFiles.{is_blank, is_line_feed}

-- the lines: what stands between the line feeds
abbrev pub lines : List ℕ → List (List ℕ)
lines bytes = slice_split is_line_feed bytes

-- the lines that a line feed ends: all but the last
abbrev pub ended_lines : List ℕ → List (List ℕ)
ended_lines bytes = take (length (lines bytes) - 1) (lines bytes)

-- the last line, which no line feed ends
abbrev pub last_line : List ℕ → List ℕ
last_line bytes = slice_index_or (lines bytes) (length (lines bytes) - 1) []

-- without the blanks at its front
abbrev pub trim_front : List ℕ → List ℕ
trim_front text = drop (prefix_len is_blank text) text

-- without the blanks at its end
abbrev pub trim_back : List ℕ → List ℕ
trim_back text = take (length text - suffix_len is_blank text) text

-- without the blanks at both ends
abbrev pub trim : List ℕ → List ℕ
trim text = trim_back (trim_front text)

-- without a byte order mark at its front
abbrev pub without_mark : List ℕ → List ℕ
without_mark text = if bytes_eq (take 3 text) (0xEF ∷ 0xBB ∷ 0xBF ∷ []) then drop 3 text else text
