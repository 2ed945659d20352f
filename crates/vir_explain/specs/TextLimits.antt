-- How long the text of an explanation may be.
use Rattle.std.specs.Prelude.{ℕ, ◌<◌, List, length}

-- the most bytes of a text, with what stands before the explanation
abbrev pub text_limit : ℕ
text_limit = 268435456

-- The text has more.
abbrev pub IsTooLong : List ℕ → Type 0
IsTooLong text = text_limit < length text
