-- Lists of sound rows.
use Rattle.std.proofs.Common.{ℕ, ◌-◌, List, [], ◌∷◌, ◌++◌, drop, take}
use Rattle.vir_rules.specs.Table.{Rule, table}
use Rattle.vir_sound.specs.Truth.{IsSoundRow}

-- Each of these rows is sound.
abbrev pub AllSound : List Rule → Type 0
AllSound [] = Unit {0}
AllSound (row ∷ rest) = IsSoundRow row × AllSound rest

infixr 20 ◌&◌
-- two facts, so that a list of sound rows reads as one
pub ◌&◌ : {A B : Type 0} → A → B → A × B
a & b = (a, b)

-- so many rows of the table, the first of them of this number
abbrev pub rows_from : ℕ → ℕ → List Rule
rows_from first many = take many (drop (first - 1) table)

-- two lists of sound rows, one behind the other
pub both_sound : (rows others : List Rule) → AllSound rows → AllSound others → AllSound (rows ++ others)
both_sound [] others sound more = more
both_sound (row ∷ rest) others sound more = (sound.0, both_sound rest others sound.1 more)
