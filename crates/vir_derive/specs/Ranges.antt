-- Which rows of the table conclude a property: they stand together in two places, in the order of the properties in the
-- first, and behind it in the second.
-- (The program's promises don't stand on this file.)
use Rattle.std.specs.Prelude.{ℕ, suc, List, [], ◌∷◌, slice_index}
use Rattle.vir_term.specs.declared.prop.Prop.{Prop}
use Rattle.vir_rules.specs.Props.{rank}
use Rattle.vir_rules.specs.declared.rule_id.TheConstants.RuleId.{COUNT}

-- how many rows stand before those of each rank, and behind the last ones
abbrev pub row_starts : List ℕ
row_starts = 0 ∷ 0 ∷ 5 ∷ 9 ∷ 15 ∷ 20 ∷ 21 ∷ 23 ∷ 31 ∷ 36 ∷ 41 ∷ 42 ∷ 45 ∷ 50 ∷ 56 ∷ 60 ∷ 66 ∷ 70 ∷ 76 ∷ 76 ∷ []

-- how many rows stand before the later ones of each rank; all of them, where there are none
abbrev pub later_starts : List ℕ
later_starts = COUNT ∷ 88 ∷ COUNT ∷ COUNT ∷ 89 ∷ COUNT ∷ COUNT ∷ 91 ∷ COUNT ∷ 92 ∷ COUNT ∷ COUNT ∷ COUNT ∷ COUNT ∷ COUNT
    ∷ 93 ∷ COUNT ∷ 94 ∷ 82 ∷ []

-- how many rows stand up to the last one of each rank
abbrev pub later_ends : List ℕ
later_ends = COUNT ∷ 89 ∷ COUNT ∷ COUNT ∷ 91 ∷ COUNT ∷ COUNT ∷ 92 ∷ COUNT ∷ 93 ∷ COUNT ∷ COUNT ∷ COUNT ∷ COUNT ∷ COUNT
    ∷ 94 ∷ COUNT ∷ COUNT ∷ 88 ∷ []

-- how many rows stand before those that conclude a property
abbrev pub first_row : Prop → ℕ
first_row q = slice_index row_starts (rank q)

-- how many rows stand up to the last one of those that stand together there
abbrev pub end_row : Prop → ℕ
end_row q = slice_index row_starts (suc (rank q))

-- how many rows stand before the later ones that conclude it
abbrev pub later_row : Prop → ℕ
later_row q = slice_index later_starts (rank q)

-- how many rows stand up to the last one that concludes it
abbrev pub later_end : Prop → ℕ
later_end q = slice_index later_ends (rank q)
