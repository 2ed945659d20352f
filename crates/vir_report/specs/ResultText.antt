-- The text of a result.
use Rattle.std.specs.Prelude.{ℕ, List, [], ◌∷◌, ◌++◌, codes, decimal}
use Rattle.std.specs.List.{flat_map}
use Rattle.vir_altset.specs.Sets.{Set}
use Rattle.vir_altset.specs.Members.{members}
use Rattle.vir_altset.specs.declared.split.Split.{Split}

-- for each number a space and its digits
abbrev pub spaced : List ℕ → List ℕ
spaced numbers = flat_map (λ number. 32 ∷ decimal number) numbers

-- the line of a set: its name, a colon, and its members in ascending order
abbrev pub set_line : List ℕ → Set → List ℕ
set_line name a = name ++ codes ":" ++ spaced (members a) ++ 10 ∷ []

-- the three lines of a result
abbrev pub result_text : Split → List ℕ
result_text split = set_line (codes "elected") split.elected ++ set_line (codes "rejected") split.rejected
    ++ set_line (codes "deferred") split.deferred
