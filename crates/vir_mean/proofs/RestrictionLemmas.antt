-- Lines restricted twice.
use Rattle.std.proofs.Common.{◌≡◌, ℕ, Bool, true, cond, List, [], ◌∷◌, filter, refl, arith}
use Rattle.std.specs.FinSet as set
use Rattle.vir_altset.specs.Sets.{Set, IsPart}
use Rattle.vir_profile.specs.declared.ballot.Entry.{Entry}
use Rattle.vir_profile.specs.Profiles.{restrict}

-- of two tests the narrower one alone decides
pub filter-filter : (wide narrow : ℕ → Bool) → ((x : ℕ) → narrow x ≡ true → wide x ≡ true) → (order : List ℕ)
    → filter narrow (filter wide order) ≡ filter narrow order
filter-filter wide narrow within [] = refl
filter-filter wide narrow within (x ∷ rest) = step (filter wide rest) (within x) (filter-filter wide narrow within rest)
  where
    step : (kept : List ℕ) → (narrow x ≡ true → wide x ≡ true) → filter narrow kept ≡ filter narrow rest
        → filter narrow (cond (wide x) (x ∷ kept) kept) ≡ cond (narrow x) (x ∷ filter narrow rest) (filter narrow rest)
    step kept within same = grind arith

-- restricted to a set, and then to a part of it
pub restrict-restrict : (d a : Set) → IsPart d a → (lines : List Entry) → restrict d (restrict a lines)
    ≡ restrict d lines
restrict-restrict d a part [] = refl
restrict-restrict d a part (line ∷ rest) = λ i.
    record { weight = line.weight; order = filter-filter (set.contains a) (set.contains d) part line.order i }
    ∷ restrict-restrict d a part rest i
