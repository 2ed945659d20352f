-- Orders of alternatives, the most preferred first.
use Rattle.std.specs.Prelude.{◌≡◌, ℕ, Bool, true, false, List, [], ◌∷◌, count_by, nat_eq, if◌then◌else◌}
use Rattle.std.specs.FinSet as set
use Rattle.vir_altset.specs.Sets.{Set}

-- how often x stands in the order
abbrev pub times : ℕ → List ℕ → ℕ
times x order = count_by (λ y. nat_eq y x) order

-- The order lists each member of the set once, and nothing else.
abbrev pub IsListing : Set → List ℕ → Type 0
IsListing a order = (x : ℕ) → times x order ≡ (if set.contains a x then 1 else 0)

-- whether the order puts x before y: going from the front, x is met, and y isn't met sooner
abbrev pub puts_before : ℕ → ℕ → List ℕ → Bool
puts_before x y [] = false
puts_before x y (z ∷ rest) = if nat_eq z y then false else (if nat_eq z x then true else puts_before x y rest)

-- whether the order begins with x
abbrev pub begins_with : ℕ → List ℕ → Bool
begins_with x [] = false
begins_with x (y ∷ rest) = nat_eq y x
