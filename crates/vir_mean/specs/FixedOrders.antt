-- The first members of a set in a fixed order: the listed alternatives, and then all others ascending.
use Rattle.std.specs.Prelude.{ℕ, suc, Bool, ◌||◌, ◌&&◌, nat_eq, nat_lt, if◌then◌else◌, List, [], ◌∷◌}
use Rattle.std.specs.FinSet as set
use Rattle.vir_altset.specs.Sets.{Set}

-- how many stand in a list before x; all of them where x isn't listed
abbrev pub place : ℕ → List ℕ → ℕ
place x [] = 0
place x (y ∷ rest) = if nat_eq x y then 0 else suc (place x rest)

-- whether y comes before x in the fixed order
abbrev pub is_ahead : List ℕ → ℕ → ℕ → Bool
is_ahead order x y = nat_lt (place y order) (place x order) || (nat_eq (place y order) (place x order) && nat_lt y x)

-- whether fewer than k members come before x
abbrev pub is_among_first : ℕ → List ℕ → Set → ℕ → Bool
is_among_first k order a x = nat_lt (set.len (set.retain a (is_ahead order x))) k

-- the first k members in the fixed order, or all where there are fewer
abbrev pub first_members : ℕ → List ℕ → Set → Set
first_members k order a = set.retain a (is_among_first k order a)
