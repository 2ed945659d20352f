-- The members of a set as a list, and sums over it.
use Rattle.std.specs.Prelude.{ℕ, ◌+◌, not, min, nat_eq, if◌then◌else◌, List, [], ◌∷◌, filter}
use Rattle.std.specs.FinSet as set
use Rattle.std.specs.List.{list_any}
use Rattle.vir_altset.specs.Sets.{Set}

-- the list without what stands again further on
abbrev pub once : List ℕ → List ℕ
once [] = []
once (x ∷ rest) = if list_any (nat_eq x) rest then once rest else (x ∷ once rest)

-- the members of a set, each once
abbrev pub listed : Set → List ℕ
listed a = once (set.items a)

-- the members of a set other than x
abbrev pub others : ℕ → Set → List ℕ
others x a = filter (λ y. not (nat_eq x y)) (listed a)

-- the sum of f over a list
abbrev pub total : (ℕ → ℕ) → List ℕ → ℕ
total f [] = 0
total f (x ∷ rest) = f x + total f rest

-- the least of f over a list, and 0 over none
abbrev pub least : (ℕ → ℕ) → List ℕ → ℕ
least f [] = 0
least f (x ∷ []) = f x
least f (x ∷ y ∷ rest) = min (f x) (least f (y ∷ rest))
