-- The modules that reject by scores.
use Rattle.std.specs.Prelude.{ℕ, Bool, not, if◌then◌else◌, List, [], ◌∷◌, map, ℤ, pos, ◌+ℤ◌, ◌*ℤ◌, int_lt, int_le}
use Rattle.std.specs.FinSet as set
use Rattle.std.specs.List.{list_any}
use Rattle.vir_altset.specs.Sets.{Set}
use Rattle.vir_altset.specs.declared.split.Split.{Split}
use Rattle.vir_profile.specs.declared.ballot.Entry.{Entry}
use Rattle.vir_term.specs.declared.score.Score.{Score}
use Rattle.vir_mean.specs.declared.elimination.Elimination.{Elimination}
use Rattle.vir_mean.specs.declared.elimination.Elimination.TheVariants.{Max, Min, Below, Upto}
use Rattle.vir_mean.specs.Listings.{listed}
use Rattle.vir_mean.specs.Scores.{score}
use Rattle.vir_mean.specs.Undecided.{undecided}

-- the sum of whole numbers
abbrev pub sum : List ℤ → ℤ
sum [] = pos 0
sum (z ∷ rest) = z +ℤ sum rest

-- the sum of f over the members of a set
abbrev pub sum_of : (ℕ → ℤ) → Set → ℤ
sum_of f a = sum (map f (listed a))

-- whether some member has a greater f than x
abbrev pub is_passed : (ℕ → ℤ) → Set → ℕ → Bool
is_passed f a x = list_any (λ y. int_lt (f x) (f y)) (set.items a)

-- whether no member has a smaller f than x
abbrev pub is_least : (ℕ → ℤ) → Set → ℕ → Bool
is_least f a x = not (list_any (λ y. int_lt (f y) (f x)) (set.items a))

-- f of x, times the size of the set: what is compared with the sum, so that no average is rounded
abbrev pub scaled : (ℕ → ℤ) → Set → ℕ → ℤ
scaled f a x = f x *ℤ pos (set.len a)

-- whether x is to go: below the greatest, at the least, below the average, or at most at the average
abbrev pub goes : Elimination → (ℕ → ℤ) → Set → ℕ → Bool
goes Max f a x = is_passed f a x
goes Min f a x = is_least f a x
goes Below f a x = int_lt (scaled f a x) (sum_of f a)
goes Upto f a x = int_le (scaled f a x) (sum_of f a)

-- these are rejected and the others deferred; or all are deferred, where these are all
abbrev pub eliminated : Set → Set → Split
eliminated a gone =
    if set.is_subset a gone then undecided a
    else record { elected = set.empty; rejected = gone; deferred = set.difference a gone }

-- those that are to go by a score are eliminated
abbrev pub eliminator : Elimination → Score → Set → List Entry → Split
eliminator kind named a lines = eliminated a (set.retain a (goes kind (score named a lines) a))
