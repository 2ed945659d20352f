-- Lists of weights, one for each place of a ballot, the front first.
use Rattle.std.specs.Prelude.{ℕ, ◌-◌, Bool, true, ◌&&◌, nat_le, nat_lt, List, [], ◌∷◌, length, slice_index}

-- whether each number of a list is at most the one before it, and the first at most `most`
abbrev pub falls_from : ℕ → List ℕ → Bool
falls_from most [] = true
falls_from most (weight ∷ rest) = nat_le weight most && falls_from weight rest

-- whether a list is one of weights: 1 to 1,024 numbers, each at most 1,000,000, of which none is greater than the one
-- before it
abbrev pub are_weights : List ℕ → Bool
are_weights list = nat_lt 0 (length list) && (nat_le (length list) 1024 && falls_from 1000000 list)

-- the last weight of a list
abbrev pub last_weight : List ℕ → ℕ
last_weight list = slice_index list (length list - 1)
