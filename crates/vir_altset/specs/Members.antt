-- The members of a set in ascending order.
use Rattle.std.specs.Prelude.{ℕ, zero, suc, List, [], ◌∷◌, ◌++◌, if◌then◌else◌}
use Rattle.std.specs.FinSet as set
use Rattle.vir_altset.specs.Sets.{Set, limit}

-- those from 1 to n
unfoldable pub members_up_to : ℕ → Set → List ℕ
members_up_to zero a = []
members_up_to (suc n) a = if set.contains a (suc n) then members_up_to n a ++ suc n ∷ [] else members_up_to n a

-- all of a set of alternatives, of which none is above the limit
abbrev pub members : Set → List ℕ
members a = members_up_to limit a
