-- What the code adds up line by line. Only clauses of private functions cite this; what a positional score is doesn't
-- rest on it.
-- (The program's promises don't stand on this file.)
use Rattle.std.specs.Prelude.{◌≡◌, ℕ, suc, ◌+◌, ◌<◌, Bool, List, [], ◌∷◌, length, slice_index, nat_eq, if◌then◌else◌}
use Rattle.vir_altset.specs.Sets.{limit}

-- what x gets of the rest of an order, before which so many members stand: at each place of a member x the gain of that
-- place
abbrev pub gained : (ℕ → Bool) → (ℕ → ℕ) → ℕ → ℕ → List ℕ → ℕ
gained is_member gain x place [] = 0
gained is_member gain x place (y ∷ rest) =
    if is_member y then (if nat_eq x y then gain place else 0) + gained is_member gain x (suc place) rest
    else gained is_member gain x place rest

-- The first n numbers of the list are what f gives, from 0 on.
pub record AreFirst (n : ℕ) (f : ℕ → ℕ) (list : List ℕ) : Type 0 where
  pub size : length list ≡ limit
  pub each : (i : ℕ) → i < n → slice_index list i ≡ f i
