-- The generated profile of `drill`: orders that a seed gives, one after another.
use Rattle.std.specs.Prelude.{ℕ, zero, suc, ◌+◌, ◌*◌, ◌/◌, ◌%◌, ◌^◌, List, [], ◌∷◌}
use Rattle.std.specs.List.{insert}
use Rattle.vir_profile.specs.declared.ballot.Entry.{Entry}
use Rattle.vir_profile.specs.Profiles.{Votes}

-- the state that follows a state
unfoldable pub next_state : ℕ → ℕ
next_state x = (6364136223846793005 * x + 1442695040888963407) % 2 ^ 64

-- the draw that a state gives
unfoldable pub draw_of : ℕ → ℕ
draw_of x = x / 2 ^ 33

-- an order, and the state that its draws led to
pub record Drawn : Type 0 where
  pub order : List ℕ
  pub state : ℕ

-- the order with alternative j at the place that the next draw modulo j gives, 0 being the front
abbrev pub with_next : ℕ → Drawn → Drawn
with_next j drawn = record {
  order = insert drawn.order (draw_of (next_state drawn.state) % j) j;
  state = next_state drawn.state;
}

-- the order of m alternatives that is drawn from a state on: alternative 1 stands there at first, and each further one
-- is put in
unfoldable pub drawn_from : ℕ → ℕ → Drawn
drawn_from x zero = record { order = []; state = x }
drawn_from x (suc zero) = record { order = 1 ∷ []; state = x }
drawn_from x (suc (suc k)) = with_next (suc (suc k)) (drawn_from x (suc k))

-- so many lines of weight 1 on m alternatives from a state on, each from the state that the one before it led to
unfoldable pub lines_from : ℕ → ℕ → ℕ → List Entry
lines_from m x zero = []
lines_from m x (suc n) = record { weight = 1; order = (drawn_from x m).order } ∷ lines_from m (drawn_from x m).state n

-- the profile of so many lines on m alternatives from a seed
abbrev pub drill_votes : ℕ → ℕ → ℕ → Votes
drill_votes seed lines m = record { alternatives = m; lines = lines_from m seed lines }
