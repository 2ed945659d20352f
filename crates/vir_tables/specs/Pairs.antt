-- Two alternatives, of which an order has one first.
-- (The program's promises don't stand on this file.)
use Rattle.std.specs.Prelude.{ℕ, Bool, ◌||◌, nat_eq}

-- whether z is one of the two
abbrev pub is_one_of : ℕ → ℕ → ℕ → Bool
is_one_of x y z = nat_eq z x || nat_eq z y
