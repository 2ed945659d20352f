-- What a ballot lists, wherever its alternatives stand.
-- (The program's promises don't stand on this file.)
use Rattle.std.specs.Prelude.{ℕ, List}
use Rattle.vir_profile.specs.declared.ballot.Long.{Long}
use Rattle.vir_profile.specs.declared.ballot.Long.TheVariants.{Narrow, Wide}
use Rattle.vir_profile.specs.declared.ballot.Members.{Members}
use Rattle.vir_profile.specs.declared.ballot.Members.TheVariants as kept

-- the alternatives of a longer order
abbrev pub long_of : Long → List ℕ
long_of (Narrow order) = order
long_of (Wide order) = order.items

-- the alternatives, the most preferred first
abbrev pub alternatives_of : Members → List ℕ
alternatives_of (kept.Few order) = order
alternatives_of (kept.Long order) = long_of order.value
