use Rattle.std.proofs.Common.{◌≤◌, ◌<◌, length, ℕ, List, Bool}
use Rattle.vir_soc.proofs.UsualLemmas.{AreSeen, Reads}
use Rattle.vir_soc.proofs.usual.places_of.Given as goal

pub record SoFar (m : ℕ) (bytes order rest : List ℕ) (seen : List Bool) : Type 0 where
  pub reads : Reads m bytes order rest
  pub size : m < length seen
  pub marks : AreSeen m seen order
  pub room : 1 ≤ m → length order < m

abbrev pub invariant-loop-order : goal.invariant-loop-order
invariant-loop-order g l = SoFar l.m l.bytes (g.P.Places.list l.order) l.rest l.seen

abbrev pub decreases-loop-order : goal.decreases-loop-order
decreases-loop-order g l = length l.rest
