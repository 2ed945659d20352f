use Rattle.std.proofs.Common.{◌≡◌, ◌||◌, ◌&&◌, ℕ, nat_eq, drop}
use Rattle.std.specs.FinSet as set
use Rattle.std.specs.List.{list_any}
use Rattle.vir_mean.proofs.elimination.find_gone.Given as goal
use Rattle.vir_mean.specs.Numbers.{score_of}
use Rattle.vir_mean.specs.Eliminators.{goes}

abbrev pub invariant-loop-x : goal.invariant-loop-x
invariant-loop-x l = (y : ℕ) → (set.contains l.gone y || (list_any (nat_eq y) (drop l.x-index l.members)
    && goes l.kind (score_of l.scores) l.domain y)) ≡ (list_any (nat_eq y) l.members && goes l.kind (score_of l.scores)
    l.domain y)
