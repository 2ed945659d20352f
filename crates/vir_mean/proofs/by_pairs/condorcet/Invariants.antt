use Rattle.std.proofs.Common.{◌≡◌, ◌||◌, nat_eq, drop}
use Rattle.std.specs.List.{list_all}
use Rattle.vir_mean.proofs.by_pairs.condorcet.Given as goal
use Rattle.vir_mean.specs.Scores.{beats}

abbrev pub invariant-loop-y : goal.invariant-loop-y
invariant-loop-y g l = list_all (λ z. nat_eq z l.x || beats (g.T.Tally.lines l.tally l.domain) l.x z) l.members
    ≡ list_all (λ z. nat_eq z l.x || beats (g.T.Tally.lines l.tally l.domain) l.x z) (drop l.y-index l.members)
