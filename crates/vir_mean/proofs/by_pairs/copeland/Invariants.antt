use Rattle.std.proofs.Common.{◌≡◌, ◌+◌, ◌≤◌, drop}
use Rattle.vir_mean.proofs.by_pairs.copeland.Given as goal
use Rattle.vir_altset.specs.Splits.{bit}
use Rattle.vir_mean.specs.Listings.{total}
use Rattle.vir_mean.specs.Scores.{beats}

abbrev pub invariant-loop-y : goal.invariant-loop-y
invariant-loop-y g l = record {
  won : l.won + total (λ z. bit (beats (g.T.Tally.lines l.tally l.domain) l.x z)) (drop l.y-index l.members)
      ≡ total (λ z. bit (beats (g.T.Tally.lines l.tally l.domain) l.x z)) l.members;
  lost : l.lost + total (λ z. bit (beats (g.T.Tally.lines l.tally l.domain) z l.x)) (drop l.y-index l.members)
      ≡ total (λ z. bit (beats (g.T.Tally.lines l.tally l.domain) z l.x)) l.members;
  few_won : l.won ≤ l.y-index;
  few_lost : l.lost ≤ l.y-index;
}
