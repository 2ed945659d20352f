use Rattle.std.proofs.Common.{◌<◌, ◌^◌, arith}
use Rattle.vir_profile.specs.Profiles.{total_weight}
use Rattle.vir_mean.proofs.scores.fill_scores.Goals as goal
use Rattle.vir_term.specs.declared.score.Score.TheVariants.{Plurality}
use Rattle.vir_mean.proofs.ScoreSizes.{all_small}

pub returns-in-Plurality-clause-small : goal.returns-in-Plurality-clause-small
returns-in-Plurality-clause-small g c =
    let few : total_weight (g.T.Tally.lines c.args.tally.now c.args.domain.now) < 2 ^ 64 =
    omega (arith, c.voters-voters.ensures) in
    all_small Plurality c.args.domain.now (g.T.Tally.lines c.args.tally.now c.args.domain.now) c.args.members.now _ few
    c.requires.members c.fill_by_first_places.ensures

pub returns-in_default : goal.returns-in_default
returns-in_default g c =
    let few : total_weight (g.T.Tally.lines c.args.tally.now c.args.domain.now) < 2 ^ 64 =
    omega (arith, c.voters-voters.ensures) in
    record {
      each = c.fill_each.ensures;
      small = all_small c.args.named c.args.domain.now
          (g.T.Tally.lines c.args.tally.now c.args.domain.now) c.args.members.now _ few c.requires.members
          c.fill_each.ensures;
    }
