use Rattle.std.proofs.Common.{◌∙◌, subst}
use Rattle.vir_altset.specs.Sets.{all}
use Rattle.vir_profile.specs.Profiles.{restrict}
use Rattle.vir_profile.proofs.RestrictionLaws.{restricted_orders, profiles_are_complete}
use Rattle.vir_mean.specs.Numbers.{AreScores}
use Rattle.vir_positional.specs.Positional.{positional}
use Rattle.vir_positional.proofs.NamedScores.{borda_by_weights}
use Rattle.vir_score.proofs.kept_score.fill_borda.Goals as goal

pub returns : goal.returns
returns c =
    let votes = c.args.election.now.profile in
    let d = c.args.domain.now in
    let lines = restrict d votes.lines in
    let on = restricted_orders (all votes.alternatives) d votes.lines c.requires.part (profiles_are_complete votes
    c.alternatives-alternatives.ensures.limits) in
    let each = subst (λ k. AreScores d (positional k d lines) c.fill.new.scores) c.new-rule.ensures
    c.fill.ensures.each in
    record {
      size = each.size;
      each = λ x inside. each.each x inside ∙ borda_by_weights d lines x on inside;
    }
