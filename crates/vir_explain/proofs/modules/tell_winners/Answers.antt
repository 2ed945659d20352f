use Rattle.std.proofs.Common.{ap, ◌∙◌}
use Rattle.vir_profile.specs.Profiles.{restrict}
use Rattle.vir_mean.specs.Scores.{plurality_score}
use Rattle.vir_explain.proofs.Led.{led_split, settled}
use Rattle.vir_explain.proofs.modules.tell_winners.Goals as goal

pub returns-clause-split : goal.returns-clause-split
returns-clause-split c =
    let domain = c.args.domain.now in
    let lines = restrict domain c.args.election.now.profile.lines in
    c.defer_none.ensures ∙ ap settled c.in_ok-led.ensures.split ∙ led_split (plurality_score lines) domain
