use Rattle.std.proofs.Common.{◌≡◌, ◌<◌, ◌^◌, ◌∙◌, ◌++◌, List, ap, subst, take, arith, Some}
use Rattle.vir_altset.specs.Members.{members}
use Rattle.vir_mean.specs.Eliminators.{eliminated}
use Rattle.vir_mean.specs.Numbers.{AreScores, score_of}
use Rattle.vir_mean.specs.Scores.{score}
use Rattle.vir_mean.proofs.EliminatedSplits.{goes_same, retain_same}
use Rattle.vir_mean.proofs.ScoreSizes.{all_small}
use Rattle.vir_profile.specs.Profiles.{restrict, total_weight}
use Rattle.vir_explain.specs.Visits.{Scored, scored, scores_by}
use Rattle.vir_explain.specs.VisitTexts.{scores_text}
use Rattle.vir_explain.proofs.Listed.{scored_same}
use Rattle.vir_explain.proofs.modules.tell_eliminated.Goals as goal

pub eliminate_by_scores-requires-clause-small : goal.eliminate_by_scores-requires-clause-small
eliminate_by_scores-requires-clause-small c =
    let lines = restrict c.args.domain.now c.args.election.now.profile.lines in
    let few : total_weight lines < 2 ^ 64 = omega (arith, c.voters-voters.ensures) in
    all_small c.args.named c.args.domain.now lines _ _ few c.list_members-count.ensures.members
    (subst (λ named. AreScores c.args.domain.now (score named c.args.domain.now lines) c.fill.new.scores) c.new.ensures
    c.fill.ensures)

pub returns-clause-split : goal.returns-clause-split
returns-clause-split c =
    let domain = c.args.domain.now in
    let lines = restrict domain c.args.election.now.profile.lines in
    let are = subst (λ named. AreScores domain (score named domain lines) c.fill.new.scores) c.new.ensures
    c.fill.ensures in
    c.eliminate_by_scores.ensures ∙ ap (eliminated domain)
    (retain_same domain _ _ (goes_same _ (score c.args.named domain lines) domain are.each c.args.kind))

pub returns-clause-text : goal.returns-clause-text
returns-clause-text c =
    let domain = c.args.domain.now in
    let lines = restrict domain c.args.election.now.profile.lines in
    let are = subst (λ named. AreScores domain (score named domain lines) c.fill.new.scores) c.new.ensures
    c.fill.ensures in
    let f = score_of c.fill.new.scores in
    let list = take c.list_members-count.result c.list_members-count.new.list in
    let listed : list ≡ members domain = c.list_members-count.ensures.ascending in
    let same : scored f list ≡ scores_by domain lines c.args.named =
    scored_same f (score c.args.named domain lines) list
    (λ i below. are.each _ (c.list_members-count.ensures.members.each i below).0)
    ∙ ap (scored (score c.args.named domain lines)) listed in
    c.in_ok-push_scores.ensures ∙ ap (λ (ss : List Scored). c.args.text.now.items ++ scores_text (Some ss)) same
