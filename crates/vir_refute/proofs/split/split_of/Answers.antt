use Rattle.std.proofs.Common.{◌≡◌, IfOk, List, ap, subst, ◌∙◌}
use Rattle.vir_altset.specs.Sets.{Set, all}
use Rattle.vir_profile.specs.declared.ballot.Entry.{Entry}
use Rattle.vir_profile.specs.Profiles.{restrict}
use Rattle.vir_profile.proofs.RestrictionLaws.{profiles_are_complete, restricted_to_the_whole}
use Rattle.vir_term.specs.Tree.{tree}
use Rattle.vir_mean.specs.Meaning.{mean}
use Rattle.vir_refute.proofs.split.split_of.Goals as goal

pub returns : goal.returns
returns c =
    let rule = tree c.args.term.now in
    let votes = c.args.profile.now in
    let whole : restrict (all votes.alternatives) votes.lines ≡ votes.lines =
    restricted_to_the_whole (all votes.alternatives) votes.lines
    (profiles_are_complete votes c.alternatives.ensures.limits) in
    subst (λ (lines : List Entry). IfOk c.plain_result.result (λ split. split
    ≡ mean rule (all votes.alternatives) lines)) whole
    (subst (λ (a : Set). IfOk c.plain_result.result (λ split. split ≡ mean rule a (restrict a votes.lines)))
    (c.all-all.ensures ∙ ap all c.alternatives.ensures.number) c.plain_result.ensures.meaning)
