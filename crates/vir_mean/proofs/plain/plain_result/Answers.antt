use Rattle.std.proofs.Common.{◌≡◌, IfOk, List, ap, subst, sym, ◌∙◌}
use Rattle.vir_altset.specs.Sets.{Set, all}
use Rattle.vir_profile.specs.declared.ballot.Entry.{Entry}
use Rattle.vir_profile.specs.Profiles.{restrict}
use Rattle.vir_profile.proofs.RestrictionLaws.{profiles_are_complete, restricted_to_the_whole}
use Rattle.vir_term.specs.Tree.{tree}
use Rattle.vir_mean.specs.Meaning.{mean}
use Rattle.vir_mean.proofs.MeaningLaws.{answered_split}
use Rattle.vir_mean.proofs.plain.plain_result.Goals as goal

-- restricted to all alternatives, the ballots are what they were
pub returns-then-equals-clause-meaning : goal.returns-then-equals-clause-meaning
returns-then-equals-clause-meaning c =
    let rule = tree c.args.term.now in
    let votes = c.args.profile.now in
    let domain = c.args.domain.now in
    let is_all : domain ≡ all votes.alternatives = c.equals.ensures.0 c.if-equals.true ∙ c.all.ensures
    ∙ ap all c.alternatives.ensures.number in
    let whole : restrict domain votes.lines ≡ votes.lines =
    subst (λ (a : Set). restrict a votes.lines ≡ votes.lines) (sym is_all)
    (restricted_to_the_whole (all votes.alternatives) votes.lines
    (profiles_are_complete votes c.alternatives.ensures.limits)) in
    subst (λ (lines : List Entry). IfOk c.term_result.result (λ split. split ≡ mean rule domain lines))
    (c.entries.ensures.lines ∙ sym whole) c.term_result.ensures

pub returns-then-equals-clause-split : goal.returns-then-equals-clause-split
returns-then-equals-clause-split c =
    answered_split c.term_result.result (tree c.args.term.now) c.args.domain.now c.entries.result.now
    c.term_result.ensures

pub returns-clause-split : goal.returns-clause-split
returns-clause-split c =
    answered_split c.restricted_result.result (tree c.args.term.now) c.args.domain.now
    (restrict c.args.domain.now c.entries-2.result.now) c.restricted_result.ensures
