use Rattle.std.proofs.Common.{◌≡◌, IfOk, List, ap, subst, ◌∙◌, arith}
use Rattle.vir_altset.specs.Sets.{Set, all}
use Rattle.vir_profile.specs.declared.ballot.Entry.{Entry}
use Rattle.vir_profile.specs.Profiles.{restrict}
use Rattle.vir_profile.proofs.RestrictionLaws.{profiles_are_complete, restricted_to_the_whole}
use Rattle.vir_term.specs.Tree.{tree}
use Rattle.vir_mean.specs.Meaning.{mean}
use Rattle.vir_term.specs.Appending.{Appends}
use Rattle.vir_explain.specs.Visits.{visits}
use Rattle.vir_explain.specs.VisitTexts.{visits_text}
use Rattle.vir_explain.proofs.Explaining.{bounded_all, explained}
use Rattle.vir_explain.proofs.visiting.push_explanation.Goals as goal

pub returns-clause-meaning : goal.returns-clause-meaning
returns-clause-meaning c =
    let votes = c.args.election.now.profile in
    let whole : restrict (all votes.alternatives) votes.lines ≡ votes.lines =
    restricted_to_the_whole (all votes.alternatives) votes.lines
    (profiles_are_complete votes c.alternatives.ensures.limits) in
    let domain : c.all-domain.result ≡ all votes.alternatives = c.all-domain.ensures ∙ ap all
    c.alternatives.ensures.number
    in
    subst (λ (lines : List Entry). IfOk c.visit.result (λ split. split ≡ mean (tree c.args.rule.now)
    (all votes.alternatives) lines)) whole
    (subst (λ (a : Set). IfOk c.visit.result (λ split. split ≡ mean (tree c.args.rule.now) a
    (restrict a votes.lines))) domain c.visit.ensures.split)

pub returns-clause-account : goal.returns-clause-account
returns-clause-account c =
    let votes = c.args.election.now.profile in
    let domain : c.all-domain.result ≡ all votes.alternatives = c.all-domain.ensures ∙ ap all
    c.alternatives.ensures.number
    in
    explained c.visit.result (tree c.args.rule.now) votes.lines (all votes.alternatives) c.args.text.now.items
    c.visit.new.text.items (bounded_all votes.alternatives c.alternatives.ensures.limits.few)
    (let weights = c.alternatives.ensures.limits.weights in omega arith) c.requires.small
    (subst (λ (a : Set). IfOk c.visit.result (λ split. split ≡ mean (tree c.args.rule.now) a (restrict a votes.lines)))
    domain c.visit.ensures.split)
    (subst (λ (a : Set). Appends c.visit.result c.args.text.now.items c.visit.new.text.items
    (visits_text (visits 0 (tree c.args.rule.now) votes.lines a))) domain c.visit.ensures.text)
