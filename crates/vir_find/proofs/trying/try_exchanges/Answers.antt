use Rattle.std.proofs.Common.{◌+◌, ◌∷◌, [], option_map, subst, arith}
use Rattle.vir_term.specs.Tree.{tree}
use Rattle.vir_term.specs.declared.prop.Prop.TheVariants.{Neut}
use Rattle.vir_mean.specs.Meaning.{mean}
use Rattle.vir_refute.specs.Violations.{Violates}
use Rattle.vir_find.specs.Found.{found_case}
use Rattle.vir_find.specs.Outcomes.{IsOutcome}
use Rattle.vir_find.specs.Trials.{exchange_case}
use Rattle.vir_find.proofs.TriedProfiles.{found_by_exchange, none_by_exchange, none_of_exchanges}
use Rattle.vir_find.proofs.trying.try_exchanges.Goals as goal

pub returns-in-Some : goal.returns-in-Some
returns-in-Some c =
    let number = c.alternatives-k-end.ensures.number in
    found_by_exchange (Violates Neut (mean (tree c.args.term.now))) c.args.profile.now.alternatives
    c.args.profile.now.lines c.loop-k.k (found_case c.in-Some.found) (omega arith) c.loop-k.invariant
    (subst (λ o. IsOutcome (Violates Neut (mean (tree c.args.term.now))) (exchange_case c.args.profile.now.alternatives
    c.args.profile.now.lines (c.loop-k.k + 1) ∷ []) (option_map found_case o)) c.in-Some.is c.in_ok-found.ensures)

pub loop-k-preserved : goal.loop-k-preserved
loop-k-preserved c =
    let number = c.alternatives-k-end.ensures.number in
    none_by_exchange (Violates Neut (mean (tree c.args.term.now))) c.args.profile.now.alternatives
    c.args.profile.now.lines c.loop-k.k (omega arith) c.loop-k.invariant
    (subst (λ o. IsOutcome (Violates Neut (mean (tree c.args.term.now))) (exchange_case c.args.profile.now.alternatives
    c.args.profile.now.lines (c.loop-k.k + 1) ∷ []) (option_map found_case o)) c.in_default.is c.in_ok-found.ensures)

pub returns : goal.returns
returns c =
    let number = c.alternatives-k-end.ensures.number in
    none_of_exchanges (Violates Neut (mean (tree c.args.term.now))) c.args.profile.now.alternatives
    c.args.profile.now.lines c.loop-k.k (omega arith) c.loop-k.invariant
