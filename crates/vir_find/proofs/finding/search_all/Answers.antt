use Rattle.std.proofs.Common.{◌≡◌, ◌-◌, ◌+◌, ◌≤◌, ◌∷◌, [], IfOk, option_map, refl, sym, ap, ◌∙◌, subst, arith}
use Rattle.std.specs.List.{All, flat_map}
use Rattle.vir_term.specs.Tree.{tree}
use Rattle.vir_mean.specs.Meaning.{mean}
use Rattle.vir_refute.specs.Violations.{Violates}
use Rattle.vir_find.specs.Found.{found_case}
use Rattle.vir_find.specs.Outcomes.{IsOutcome}
use Rattle.vir_find.specs.OrderLists.{lists_in}
use Rattle.vir_find.specs.Trials.{cases_at, cases_on}
use Rattle.vir_find.proofs.Sizes.{found_by_number, none_by_number, none_of_number}
use Rattle.vir_find.proofs.finding.search_all.Goals as goal

pub returns-in-Some : goal.returns-in-Some
returns-in-Some c =
    found_by_number (Violates c.args.prop (mean (tree c.args.term.now))) c.args.prop c.args.voters c.args.most
    c.loop-m.m (found_case c.in-Some.found) (omega arith) c.loop-m.invariant
    (subst (λ o. IsOutcome (Violates c.args.prop (mean (tree c.args.term.now)))
    (cases_on c.args.prop c.args.voters (c.loop-m.m + 1)) (option_map found_case o)) c.in-Some.is c.in_ok-found.ensures)

pub loop-m-preserved : goal.loop-m-preserved
loop-m-preserved c =
    none_by_number (Violates c.args.prop (mean (tree c.args.term.now))) c.args.prop c.args.voters c.args.most
    c.loop-m.m (omega arith) c.loop-m.invariant
    (subst (λ o. IsOutcome (Violates c.args.prop (mean (tree c.args.term.now)))
    (cases_on c.args.prop c.args.voters (c.loop-m.m + 1)) (option_map found_case o)) c.in_default.is
    c.in_ok-found.ensures)

pub returns : goal.returns
returns c = none_of_number (Violates c.args.prop (mean (tree c.args.term.now))) c.args.prop c.args.voters c.args.most
    c.loop-m.m c.loop-m-test.false c.loop-m.invariant
