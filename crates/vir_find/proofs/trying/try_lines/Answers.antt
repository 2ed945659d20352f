use Rattle.std.proofs.Common.{◌≡◌, ◌-◌, ◌+◌, ◌∷◌, ◌<◌, [], IfOk, option_map, length, refl, sym, ap, ◌∙◌, subst, arith}
use Rattle.vir_term.specs.Tree.{tree}
use Rattle.vir_mean.specs.Meaning.{mean}
use Rattle.vir_profile.specs.declared.ballot.Entry.{Entry}
use Rattle.std.proofs.Common.{List}
use Rattle.vir_refute.specs.Cases.{pair}
use Rattle.vir_refute.specs.Judged.{election_of}
use Rattle.vir_refute.specs.Violations.{Violates}
use Rattle.vir_find.specs.Found.{found_case}
use Rattle.vir_find.specs.Lifting.{order_at, case_at, cases_of_line, cases_of_lines}
use Rattle.vir_find.specs.Outcomes.{IsOutcome}
use Rattle.vir_find.proofs.PlacesAndLines.{found_by_line, none_by_line, none_of_lines}
use Rattle.vir_find.proofs.trying.try_lines.Goals as goal

pub returns-in-Some : goal.returns-in-Some
returns-in-Some c =
    found_by_line (Violates c.args.prop (mean (tree c.args.term.now))) c.args.profile.now.alternatives
    c.args.profile.now.lines c.loop-i.i (found_case c.in-Some.found)
    (omega (arith, c.lines-i-end.ensures)) c.loop-i.invariant
    (subst (λ o. IsOutcome (Violates c.args.prop (mean (tree c.args.term.now)))
    (cases_of_line c.args.profile.now.alternatives c.args.profile.now.lines c.loop-i.i)
    (option_map found_case o)) c.in-Some.is c.in_ok-found.ensures)

pub loop-i-preserved : goal.loop-i-preserved
loop-i-preserved c =
    none_by_line (Violates c.args.prop (mean (tree c.args.term.now))) c.args.profile.now.alternatives
    c.args.profile.now.lines c.loop-i.i
    (omega (arith, c.lines-i-end.ensures)) c.loop-i.invariant
    (subst (λ o. IsOutcome (Violates c.args.prop (mean (tree c.args.term.now)))
    (cases_of_line c.args.profile.now.alternatives c.args.profile.now.lines c.loop-i.i)
    (option_map found_case o)) c.in_default.is c.in_ok-found.ensures)

pub returns : goal.returns
returns c = none_of_lines (Violates c.args.prop (mean (tree c.args.term.now))) c.args.profile.now.alternatives
    c.args.profile.now.lines c.loop-i.i
    (omega (arith, c.lines-i-end.ensures)) c.loop-i.invariant
