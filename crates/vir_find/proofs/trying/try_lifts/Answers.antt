use Rattle.std.proofs.Common.{◌≡◌, ◌-◌, ◌+◌, ◌∷◌, ◌<◌, [], IfOk, option_map, length, refl, sym, ap, ◌∙◌, subst, arith}
use Rattle.vir_term.specs.Tree.{tree}
use Rattle.vir_mean.specs.Meaning.{mean}
use Rattle.vir_profile.specs.declared.ballot.Entry.{Entry}
use Rattle.std.proofs.Common.{List}
use Rattle.vir_refute.specs.Cases.{pair}
use Rattle.vir_refute.specs.Judged.{election_of}
use Rattle.vir_refute.specs.Violations.{Violates}
use Rattle.vir_find.specs.Found.{found_case}
use Rattle.vir_find.specs.Lifting.{order_at, case_at, cases_of_line, cases_of_lines}
use Rattle.vir_find.specs.Outcomes.{IsOutcome}
use Rattle.vir_find.proofs.PlacesAndLines.{first_unchanged, then_lines}
use Rattle.vir_find.proofs.trying.try_lifts.Goals as goal

pub returns-in-Some : goal.returns-in-Some
returns-in-Some c = first_unchanged (Violates c.args.prop (mean (tree c.args.term.now))) c.args.prop c.args.profile.now
    (found_case c.in-Some.found) c.requires.kind
    (subst (λ o. IsOutcome (Violates c.args.prop (mean (tree c.args.term.now))) (pair (election_of c.args.profile.now)
    (election_of c.args.profile.now) 1 ∷ [])
    (option_map found_case o)) c.in-Some.is c.in_ok-found.ensures)

pub returns : goal.returns
returns c = then_lines (Violates c.args.prop (mean (tree c.args.term.now))) c.args.prop c.args.profile.now
    c.try_lines.result c.requires.kind
    (subst (λ o. IsOutcome (Violates c.args.prop (mean (tree c.args.term.now))) (pair (election_of c.args.profile.now)
    (election_of c.args.profile.now) 1 ∷ [])
    (option_map found_case o)) c.in_default.is c.in_ok-found.ensures)
    c.try_lines.ensures
