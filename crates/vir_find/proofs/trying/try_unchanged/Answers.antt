use Rattle.std.proofs.Common.{◌≡◌, ◌-◌, ◌+◌, ◌∷◌, ◌<◌, [], IfOk, option_map, length, refl, sym, ap, ◌∙◌, subst, arith}
use Rattle.vir_term.specs.Tree.{tree}
use Rattle.vir_mean.specs.Meaning.{mean}
use Rattle.vir_profile.specs.declared.ballot.Entry.{Entry}
use Rattle.std.proofs.Common.{List}
use Rattle.vir_refute.specs.Cases.{pair}
use Rattle.vir_refute.specs.Judged.{election_of}
use Rattle.vir_refute.specs.Violations.{Violates}
use Rattle.vir_find.specs.Found.{found_case}
use Rattle.vir_find.specs.Lifting.{order_at, case_at, cases_of_line, cases_of_lines}
use Rattle.vir_find.specs.Outcomes.{IsOutcome}
use Rattle.vir_profile.specs.Profiles.{Votes}
use Rattle.vir_find.proofs.PlacesAndLines.{first_alone}
use Rattle.vir_find.proofs.trying.try_unchanged.Goals as goal

pub returns-in_ok-second : goal.returns-in_ok-second
returns-in_ok-second c =
    first_alone (Violates c.args.prop (mean (tree c.args.term.now))) (pair (election_of c.in_ok-first.first)
    (election_of c.in_ok-second.second) 1)
    (pair (election_of c.args.profile.now) (election_of c.args.profile.now) 1)
    (ap (λ (v : Votes). pair (election_of v) (election_of c.in_ok-second.second) 1) c.in_ok-first.ensures
    ∙ ap (λ (v : Votes). pair (election_of c.args.profile.now) (election_of v) 1) c.in_ok-second.ensures)
    (subst (λ d. Violates c.args.prop (mean (tree c.args.term.now)) d) (sym
    (ap (λ (v : Votes). pair (election_of v) (election_of c.in_ok-second.second) 1) c.in_ok-first.ensures
    ∙ ap (λ (v : Votes). pair (election_of c.args.profile.now) (election_of v) 1) c.in_ok-second.ensures))
    (c.in_ok-violated.ensures.0 c.if-violated.true))
