use Rattle.std.proofs.Common.{◌≡◌, ◌-◌, ◌+◌, ◌∷◌, ◌<◌, [], IfOk, option_map, length, refl, sym, ap, ◌∙◌, subst, arith}
use Rattle.vir_term.specs.Tree.{tree}
use Rattle.vir_mean.specs.Meaning.{mean}
use Rattle.vir_profile.specs.declared.ballot.Entry.{Entry}
use Rattle.std.proofs.Common.{List}
use Rattle.vir_refute.specs.Cases.{pair}
use Rattle.vir_refute.specs.Judged.{election_of}
use Rattle.vir_refute.specs.Violations.{Violates}
use Rattle.vir_find.specs.Found.{found_case}
use Rattle.vir_find.specs.Lifting.{order_at, case_at, replaced, cases_of_line, cases_of_lines}
use Rattle.vir_find.specs.Outcomes.{IsOutcome}
use Rattle.vir_find.proofs.PlacesAndLines.{placed, first_alone, none_alone}
use Rattle.vir_find.proofs.trying.try_place.Goals as goal

pub returns-then-violated : goal.returns-then-violated
returns-then-violated c =
    first_alone (Violates c.args.prop (mean (tree c.args.term.now))) _
    (case_at c.args.profile.now.alternatives c.args.profile.now.lines c.args.i c.args.k)
    (placed c.args.profile.now c.in_ok-first.first c.in_ok-second.second c.args.i c.args.k c.args.order.now
    c.in_ok-raised.raised.items c.requires.order c.in_ok-first.ensures c.in_ok-raised.ensures
    (c.in_ok-second.ensures ∙ ap (λ o. record c.args.profile.now {
      lines = replaced c.args.profile.now.lines c.args.i o;
    })
    c.deref.ensures.value))
    (c.in_ok-violated.ensures.0 c.if-violated.true)
