use Rattle.std.proofs.Common.{◌≡◌, ◌-◌, ◌+◌, ◌∷◌, ◌<◌, [], IfOk, option_map, length, refl, sym, ap, ◌∙◌, subst, arith}
use Rattle.vir_term.specs.Tree.{tree}
use Rattle.vir_mean.specs.Meaning.{mean}
use Rattle.vir_profile.specs.declared.ballot.Entry.{Entry}
use Rattle.std.proofs.Common.{List}
use Rattle.vir_refute.specs.Cases.{pair}
use Rattle.vir_refute.specs.Judged.{election_of}
use Rattle.vir_refute.specs.Violations.{Violates}
use Rattle.vir_find.specs.Found.{found_case}
use Rattle.vir_find.specs.Lifting.{order_at, case_at, cases_of_line, cases_of_lines}
use Rattle.vir_find.specs.Outcomes.{IsOutcome}
use Rattle.vir_find.proofs.PlacesAndLines.{found_by_place, none_by_place, none_of_places, order_is}
use Rattle.vir_find.proofs.trying.try_line.Goals as goal

pub try_place-requires-clause-order : goal.try_place-requires-clause-order
try_place-requires-clause-order c =
    c.alternatives-order.ensures
    ∙ order_is c.entries-lines.result.now c.args.i c.index-lines-i.result
    (subst (λ (es : List Entry). c.args.i < length es) (sym c.entries-lines.ensures.lines) c.requires.inside)
    c.index-lines-i.is
    ∙ ap (λ (es : List Entry). order_at es c.args.i) c.entries-lines.ensures.lines

pub returns-in-Some : goal.returns-in-Some
returns-in-Some c =
    let same = ap length (c.alternatives-order.ensures
    ∙ order_is c.entries-lines.result.now c.args.i c.index-lines-i.result
    (subst (λ (es : List Entry). c.args.i < length es) (sym c.entries-lines.ensures.lines) c.requires.inside)
    c.index-lines-i.is
    ∙ ap (λ (es : List Entry). order_at es c.args.i) c.entries-lines.ensures.lines) in
    found_by_place (Violates c.args.prop (mean (tree c.args.term.now))) c.args.profile.now.alternatives
    c.args.profile.now.lines c.args.i c.loop-k.k (found_case c.in-Some.found)
    (omega (arith, same, c.saturating_sub-k-end.ensures)) c.loop-k.invariant
    (subst (λ o. IsOutcome (Violates c.args.prop (mean (tree c.args.term.now))) (case_at c.args.profile.now.alternatives
    c.args.profile.now.lines c.args.i c.loop-k.k ∷ []) (option_map found_case o)) c.in-Some.is c.in_ok-found.ensures)

pub loop-k-preserved : goal.loop-k-preserved
loop-k-preserved c =
    let same = ap length (c.alternatives-order.ensures
    ∙ order_is c.entries-lines.result.now c.args.i c.index-lines-i.result
    (subst (λ (es : List Entry). c.args.i < length es) (sym c.entries-lines.ensures.lines) c.requires.inside)
    c.index-lines-i.is
    ∙ ap (λ (es : List Entry). order_at es c.args.i) c.entries-lines.ensures.lines) in
    none_by_place (Violates c.args.prop (mean (tree c.args.term.now))) c.args.profile.now.alternatives
    c.args.profile.now.lines c.args.i c.loop-k.k
    (omega (arith, same, c.saturating_sub-k-end.ensures)) c.loop-k.invariant
    (subst (λ o. IsOutcome (Violates c.args.prop (mean (tree c.args.term.now))) (case_at c.args.profile.now.alternatives
    c.args.profile.now.lines c.args.i c.loop-k.k ∷ []) (option_map found_case o)) c.in_default.is c.in_ok-found.ensures)

pub returns : goal.returns
returns c =
    let same = ap length (c.alternatives-order.ensures
    ∙ order_is c.entries-lines.result.now c.args.i c.index-lines-i.result
    (subst (λ (es : List Entry). c.args.i < length es) (sym c.entries-lines.ensures.lines) c.requires.inside)
    c.index-lines-i.is
    ∙ ap (λ (es : List Entry). order_at es c.args.i) c.entries-lines.ensures.lines) in
    none_of_places (Violates c.args.prop (mean (tree c.args.term.now))) c.args.profile.now.alternatives
    c.args.profile.now.lines c.args.i c.loop-k.k
    (omega (arith, same, c.saturating_sub-k-end.ensures)) c.loop-k.invariant
