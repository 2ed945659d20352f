use Rattle.std.proofs.Common.{◌≡◌, ◌-◌, ◌+◌, ◌≤◌, ◌∷◌, [], IfOk, option_map, take, length, drop, refl, sym, ap, ◌∙◌}
use Rattle.std.proofs.Common.{subst, arith}
use Rattle.std.proofs.lemmas.List.Elements.{All-nil}
use Rattle.std.specs.List.{All, flat_map}
use Rattle.vir_profile.specs.Profiles.{Votes}
use Rattle.vir_term.specs.Tree.{tree}
use Rattle.vir_mean.specs.Meaning.{mean}
use Rattle.vir_refute.specs.Violations.{Violates}
use Rattle.vir_find.specs.Found.{found_case}
use Rattle.vir_find.specs.Going.{going_on, taking}
use Rattle.vir_find.specs.OrderLists.{lists_in}
use Rattle.vir_find.specs.Outcomes.{IsOutcome}
use Rattle.vir_find.specs.Spreads.{spread}
use Rattle.vir_find.proofs.FirstOrders.{nobody_left, no_orders, taking-is}
use Rattle.vir_find.proofs.Searching.{found_here, none_here, none_at_all, first_order, none_listed}
use Rattle.vir_find.proofs.spreading.+search.Goals as goal

pub search_with-returns : goal.search_with-returns
search_with-returns t c =
    subst (λ list. IfOk c.search_spread.result (λ found. IsOutcome (Violates c.args.prop (mean (tree c.args.term.now)))
    list (option_map found_case found)))
    (ap (λ (v : Votes). flat_map (going_on c.args.prop v) (spread (lists_in c.args.further.now) c.args.others))
    c.in_ok-next.ensures
    ∙ taking-is c.args.prop c.args.so_far.now c.args.first.now (lists_in c.args.further.now) c.args.voters c.args.others
    c.requires.part)
    c.search_spread.ensures

pub search_spread-returns-then-voters-eq0 : goal.search_spread-returns-then-voters-eq0
search_spread-returns-then-voters-eq0 t c =
    subst (λ list. IfOk c.try_profile.result (λ found. IsOutcome (Violates c.args.prop (mean (tree c.args.term.now)))
    list (option_map found_case found)))
    (nobody_left c.args.prop c.args.so_far.now (lists_in c.args.orders.now) c.args.voters c.if-voters-eq0.true)
    c.try_profile.ensures

pub search_spread-returns-then-orders-eq0 : goal.search_spread-returns-then-orders-eq0
search_spread-returns-then-orders-eq0 t c =
    subst (All (λ d. Violates c.args.prop (mean (tree c.args.term.now)) d → ⊥))
    (sym (no_orders c.args.prop c.args.so_far.now (lists_in c.args.orders.now) c.args.voters
    (none_listed c.args.orders.now c.if-orders-eq0.true) c.if-voters-eq0.false))
    (All-nil (λ d. Violates c.args.prop (mean (tree c.args.term.now)) d → ⊥))

pub search_spread-returns-in-Some : goal.search_spread-returns-in-Some
search_spread-returns-in-Some t c =
    found_here (Violates c.args.prop (mean (tree c.args.term.now))) c.args.prop c.args.so_far.now
    (lists_in c.args.orders.now) c.as_slice-first.result.now (lists_in (take (length c.args.orders.now - 1)
    (drop 1 c.args.orders.now))) c.args.voters
    (first_order c.args.orders.now c.index-orders-0.result c.as_slice-first.result.now c.if-orders-eq0.false
    c.index-orders-0.is c.as_slice-first.ensures.value)
    c.loop-others.others (found_case c.in-Some.found) (omega arith) c.loop-others.invariant
    (subst (λ o. IsOutcome (Violates c.args.prop (mean (tree c.args.term.now))) (taking c.args.prop c.args.so_far.now
    (c.as_slice-first.result.now ∷ lists_in (take (length c.args.orders.now - 1)
    (drop 1 c.args.orders.now))) c.args.voters
    (c.args.voters - c.loop-others.others)) (option_map found_case o)) c.in-Some.is c.in_ok-found.ensures)

pub search_spread-loop-others-preserved : goal.search_spread-loop-others-preserved
search_spread-loop-others-preserved t c =
    none_here (Violates c.args.prop (mean (tree c.args.term.now))) c.args.prop c.args.so_far.now
    (lists_in c.args.orders.now) c.as_slice-first.result.now (lists_in (take (length c.args.orders.now - 1)
    (drop 1 c.args.orders.now))) c.args.voters
    (first_order c.args.orders.now c.index-orders-0.result c.as_slice-first.result.now c.if-orders-eq0.false
    c.index-orders-0.is c.as_slice-first.ensures.value)
    c.loop-others.others (omega arith) c.loop-others.invariant
    (subst (λ o. IsOutcome (Violates c.args.prop (mean (tree c.args.term.now))) (taking c.args.prop c.args.so_far.now
    (c.as_slice-first.result.now ∷ lists_in (take (length c.args.orders.now - 1)
    (drop 1 c.args.orders.now))) c.args.voters
    (c.args.voters - c.loop-others.others)) (option_map found_case o)) c.in_default.is c.in_ok-found.ensures)

pub search_spread-returns : goal.search_spread-returns
search_spread-returns t c =
    none_at_all (Violates c.args.prop (mean (tree c.args.term.now))) c.args.prop c.args.so_far.now
    (lists_in c.args.orders.now) c.as_slice-first.result.now (lists_in (take (length c.args.orders.now - 1)
    (drop 1 c.args.orders.now))) c.args.voters
    (first_order c.args.orders.now c.index-orders-0.result c.as_slice-first.result.now c.if-orders-eq0.false
    c.index-orders-0.is c.as_slice-first.ensures.value)
    c.loop-others.others c.loop-others-test.false c.loop-others.invariant
