use Rattle.std.proofs.Common.{◌≡◌, ◌++◌, [], ◌∷◌, List, refl, sym, ap, ◌∙◌, subst, append_assoc, arith}
use Rattle.std.proofs.lemmas.List.{append-nil}
use Rattle.vir_term.specs.Tree.{tree}
use Rattle.vir_simplify.specs.declared.step.Step.{Step}
use Rattle.vir_simplify.specs.Steps.{Simplifies}
use Rattle.vir_simplify.proofs.StepLaws.{IsLess, takes_less}
use Rattle.vir_simplify.proofs.Simplifications.{next_shrinks, simplifies_means, simplifies_less, simplifies_replays}
use Rattle.vir_simplify.proofs.Simplifications.{within_still}
use Rattle.vir_simplify.proofs.simplifying.simplify.Goals as goal

-- the step that is taken in a turn of the loop
less : (c : goal.In_ok-push) → IsLess (tree c.loop-step.current) (tree c.in_ok-current-2.current)
less c = takes_less c.in-Some.step.equation c.in-Some.step.place (tree c.loop-step.current)
    (tree c.in_ok-current-2.current)
    (next_shrinks (tree c.loop-step.current) c.in-Some.step c.in-Some.ensures) c.in_ok-current-2.ensures

pub loop-step-smaller : goal.loop-step-smaller
loop-step-smaller c = (less c).smaller

pub loop-step-preserved : goal.loop-step-preserved
loop-step-preserved c =
    let step = less c in
    record {
      small = omega (arith, step.smaller, c.loop-step.invariant.small);
      so_far = λ rest other after.
          (let behind : c.push.new.self.items ++ rest ≡ c.loop-step.list.items ++ c.in-Some.step ∷ rest =
          ap (λ (list : List Step). list ++ rest) c.in_ok-push.ensures.items
          ∙ append_assoc c.loop-step.list.items (c.in-Some.step ∷ []) rest in
          subst (λ (list : List Step). Simplifies (tree c.args.term.now) list other) (sym behind)
          (c.loop-step.invariant.so_far (c.in-Some.step ∷ rest) other
          (tree c.in_ok-current-2.current, c.in-Some.ensures, c.in_ok-current-2.ensures, after)));
    }

-- where there is no further step
ended : (c : goal.In_default) → Simplifies (tree c.args.term.now) c.loop-step.list.items (tree c.loop-step.current)
ended c =
    subst (λ (list : List Step). Simplifies (tree c.args.term.now) list (tree c.loop-step.current))
    (append-nil c.loop-step.list.items)
    (c.loop-step.invariant.so_far [] (tree c.loop-step.current) (refl, c.in_default.ensures))

pub returns-clause-simple : goal.returns-clause-simple
returns-clause-simple c = ended c

pub returns-clause-meaning : goal.returns-clause-meaning
returns-clause-meaning c = simplifies_means c.loop-step.list.items _ _ (ended c)

pub returns-clause-replayed : goal.returns-clause-replayed
returns-clause-replayed c = simplifies_replays c.loop-step.list.items _ _ (ended c)

pub returns-clause-limits : goal.returns-clause-limits
returns-clause-limits c = within_still c.loop-step.list.items _ _ (ended c)

pub returns-clause-no_larger : goal.returns-clause-no_larger
returns-clause-no_larger c =
    let all = simplifies_less c.loop-step.list.items (tree c.args.term.now) (tree c.loop-step.current) (ended c) in
    omega (arith, all.smaller)

pub returns-clause-no_deeper : goal.returns-clause-no_deeper
returns-clause-no_deeper c =
    let all = simplifies_less c.loop-step.list.items (tree c.args.term.now) (tree c.loop-step.current) (ended c) in
    all.no_deeper
