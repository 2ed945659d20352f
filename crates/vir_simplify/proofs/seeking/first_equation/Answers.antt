use Rattle.std.proofs.Common.{◌<◌, ◌≤◌, All, List, length, get_or, sym, ◌∙◌, subst}
use Rattle.std.proofs.lemmas.List.Elements.{All-more}
use Rattle.std.proofs.lemmas.List.{take_all}
use Rattle.vir_term.specs.Tree.{tree}
use Rattle.vir_simplify.specs.Equations.{Fits, shrinking}
use Rattle.vir_simplify.specs.declared.equation.Equation.{Equation}
use Rattle.vir_simplify.specs.declared.equation.Equation.TheVariants.{SeqDeferLeft}
use Rattle.vir_simplify.proofs.FirstSteps.{first_found, fitting, unfit}
use Rattle.vir_simplify.proofs.seeking.first_equation.Goals as goal

pub returns-then-is_some : goal.returns-then-is_some
returns-then-is_some c =
    let some = sym c.is_some.ensures ∙ c.if-is_some.true in
    first_found (λ e. Fits e (tree c.args.term.now)) shrinking c.shrinking-equation-items.result.now
    c.loop-equation.equation-index SeqDeferLeft c.shrinking-equation-items.ensures c.loop-equation-test.true
    (fitting _ _ c.right_side.result c.right_side.ensures some) c.loop-equation.invariant

pub loop-equation-preserved : goal.loop-equation-preserved
loop-equation-preserved c =
    let none = sym c.is_some.ensures ∙ c.if-is_some.false in
    let here = unfit _ _ c.right_side.result c.right_side.ensures none in
    let inside : c.loop-equation.equation-index < length shrinking =
    subst (λ (list : List Equation). c.loop-equation.equation-index < length list) c.shrinking-equation-items.ensures
    c.loop-equation-test.true in
    All-more (λ e. Fits e (tree c.args.term.now) → ⊥) shrinking c.loop-equation.equation-index SeqDeferLeft inside
    c.loop-equation.invariant
    (subst (λ (list : List Equation). Fits (get_or list c.loop-equation.equation-index SeqDeferLeft)
    (tree c.args.term.now) → ⊥) c.shrinking-equation-items.ensures here)

pub returns : goal.returns
returns c =
    let past : length shrinking ≤ c.loop-equation.equation-index =
    subst (λ (list : List Equation). length list ≤ c.loop-equation.equation-index) c.shrinking-equation-items.ensures
    c.loop-equation-test.false in
    subst (All (λ e. Fits e (tree c.args.term.now) → ⊥)) (take_all c.loop-equation.equation-index shrinking past)
    c.loop-equation.invariant
