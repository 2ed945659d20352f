-- How the code finds and takes steps. Only clauses of private functions cite this.
-- (The program's promises don't stand on this file.)
use Rattle.std.specs.Prelude.{◌≡◌, ℕ, ◌+◌, List, [], ◌++◌, Some}
use Rattle.std.specs.ControlFlow.{MatchControlFlow}
use Rattle.std.specs.declared.ops.ControlFlow.{ControlFlow}
use Rattle.vir_term.specs.Tree.{Tree, leaf, rev, seq, par, loop, tree, size}
use Rattle.vir_simplify.specs.declared.right_side.RightSide.{RightSide}
use Rattle.vir_simplify.specs.declared.right_side.RightSide.TheVariants.{Part, DeferAll, RejectAll}
use Rattle.vir_simplify.specs.declared.right_side.RightSide.TheVariants.{ToTheRight, ToTheLeft}
use Rattle.vir_simplify.specs.declared.rewriting.Missed.{Missed}
use Rattle.vir_simplify.specs.declared.rewriting.Missed.TheVariants.{Unfit, Behind}
use Rattle.vir_simplify.specs.declared.equation.Equation.{Equation}
use Rattle.vir_simplify.specs.declared.step.Step.{Step}
use Rattle.vir_simplify.specs.Equations.{defer, nobody, Fits}
use Rattle.vir_simplify.specs.Places.{Place, subterm_at, postorder}
use Rattle.vir_simplify.specs.Steps.{Takes, HasNoStep, IsFirstStep}

-- the term that a right side stands for
abbrev pub right_tree : RightSide → Tree
right_tree (Part part) = tree part.now
right_tree DeferAll = defer
right_tree RejectAll = nobody
right_tree (ToTheRight m n t) = seq (tree m.now) (seq (tree n.now) (tree t.now))
right_tree (ToTheLeft m n t) = seq (seq (tree m.now) (tree n.now)) (tree t.now)

-- the places within the parts of a term in postorder, where the first part has this number
abbrev pub part_places : ℕ → Tree → List Place
part_places n (leaf l) = []
part_places n (rev part) = postorder n part
part_places n (seq first second) = postorder n first ++ postorder (n + size first) second
part_places n (par first second) = postorder n first ++ postorder (n + size first) second
part_places n (loop k body) = postorder n body

-- The first step at these places; or that there is none, and the place behind them.
abbrev pub IsSought : List Place → ℕ → ControlFlow Step ℕ → Type 0
IsSought list behind answer = MatchControlFlow answer (λ next. (next ≡ behind) × HasNoStep list) (IsFirstStep list)

-- Why an equation can't be applied at a place of a term: it doesn't fit what stands there, or the place is so many
-- places behind the term's own.
abbrev pub IsMissed : Equation → ℕ → Tree → Missed → Type 0
IsMissed e place t Unfit = (old : Tree) × (subterm_at t place ≡ Some old) × (Fits e old → ⊥)
IsMissed e place t (Behind more) = place ≡ size t + more

-- The parts of a sequential composition, and of a parallel one, become these parts.
abbrev pub TakesTwo : Equation → ℕ → Tree → Tree → Tree → Tree → Type 0
TakesTwo e place first second left right =
    Takes e place (seq first second) (seq left right) × Takes e place (par first second) (par left right)

-- Why they don't.
abbrev pub IsMissedTwo : Equation → ℕ → Tree → Tree → Missed → Type 0
IsMissedTwo e place first second missed =
    IsMissed e place (seq first second) missed × IsMissed e place (par first second) missed
