-- The laws of both sides of all equations.
use Rattle.std.proofs.Common.{◌≡◌, ℕ, All, List, ap, sym, arith}
use Rattle.std.proofs.lemmas.List.Elements.{All-from_recursion}
use Rattle.vir_altset.specs.Sets.{Set}
use Rattle.vir_profile.specs.declared.ballot.Entry.{Entry}
use Rattle.vir_term.specs.Tree.{Tree, exactly, at_most}
use Rattle.vir_term.proofs.TreeLemmas.{size_positive}
use Rattle.vir_mean.specs.Modules.{Meaning}
use Rattle.vir_simplify.specs.declared.equation.Equation.{Equation}
use Rattle.vir_simplify.specs.declared.equation.Equation.TheVariants as equation
use Rattle.vir_simplify.specs.Equations.{sides, Shrinks, shrinking}
use Rattle.vir_simplify.specs.Meanings.{MeanTheSame}
use Rattle.vir_simplify.proofs.EquationLaws.{seq-defer_left, seq-defer_right, seq-elect_lem, seq-plurality_lem}
use Rattle.vir_simplify.proofs.EquationLaws.{seq-nobody_lem, rev-elect_lem, rev-rev_lem, par-same, par-elect_left}
use Rattle.vir_simplify.proofs.EquationLaws.{par-elect_right, par-nobody_left, par-nobody_right, loop-defer}
use Rattle.vir_simplify.proofs.EquationLaws.{loop-loop, seq-assoc}

infixr 30 ◌and◌
-- what two equal meanings give
at : {one other : Meaning} (a : Set) (p : List Entry) → one ≡ other → one a p ≡ other a p
at a p same = ap (λ m. m a p) same

-- the two sides of each equation mean the same
pub sides-true : (e : Equation) (m n t : Tree) (k : ℕ) → MeanTheSame (sides e m n t k).left (sides e m n t k).right
sides-true equation.SeqDeferLeft m n t k a p on = seq-defer_left m a p on
sides-true equation.SeqDeferRight m n t k a p on = at a p (seq-defer_right m)
sides-true equation.SeqElect m n t k a p on = at a p (seq-elect_lem m)
sides-true equation.SeqPlurality m n t k a p on = at a p (seq-plurality_lem m)
sides-true equation.SeqNobody m n t k a p on = at a p (seq-nobody_lem m)
sides-true equation.RevElect m n t k a p on = at a p rev-elect_lem
sides-true equation.RevRev m n t k a p on = at a p (rev-rev_lem m)
sides-true equation.ParSame m n t k a p on = at a p (par-same m)
sides-true equation.ParElectLeft m n t k a p on = at a p (par-elect_left m)
sides-true equation.ParElectRight m n t k a p on = at a p (par-elect_right m)
sides-true equation.ParNobodyLeft m n t k a p on = at a p (par-nobody_left m)
sides-true equation.ParNobodyRight m n t k a p on = at a p (par-nobody_right m)
sides-true equation.LoopDefer m n t k a p on = at a p (loop-defer (exactly k))
sides-true equation.LoopLoop m n t k a p on = loop-loop (exactly k) m a p on
sides-true equation.UntilDefer m n t k a p on = at a p (loop-defer (at_most k))
sides-true equation.UntilUntil m n t k a p on = loop-loop (at_most k) m a p on
sides-true equation.SeqAssocRight m n t k a p on = at a p (seq-assoc m n t)
sides-true equation.SeqAssocLeft m n t k a p on = at a p (sym (seq-assoc m n t))

-- a proof for one equation, and those for the rest of a list
◌and◌ : {A B : Type 0} → A → B → A × B
one and rest = (one, rest)

-- the right sides of most equations are smaller than the left ones
pub shrinking-smaller : All Shrinks shrinking
shrinking-smaller = All-from_recursion Shrinks shrinking
    ((λ m n t k. (omega arith, omega arith)) and (λ m n t k. (omega arith, omega arith))
    and (λ m n t k. (omega arith, omega arith)) and (λ m n t k. (omega arith, omega arith))
    and (λ m n t k. (omega arith, omega arith)) and (λ m n t k. (omega arith, omega arith))
    and (λ m n t k. (let some = size_positive m in omega arith, omega arith))
    and (λ m n t k. (omega arith, omega arith)) and (λ m n t k. (omega arith, omega arith))
    and (λ m n t k. (omega arith, omega arith)) and (λ m n t k. (omega arith, omega arith))
    and (λ m n t k. (omega arith, omega arith)) and (λ m n t k. (omega arith, omega arith))
    and (λ m n t k. (omega arith, omega arith)) and (λ m n t k. (omega arith, omega arith))
    and (λ m n t k. (omega arith, omega arith)) and tt)
