-- What holds of a term and what a step makes of it.
use Rattle.std.proofs.Common.{◌≡◌, ℕ, zero, suc, ◌<◌, ◌≤◌, List, [], ◌∷◌, refl, sym}
use Rattle.std.proofs.Common.{ap, ◌∙◌, subst, arith}
use Rattle.vir_altset.specs.Sets.{Set}
use Rattle.vir_altset.specs.declared.split.Split.{Split}
use Rattle.vir_altset.proofs.SplitLaws.{deferred_part}
use Rattle.vir_profile.specs.declared.ballot.Entry.{Entry}
use Rattle.vir_profile.specs.Profiles.{IsProfileOn, restrict}
use Rattle.vir_profile.proofs.RestrictionLaws.{restricted_orders}
use Rattle.vir_term.specs.Tree.{Tree, rev, seq, par, loop, End, size, nesting}
use Rattle.vir_term.specs.Limits.{IsInRange}
use Rattle.vir_mean.specs.Modules.{Meaning}
use Rattle.vir_mean.specs.Compositions.{revised, joined, merged, turn, turns}
use Rattle.vir_mean.specs.Meaning.{mean}
use Rattle.vir_mean.proofs.MeaningLaws.{Splits, mean-split}
use Rattle.vir_simplify.specs.declared.equation.Equation.{Equation}
use Rattle.vir_simplify.specs.declared.equation.Equation.TheVariants as equation
use Rattle.vir_simplify.specs.declared.step.Step.{Step}
use Rattle.vir_simplify.specs.Equations.{sides, Shrinks}
use Rattle.vir_simplify.specs.Meanings.{MeanTheSame}
use Rattle.vir_simplify.specs.Steps.{Takes, Replays}
use Rattle.vir_simplify.proofs.Places.{by_subterm}
use Rattle.vir_simplify.proofs.SideLaws.{sides-true}

-- ---- meanings
rev-same : (t u : Tree) → MeanTheSame t u → MeanTheSame (rev t) (rev u)
rev-same t u same a p on = ap (revised a) (same a p on)

seq-first_same : (t u other : Tree) → MeanTheSame t u → MeanTheSame (seq t other) (seq u other)
seq-first_same t u other same a p on =
    ap (λ (s : Split). joined s (mean other s.deferred (restrict s.deferred p))) (same a p on)

-- the profile that is left to what a meaning defers is one on that
left_on : (m : Meaning) → Splits m → (a : Set) (p : List Entry) → IsProfileOn a p
    → IsProfileOn (m a p).deferred (restrict (m a p).deferred p)
left_on m splits a p on = restricted_orders a (m a p).deferred p (deferred_part a (m a p) (splits a p)) on

seq-second_same : (other t u : Tree) → MeanTheSame t u → MeanTheSame (seq other t) (seq other u)
seq-second_same other t u same a p on =
    let d = (mean other a p).deferred in
    ap (joined (mean other a p)) (same d (restrict d p) (left_on (mean other) (mean-split other) a p on))

par-first_same : (t u other : Tree) → MeanTheSame t u → MeanTheSame (par t other) (par u other)
par-first_same t u other same a p on = ap (λ s. merged s (mean other a p)) (same a p on)

par-second_same : (other t u : Tree) → MeanTheSame t u → MeanTheSame (par other t) (par other u)
par-second_same other t u same a p on = ap (merged (mean other a p)) (same a p on)

turns-same : (most : ℕ) (k : End) (t u : Tree) → MeanTheSame t u → (a : Set) (p : List Entry) → IsProfileOn a p
    → turns most k (mean t) a p ≡ turns most k (mean u) a p
unfolding turns
turns-same zero k t u same a p on = refl
turns-same (suc most) k t u same a p on =
    let d = (mean t a p).deferred in
    ap (λ (next : Split). turn k (mean t) (λ a lines. next) a p)
    (turns-same most k t u same d (restrict d p) (left_on (mean t) (mean-split t) a p on))
    ∙ ap (λ (s : Split). turn k (λ a lines. s) (turns most k (mean u)) a p) (same a p on)

loop-same : (k : End) (t u : Tree) → MeanTheSame t u → MeanTheSame (loop k t) (loop k u)
loop-same k t u same a p on = turns-same _ k t u same a p on

-- a step keeps the meaning
pub takes_means : (e : Equation) (place : ℕ) (t u : Tree) → Takes e place t u → MeanTheSame t u
takes_means e place t u takes =
    let rewrites = takes.rewrites in
    let true_here = sides-true e rewrites.m rewrites.n rewrites.t rewrites.k in
    subst (MeanTheSame t) (sym takes.is)
    (by_subterm MeanTheSame rev-same seq-first_same seq-second_same par-first_same par-second_same loop-same
    t place takes.old takes.new takes.stands
    (subst (λ old. MeanTheSame old takes.new) (sym rewrites.is_left)
    (subst (MeanTheSame (sides e rewrites.m rewrites.n rewrites.t rewrites.k).left) (sym rewrites.is_right) true_here)))

-- the steps of a replay keep it
pub replays_means : (steps : List Step) (t u : Tree) → Replays t steps u → MeanTheSame t u
replays_means [] t u same a p on = ap (λ t. mean t a p) same
replays_means (s ∷ rest) t u (between, takes, within, more) a p on =
    takes_means s.equation s.place t between takes a p on ∙ replays_means rest between u more a p on

-- ---- sizes and ranges
-- numbers that are in range on the left side are so on the right side
sides-in_range : (e : Equation) (m n t : Tree) (k : ℕ) → IsInRange (sides e m n t k).left
    → IsInRange (sides e m n t k).right
sides-in_range equation.SeqDeferLeft m n t k fine = fine.1
sides-in_range equation.SeqDeferRight m n t k fine = fine.0
sides-in_range equation.SeqElect m n t k fine = tt
sides-in_range equation.SeqPlurality m n t k fine = tt
sides-in_range equation.SeqNobody m n t k fine = tt
sides-in_range equation.RevElect m n t k fine = tt
sides-in_range equation.RevRev m n t k fine = tt
sides-in_range equation.ParSame m n t k fine = fine.0
sides-in_range equation.ParElectLeft m n t k fine = tt
sides-in_range equation.ParElectRight m n t k fine = tt
sides-in_range equation.ParNobodyLeft m n t k fine = fine.1
sides-in_range equation.ParNobodyRight m n t k fine = fine.0
sides-in_range equation.LoopDefer m n t k fine = tt
sides-in_range equation.LoopLoop m n t k fine = fine.1
sides-in_range equation.UntilDefer m n t k fine = tt
sides-in_range equation.UntilUntil m n t k fine = fine.1
sides-in_range equation.SeqAssocRight m n t k fine = (fine.0.0, (fine.0.1, fine.1))
sides-in_range equation.SeqAssocLeft m n t k fine = ((fine.0, fine.1.0), fine.1.1)

-- A term is smaller than another, no deeper, and its numbers are in range where those of the other are.
pub record IsLess (t u : Tree) : Type 0 where
  pub smaller : size u < size t
  pub no_deeper : nesting u ≤ nesting t
  pub in_range : IsInRange t → IsInRange u

rev-less : (t u : Tree) → IsLess t u → IsLess (rev t) (rev u)
rev-less t u less = record { smaller = omega arith; no_deeper = omega arith; in_range = less.in_range }

seq-first_less : (t u other : Tree) → IsLess t u → IsLess (seq t other) (seq u other)
seq-first_less t u other less = record {
  smaller = omega arith;
  no_deeper = omega arith;
  in_range = λ fine. (less.in_range fine.0, fine.1);
}

seq-second_less : (other t u : Tree) → IsLess t u → IsLess (seq other t) (seq other u)
seq-second_less other t u less = record {
  smaller = omega arith;
  no_deeper = omega arith;
  in_range = λ fine. (fine.0, less.in_range fine.1);
}

par-first_less : (t u other : Tree) → IsLess t u → IsLess (par t other) (par u other)
par-first_less t u other less = record {
  smaller = omega arith;
  no_deeper = omega arith;
  in_range = λ fine. (less.in_range fine.0, fine.1);
}

par-second_less : (other t u : Tree) → IsLess t u → IsLess (par other t) (par other u)
par-second_less other t u less = record {
  smaller = omega arith;
  no_deeper = omega arith;
  in_range = λ fine. (fine.0, less.in_range fine.1);
}

loop-less : (k : End) (t u : Tree) → IsLess t u → IsLess (loop k t) (loop k u)
loop-less k t u less = record {
  smaller = omega arith;
  no_deeper = omega arith;
  in_range = λ fine. (fine.0, less.in_range fine.1);
}

-- a step by an equation that makes terms smaller does so
pub takes_less : (e : Equation) (place : ℕ) (t u : Tree) → Shrinks e → Takes e place t u → IsLess t u
takes_less e place t u shrinks takes =
    let rewrites = takes.rewrites in
    let here = shrinks rewrites.m rewrites.n rewrites.t rewrites.k in
    let less : IsLess (sides e rewrites.m rewrites.n rewrites.t rewrites.k).left
    (sides e rewrites.m rewrites.n rewrites.t rewrites.k).right = record {
      smaller = here.0;
      no_deeper = here.1;
      in_range = sides-in_range e rewrites.m rewrites.n rewrites.t rewrites.k;
    } in
    subst (IsLess t) (sym takes.is)
    (by_subterm IsLess rev-less seq-first_less seq-second_less par-first_less par-second_less loop-less
    t place takes.old takes.new takes.stands
    (subst (λ old. IsLess old takes.new) (sym rewrites.is_left)
    (subst (IsLess (sides e rewrites.m rewrites.n rewrites.t rewrites.k).left) (sym rewrites.is_right) less)))
