-- An equation applied at a place of a term, by its parts.
use Rattle.std.proofs.Common.{◌≡◌, ℕ, suc, ◌+◌, ◌-◌, ◌≤◌, Some, sym, ap, ◌∙◌, subst, arith}
use Rattle.vir_term.specs.Tree.{Tree, rev, seq, par, loop, End, size}
use Rattle.vir_simplify.specs.declared.equation.Equation.{Equation}
use Rattle.vir_simplify.specs.declared.equation.Equation.TheVariants as equation
use Rattle.vir_simplify.specs.declared.rewriting.Missed.{Missed}
use Rattle.vir_simplify.specs.declared.rewriting.Missed.TheVariants.{Unfit, Behind}
use Rattle.vir_simplify.specs.Equations.{Fits, Rewrites}
use Rattle.vir_simplify.specs.Places.{replaced}
use Rattle.vir_simplify.specs.Steps.{Takes}
use Rattle.vir_simplify.specs.Workings.{IsMissed, TakesTwo, IsMissedTwo}
use Rattle.vir_simplify.proofs.Places.{subterm-whole, place_below, in_first, in_second, put_first}
use Rattle.vir_simplify.proofs.Places.{put_second}

-- a place that isn't the term's own
later : (place : ℕ) → 1 ≤ place → suc (place - 1) ≡ place
later place some = omega arith

-- ---- the term itself
pub missed_whole : (e : Equation) (t : Tree) → (Fits e t → ⊥) → IsMissed e 0 t Unfit
missed_whole e t unfit = (t, subterm-whole t, unfit)

-- ---- one part
pub missed_rev : (e : Equation) (place : ℕ) (t : Tree) (missed : Missed) → 1 ≤ place
    → IsMissed e (place - 1) t missed → IsMissed e place (rev t) missed
missed_rev e place t Unfit some why = subst (λ n. IsMissed e n (rev t) Unfit) (later place some) why
missed_rev e place t (Behind more) some why = omega arith

pub missed_loop : (e : Equation) (place : ℕ) (k : End) (t : Tree) (missed : Missed) → 1 ≤ place
    → IsMissed e (place - 1) t missed → IsMissed e place (loop k t) missed
missed_loop e place k t Unfit some why = subst (λ n. IsMissed e n (loop k t) Unfit) (later place some) why
missed_loop e place k t (Behind more) some why = omega arith

-- ---- two parts
pub takes_first : (e : Equation) (place : ℕ) (first second new : Tree) → 1 ≤ place → Takes e (place - 1) first new
    → TakesTwo e place first second new second
takes_first e place first second new some takes =
    let i = place - 1 in
    let below = place_below first i takes.old takes.stands in
    let stands = in_first first second i below ∙ takes.stands in
    subst (λ n. TakesTwo e n first second new second) (later place some) (
      record {
        old = takes.old;
        new = takes.new;
        stands = stands;
        rewrites = takes.rewrites;
        is = ap (λ t. seq t second) takes.is ∙ sym (put_first seq first second takes.new i below);
      },
      record {
        old = takes.old;
        new = takes.new;
        stands = stands;
        rewrites = takes.rewrites;
        is = ap (λ t. par t second) takes.is ∙ sym (put_first par first second takes.new i below);
      },
    )

pub takes_second : (e : Equation) (place i : ℕ) (first second new : Tree) → 1 ≤ place → place - 1 ≡ size first + i
    → Takes e i second new → TakesTwo e place first second first new
takes_second e place i first second new some at takes =
    let n = place - 1 in
    let stands = in_second first second n i at ∙ takes.stands in
    subst (λ n. TakesTwo e n first second first new) (later place some) (
      record {
        old = takes.old;
        new = takes.new;
        stands = stands;
        rewrites = takes.rewrites;
        is = ap (λ t. seq first t) takes.is ∙ sym (put_second seq first second takes.new n i at);
      },
      record {
        old = takes.old;
        new = takes.new;
        stands = stands;
        rewrites = takes.rewrites;
        is = ap (λ t. par first t) takes.is ∙ sym (put_second par first second takes.new n i at);
      },
    )

pub missed_first : (e : Equation) (place : ℕ) (first second : Tree) → 1 ≤ place → IsMissed e (place - 1) first Unfit
    → IsMissedTwo e place first second Unfit
missed_first e place first second some (old, stands, unfit) =
    let is = in_first first second (place - 1) (place_below first (place - 1) old stands) ∙ stands in
    subst (λ n. IsMissedTwo e n first second Unfit) (later place some) ((old, is, unfit), (old, is, unfit))

pub missed_second : (e : Equation) (place i : ℕ) (first second : Tree) (missed : Missed) → 1 ≤ place
    → place - 1 ≡ size first + i → IsMissed e i second missed → IsMissedTwo e place first second missed
missed_second e place i first second Unfit some at (old, stands, unfit) =
    let is = in_second first second (place - 1) i at ∙ stands in
    subst (λ n. IsMissedTwo e n first second Unfit) (later place some) ((old, is, unfit), (old, is, unfit))
missed_second e place i first second (Behind more) some at why = (omega arith, omega arith)

-- ---- what a place and an equation make of a term is one term
-- the right side of an equation that fits
rewritten_alike : (e : Equation) (t u v : Tree) → Rewrites e t u → Rewrites e t v → u ≡ v
rewritten_alike equation.SeqDeferLeft t u v one other = cc (one.is_left, one.is_right, other.is_left, other.is_right)
rewritten_alike equation.SeqDeferRight t u v one other = cc (one.is_left, one.is_right, other.is_left, other.is_right)
rewritten_alike equation.SeqElect t u v one other = cc (one.is_right, other.is_right)
rewritten_alike equation.SeqPlurality t u v one other = cc (one.is_right, other.is_right)
rewritten_alike equation.SeqNobody t u v one other = cc (one.is_right, other.is_right)
rewritten_alike equation.RevElect t u v one other = cc (one.is_right, other.is_right)
rewritten_alike equation.RevRev t u v one other = cc (one.is_right, other.is_right)
rewritten_alike equation.ParSame t u v one other = cc (one.is_left, one.is_right, other.is_left, other.is_right)
rewritten_alike equation.ParElectLeft t u v one other = cc (one.is_right, other.is_right)
rewritten_alike equation.ParElectRight t u v one other = cc (one.is_right, other.is_right)
rewritten_alike equation.ParNobodyLeft t u v one other = cc (one.is_left, one.is_right, other.is_left, other.is_right)
rewritten_alike equation.ParNobodyRight t u v one other = cc (one.is_left, one.is_right, other.is_left, other.is_right)
rewritten_alike equation.LoopDefer t u v one other = cc (one.is_right, other.is_right)
rewritten_alike equation.LoopLoop t u v one other = cc (one.is_left, one.is_right, other.is_left, other.is_right)
rewritten_alike equation.UntilDefer t u v one other = cc (one.is_right, other.is_right)
rewritten_alike equation.UntilUntil t u v one other = cc (one.is_left, one.is_right, other.is_left, other.is_right)
rewritten_alike equation.SeqAssocRight t u v one other = cc (one.is_left, one.is_right, other.is_left, other.is_right)
rewritten_alike equation.SeqAssocLeft t u v one other = cc (one.is_left, one.is_right, other.is_left, other.is_right)

pub taken_alike : (e : Equation) (place : ℕ) (t u v : Tree) → Takes e place t u → Takes e place t v → u ≡ v
taken_alike e place t u v one other =
    let same : Some one.old ≡ Some other.old = sym one.stands ∙ other.stands in
    let old : other.old ≡ one.old = cc in
    let new = rewritten_alike e one.old one.new other.new one.rewrites
    (subst (λ t. Rewrites e t other.new) old other.rewrites) in
    one.is ∙ ap (replaced t place) new ∙ sym other.is

-- a term that is missed becomes no other
pub missed_none : (e : Equation) (place : ℕ) (t u : Tree) (missed : Missed) → IsMissed e place t missed
    → Takes e place t u → ⊥
missed_none e place t u Unfit (old, stands, unfit) takes =
    let same : Some takes.old ≡ Some old = sym takes.stands ∙ stands in
    let is : takes.old ≡ old = cc in
    unfit (takes.new, subst (λ t. Rewrites e t takes.new) is takes.rewrites)
missed_none e place t u (Behind more) at takes = let below = place_below t place takes.old takes.stands in
    absurd (omega arith)
