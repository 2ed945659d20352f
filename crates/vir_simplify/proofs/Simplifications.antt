-- What holds of simplification.
use Rattle.std.proofs.Common.{◌≡◌, ◌+◌, ◌≤◌, List, [], ◌∷◌, Some, length, refl, sym, ap, ◌∙◌, subst, arith}
use Rattle.std.proofs.lemmas.List.Elements.{All-contains}
use Rattle.vir_term.specs.Tree.{Tree, size, nesting}
use Rattle.vir_term.specs.Limits.{IsInRange, IsWithinLimits}
use Rattle.vir_mean.specs.Meaning.{mean}
use Rattle.vir_simplify.specs.declared.step.Step.{Step}
use Rattle.vir_simplify.specs.Equations.{Fits, Shrinks, shrinking}
use Rattle.vir_simplify.specs.Meanings.{MeanTheSame}
use Rattle.vir_simplify.specs.Places.{Place, subterm_at, replaced, places}
use Rattle.vir_simplify.specs.Steps.{Takes, IsReducible, IsNext, IsIrreducible, Simplifies, Replays}
use Rattle.vir_simplify.proofs.FirstSteps.{first_contained}
use Rattle.vir_simplify.proofs.NumberedPlaces.{places-numbered}
use Rattle.vir_simplify.proofs.SideLaws.{shrinking-smaller}
use Rattle.vir_simplify.proofs.StepLaws.{takes_means, takes_less}

-- the next step can be taken
pub next_takes : (t : Tree) (s : Step) → IsNext t s → (u : Tree) × Takes s.equation s.place t u
next_takes t s next =
    let place = next.place in
    let fits = next.is_first_equation.holds in
    let listed = first_contained IsReducible (places t) place next.is_first_place in
    let stands : subterm_at t place.number ≡ Some place.subterm =
    All-contains (λ (place : Place). subterm_at t place.number ≡ Some place.subterm) (places t) place
    (places-numbered t) listed in (
      replaced t s.place fits.0,
      record {
        old = place.subterm;
        new = fits.0;
        stands = ap (subterm_at t) next.number_is ∙ stands;
        rewrites = fits.1;
        is = refl;
      },
    )

-- and makes the term smaller
pub next_shrinks : (t : Tree) (s : Step) → IsNext t s → Shrinks s.equation
next_shrinks t s next = All-contains Shrinks shrinking s.equation shrinking-smaller
    (first_contained (λ e. Fits e next.place.subterm) shrinking s.equation next.is_first_equation)

pub simplifies_means : (steps : List Step) (t u : Tree) → Simplifies t steps u → MeanTheSame t u
simplifies_means [] t u (same, none) a p on = ap (λ t. mean t a p) same
simplifies_means (s ∷ rest) t u (between, next, takes, more) a p on =
    takes_means s.equation s.place t between takes a p on ∙ simplifies_means rest between u more a p on

-- A term is no larger than another and no deeper, and its numbers are in range where those of the other are. It is
-- smaller by the number of steps at least.
pub record IsNoMore (steps : List Step) (t u : Tree) : Type 0 where
  pub smaller : length steps + size u ≤ size t
  pub no_deeper : nesting u ≤ nesting t
  pub in_range : IsInRange t → IsInRange u

pub simplifies_less : (steps : List Step) (t u : Tree) → Simplifies t steps u → IsNoMore steps t u
simplifies_less [] t u (same, none) =
    record {
      smaller = (let e : size u ≡ size t = ap size (sym same) in omega arith);
      no_deeper = (let e : nesting u ≡ nesting t = ap nesting (sym same) in omega arith);
      in_range = subst IsInRange same;
    }
simplifies_less (s ∷ rest) t u (between, next, takes, more) =
    let step = takes_less s.equation s.place t between (next_shrinks t s next) takes in
    let after = simplifies_less rest between u more in
    record {
      smaller = omega (arith, step.smaller, after.smaller);
      no_deeper = omega (arith, step.no_deeper, after.no_deeper);
      in_range = λ fine. after.in_range (step.in_range fine);
    }

-- of a term within the limits
pub within_still : (steps : List Step) (t u : Tree) → Simplifies t steps u → IsWithinLimits t → IsWithinLimits u
within_still steps t u simplifies within =
    let less = simplifies_less steps t u simplifies in
    record {
      small = omega (arith, less.smaller, within.small);
      flat = omega (arith, less.no_deeper, within.flat);
      in_range = less.in_range within.in_range;
    }

-- the steps of a simplification, replayed
pub simplifies_replays : (steps : List Step) (t u : Tree) → Simplifies t steps u → IsWithinLimits t
    → Replays t steps u
simplifies_replays [] t u (same, none) within = same
simplifies_replays (s ∷ rest) t u (between, next, takes, more) within =
    let step = takes_less s.equation s.place t between (next_shrinks t s next) takes in
    let still : IsWithinLimits between = record {
      small = omega (arith, step.smaller, within.small);
      flat = omega (arith, step.no_deeper, within.flat);
      in_range = step.in_range within.in_range;
    } in
    (between, takes, still, simplifies_replays rest between u more still)

-- it ends where no equation makes the term smaller
pub simplifies_fully : (steps : List Step) (t u : Tree) → Simplifies t steps u → IsIrreducible u
simplifies_fully [] t u (same, none) = subst IsIrreducible same none
simplifies_fully (s ∷ rest) t u (between, next, takes, more) = simplifies_fully rest between u more
