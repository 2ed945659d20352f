-- Steps from a term to a term of the same meaning.
use Rattle.std.specs.Prelude.{◌≡◌, ℕ, List, [], ◌∷◌, ◌++◌, Some, All, Contains}
use Rattle.vir_term.specs.Tree.{Tree}
use Rattle.vir_term.specs.Limits.{IsWithinLimits}
use Rattle.vir_simplify.specs.declared.equation.Equation.{Equation}
use Rattle.vir_simplify.specs.declared.step.Step.{Step}
use Rattle.vir_simplify.specs.Equations.{Rewrites, Fits, shrinking}
use Rattle.vir_simplify.specs.Places.{Place, subterm_at, replaced, places}

-- One term becomes another: the equation rewrites the subterm at the place, and all else stays.
pub record Takes (e : Equation) (place : ℕ) (one other : Tree) : Type 0 where
  pub old : Tree
  pub new : Tree
  pub stands : subterm_at one place ≡ Some old
  pub rewrites : Rewrites e old new
  pub is : other ≡ replaced one place new

-- x is the first of the list of which P holds.
pub record IsFirst {A : Type 0} (P : A → Type 0) (list : List A) (x : A) : Type 0 where
  pub before : List A
  pub after : List A
  pub stands : list ≡ before ++ x ∷ after
  pub holds : P x
  pub none : All (λ y. P y → ⊥) before

-- At the place, some equation fits that makes the term smaller.
abbrev pub IsReducible : Place → Type 0
IsReducible place = (e : Equation) × Contains shrinking e × Fits e place.subterm

-- The step is at the first of these places where an equation that makes the term smaller fits, and by the first such
-- equation that fits there.
pub record IsFirstStep (list : List Place) (s : Step) : Type 0 where
  pub place : Place
  pub is_first_place : IsFirst IsReducible list place
  pub number_is : s.place ≡ place.number
  pub is_first_equation : IsFirst (λ e. Fits e place.subterm) shrinking s.equation

-- The next step of a term: at the first place in postorder where there is one.
abbrev pub IsNext : Tree → Step → Type 0
IsNext t s = IsFirstStep (places t) s

-- At none of these places an equation fits that makes the term smaller.
abbrev pub HasNoStep : List Place → Type 0
HasNoStep list = All (λ place. IsReducible place → ⊥) list

-- A term has no step.
abbrev pub IsIrreducible : Tree → Type 0
IsIrreducible t = HasNoStep (places t)

-- The term and the steps that come of taking the next step until there is none.
abbrev pub Simplifies : Tree → List Step → Tree → Type 0
Simplifies one [] other = (one ≡ other) × IsIrreducible one
Simplifies one (s ∷ rest) other =
    (between : Tree) × IsNext one s × Takes s.equation s.place one between × Simplifies between rest other

-- The term that comes of taking these steps in their order, each to a term within the limits.
abbrev pub Replays : Tree → List Step → Tree → Type 0
Replays one [] other = one ≡ other
Replays one (s ∷ rest) other =
    (between : Tree) × Takes s.equation s.place one between × IsWithinLimits between × Replays between rest other
