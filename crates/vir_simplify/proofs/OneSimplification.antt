-- A term has one next step and one simplification, and steps lead to one term.
use Rattle.std.proofs.Common.{◌≡◌, List, [], ◌∷◌, ◌++◌, All, sym, ap, ap₂, ◌∙◌, subst, refl}
use Rattle.std.proofs.lemmas.List.Elements.{All-head, All-tail, All-contains}
use Rattle.vir_term.specs.Tree.{Tree}
use Rattle.vir_simplify.specs.declared.step.Step.{Step}
use Rattle.vir_simplify.specs.Equations.{Fits, shrinking}
use Rattle.vir_simplify.specs.Places.{Place, places}
use Rattle.vir_simplify.specs.Steps.{Takes, IsFirst, IsReducible, IsNext, IsIrreducible, Simplifies, Replays}
use Rattle.vir_simplify.proofs.FirstSteps.{first_contained}
use Rattle.vir_simplify.proofs.Taking.{taken_alike}

module _ {A : Type 0} (P : A → Type 0) where
  -- what stands behind items of which P doesn't hold
  behind_alike : (some others : List A) (x y : A) (more further : List A) → some ++ x ∷ more ≡ others ++ y ∷ further
      → P x → P y → All (λ z. P z → ⊥) some → All (λ z. P z → ⊥) others → x ≡ y
  behind_alike [] [] x y more further same one other none never = cc
  behind_alike [] (z ∷ others) x y more further same one other none never =
      let is : x ≡ z = cc in
      absurd (All-head (λ z. P z → ⊥) z others never (subst P is one))
  behind_alike (z ∷ some) [] x y more further same one other none never =
      let is : y ≡ z = cc in
      absurd (All-head (λ z. P z → ⊥) z some none (subst P is other))
  behind_alike (z ∷ some) (w ∷ others) x y more further same one other none never =
      let rest : some ++ x ∷ more ≡ others ++ y ∷ further = cc in
      behind_alike some others x y more further rest one other (All-tail (λ z. P z → ⊥) z some none)
      (All-tail (λ z. P z → ⊥) w others never)

  -- a list has one first item
  first_alike : (list : List A) (x y : A) → IsFirst P list x → IsFirst P list y → x ≡ y
  first_alike list x y one other = behind_alike one.before other.before x y one.after other.after
      (sym one.stands ∙ other.stands) one.holds other.holds one.none other.none

pub next_alike : (t : Tree) (r s : Step) → IsNext t r → IsNext t s → r ≡ s
next_alike t r s one other =
    let place : one.place ≡ other.place = first_alike IsReducible (places t) one.place other.place one.is_first_place
    other.is_first_place in
    let number : r.place ≡ s.place = one.number_is ∙ ap (λ (p : Place). p.number) place ∙ sym other.number_is in
    let equation : r.equation ≡ s.equation = first_alike (λ e. Fits e other.place.subterm) shrinking r.equation
    s.equation (subst (λ (p : Place). IsFirst (λ e. Fits e p.subterm) shrinking r.equation) place
    one.is_first_equation) other.is_first_equation in
    λ i. record { place = number i; equation = equation i }

-- where there is a next step, it can't be that there is none
not_irreducible : (t : Tree) (s : Step) → IsNext t s → IsIrreducible t → ⊥
not_irreducible t s next none =
    All-contains (λ place. IsReducible place → ⊥) (places t) next.place none
    (first_contained IsReducible (places t) next.place next.is_first_place) next.is_first_place.holds

pub simplifies_alike : (some others : List Step) (t u v : Tree) → Simplifies t some u → Simplifies t others v
    → (some ≡ others) × (u ≡ v)
simplifies_alike [] [] t u v (same, none) (other, so) = (refl, sym same ∙ other)
simplifies_alike [] (s ∷ rest) t u v (same, none) (between, next, takes, more) =
    absurd (not_irreducible t s next none)
simplifies_alike (r ∷ rest) [] t u v (between, next, takes, more) (same, none) =
    absurd (not_irreducible t r next none)
simplifies_alike (r ∷ rest) (s ∷ others) t u v (one, next, takes, more) (two, then, leads, further) =
    let step : r ≡ s = next_alike t r s next then in
    let between : one ≡ two = taken_alike s.equation s.place t one two
    (subst (λ (r : Step). Takes r.equation r.place t one) step takes) leads in
    let after = simplifies_alike rest others two u v (subst (λ t. Simplifies t rest u) between more) further in
    (ap₂ (λ (r : Step) (rest : List Step). r ∷ rest) step after.0, after.1)

pub replays_alike : (steps : List Step) (t u v : Tree) → Replays t steps u → Replays t steps v → u ≡ v
replays_alike [] t u v one other = sym one ∙ other
replays_alike (s ∷ rest) t u v (one, takes, within, more) (two, leads, fine, further) =
    let between : one ≡ two = taken_alike s.equation s.place t one two takes leads in
    replays_alike rest two u v (subst (λ t. Replays t rest u) between more) further
