-- First items of lists, and first steps of terms.
use Rattle.std.proofs.Common.{◌≡◌, ℕ, ◌+◌, ◌<◌, List, [], ◌∷◌, ◌++◌, length, get_or, take, drop, All, Contains, refl}
use Rattle.std.proofs.Common.{sym, ap, ◌∙◌, subst, append_assoc, arith, suc, true, false, Option, None, Some}
use Rattle.std.proofs.Common.{MatchOption, is_some}
use Rattle.std.proofs.Math.Seq.{drop-cons}
use Rattle.std.proofs.lemmas.List.{take-append-drop, get_or_default}
use Rattle.std.specs.ControlFlow.{MatchControlFlow}
use Rattle.std.specs.declared.ops.ControlFlow.{ControlFlow}
use Rattle.std.specs.declared.ops.ControlFlow.TheVariants.{Continue, Break}
use Rattle.std.proofs.lemmas.List.Elements.{All-nil, All-cons, All-append, All-contains, Contains-append_right}
use Rattle.vir_term.specs.Tree.{Tree, leaf, rev, seq, par, loop}
use Rattle.vir_simplify.specs.declared.equation.Equation.{Equation}
use Rattle.vir_simplify.specs.declared.step.Step.{Step}
use Rattle.vir_simplify.specs.Equations.{Fits, Rewrites, shrinking}
use Rattle.vir_simplify.specs.Places.{Place, postorder}
use Rattle.vir_simplify.specs.Steps.{IsFirst, IsReducible, HasNoStep, IsFirstStep}
use Rattle.vir_simplify.specs.Workings.{right_tree, part_places, IsSought}
use Rattle.vir_simplify.specs.declared.right_side.RightSide.{RightSide}

-- a list, cut at an index
split : {A : Type 0} (xs : List A) (i : ℕ) {x : A} → i < length xs → get_or xs i x ≡ x
    → xs ≡ take i xs ++ x ∷ drop (i + 1) xs
split xs i {x} inside is = sym (take-append-drop i xs)
    ∙ ap (λ rest. take i xs ++ rest) (drop-cons xs i x inside ∙ ap (λ y. y ∷ drop (suc i) xs) is
    ∙ ap (λ n. x ∷ drop n xs) next)
  where
    next : suc i ≡ i + 1
    next = omega arith

module _ {A : Type 0} (P : A → Type 0) where
  -- the item at an index, where none before it is such
  pub first_at : (xs : List A) (i : ℕ) (x : A) → i < length xs → get_or xs i x ≡ x → P x
      → All (λ y. P y → ⊥) (take i xs) → IsFirst P xs x
  first_at xs i x inside is holds none = record {
    before = take i xs;
    after = drop (i + 1) xs;
    stands = split xs i inside is;
    holds = holds;
    none = none;
  }

  -- the same of a list that is known by another name
  pub first_found : (xs items : List A) (i : ℕ) (d : A) → items ≡ xs → i < length items → P (get_or items i d)
      → All (λ y. P y → ⊥) (take i xs) → IsFirst P xs (get_or items i d)
  first_found xs items i d same = subst (λ xs. i < length items → P (get_or items i d)
      → All (λ y. P y → ⊥) (take i xs) → IsFirst P xs (get_or items i d)) same
      (λ inside holds none. first_at items i (get_or items i d) inside
      (get_or_default items i (get_or items i d) d inside) holds none)

  pub first_left : (xs ys : List A) (x : A) → IsFirst P xs x → IsFirst P (xs ++ ys) x
  first_left xs ys x first = record {
    before = first.before;
    after = first.after ++ ys;
    stands = ap (λ list. list ++ ys) first.stands ∙ append_assoc first.before (x ∷ first.after) ys;
    holds = first.holds;
    none = first.none;
  }

  pub first_right : (xs ys : List A) (y : A) → All (λ x. P x → ⊥) xs → IsFirst P ys y → IsFirst P (xs ++ ys) y
  first_right xs ys y none first = record {
    before = xs ++ first.before;
    after = first.after;
    stands = ap (λ list. xs ++ list) first.stands ∙ sym (append_assoc xs first.before (y ∷ first.after));
    holds = first.holds;
    none = All-append (λ x. P x → ⊥) xs first.before none first.none;
  }

  pub first_contained : (xs : List A) (x : A) → IsFirst P xs x → Contains xs x
  first_contained xs x first = subst (λ list. Contains list x) (sym first.stands)
      (Contains-append_right first.before (x ∷ first.after) x (0, omega arith, refl))

pub step_left : (xs ys : List Place) (s : Step) → IsFirstStep xs s → IsFirstStep (xs ++ ys) s
step_left xs ys s first = record {
  place = first.place;
  is_first_place = first_left IsReducible xs ys first.place first.is_first_place;
  number_is = first.number_is;
  is_first_equation = first.is_first_equation;
}

pub step_right : (xs ys : List Place) (s : Step) → All (λ place. IsReducible place → ⊥) xs → IsFirstStep ys s
    → IsFirstStep (xs ++ ys) s
step_right xs ys s none first = record {
  place = first.place;
  is_first_place = first_right IsReducible xs ys first.place none first.is_first_place;
  number_is = first.number_is;
  is_first_equation = first.is_first_equation;
}

-- the step at a place of its own
pub step_here : (n : ℕ) (t : Tree) (s : Step) → s.place ≡ n → IsFirst (λ e. Fits e t) shrinking s.equation
    → IsFirstStep (record { number = n; subterm = t } ∷ []) s
step_here n t s at first = record {
  place = record { number = n; subterm = t };
  is_first_place = record {
    before = [];
    after = [];
    stands = refl;
    holds = (s.equation, first_contained (λ e. Fits e t) shrinking s.equation first, first.holds);
    none = All-nil (λ (place : Place). IsReducible place → ⊥);
  };
  number_is = at;
  is_first_equation = first;
}

-- where no equation fits, there is no step
pub none_here : (n : ℕ) (t : Tree) → All (λ e. Fits e t → ⊥) shrinking
    → All (λ place. IsReducible place → ⊥) (record { number = n; subterm = t } ∷ [])
none_here n t none = All-cons (λ (place : Place). IsReducible place → ⊥) _ []
    (λ (e, listed, fits). All-contains (λ e. Fits e t → ⊥) shrinking e none listed fits)
    (All-nil (λ (place : Place). IsReducible place → ⊥))

-- the places of a term are those within its parts, and its own
postorder-parts : (n : ℕ) (t : Tree) → postorder n t ≡ part_places (n + 1) t ++ record { number = n; subterm = t } ∷ []
postorder-parts n (leaf l) = refl
postorder-parts n (rev part) = refl
postorder-parts n (seq first second) = refl
postorder-parts n (par first second) = refl
postorder-parts n (loop k body) = refl

-- where there is no step within the parts of a term, the term itself decides
pub sought_here : (n next behind : ℕ) (t : Tree) (answer : ControlFlow Step ℕ) → next ≡ behind
    → HasNoStep (part_places (n + 1) t)
    → MatchControlFlow answer (λ after. (after ≡ next) × All (λ e. Fits e t → ⊥) shrinking)
    (λ step. (step.place ≡ n) × IsFirst (λ e. Fits e t) shrinking step.equation)
    → IsSought (postorder n t) behind answer
sought_here n next behind t (Continue after) ends none told = (
  told.0 ∙ ends,
  subst HasNoStep (sym (postorder-parts n t)) (All-append (λ (place : Place). IsReducible place → ⊥)
      (part_places (n + 1) t) _ none (none_here n t told.1)),
)
sought_here n next behind t (Break step) ends none told =
    subst (λ list. IsFirstStep list step) (sym (postorder-parts n t))
    (step_right (part_places (n + 1) t) _ step none (step_here n t step told.0 told.1))

-- a step within the parts is the first one
pub sought_in_parts : (n : ℕ) (t : Tree) (s : Step) → IsFirstStep (part_places (n + 1) t) s
    → IsFirstStep (postorder n t) s
sought_in_parts n t s first = subst (λ list. IsFirstStep list s) (sym (postorder-parts n t))
    (step_left (part_places (n + 1) t) _ s first)

-- where there is no step within the first of two lists, the second one decides
pub sought_behind : (one other : List Place) (behind : ℕ) (answer : ControlFlow Step ℕ) → HasNoStep one
    → IsSought other behind answer → IsSought (one ++ other) behind answer
sought_behind one other behind (Continue after) none told =
    (told.0, All-append (λ (place : Place). IsReducible place → ⊥) one other none told.1)
sought_behind one other behind (Break step) none told = step_right one other step none told

-- what an equation's right side tells of whether the equation fits
pub fitting : (e : Equation) (t : Tree) (found : Option RightSide) → MatchOption found (Fits e t → ⊥)
    (λ right. Rewrites e t (right_tree right)) → is_some found ≡ true → Fits e t
fitting e t None told some = cc
fitting e t (Some right) told some = (right_tree right, told)

pub unfit : (e : Equation) (t : Tree) (found : Option RightSide) → MatchOption found (Fits e t → ⊥)
    (λ right. Rewrites e t (right_tree right)) → is_some found ≡ false → Fits e t → ⊥
unfit e t None told none = told
unfit e t (Some right) told none = cc
