-- What is told of properties, one after another.
use Rattle.std.proofs.Common.{◌≡◌, ℕ, ◌+◌, ◌<◌, List, [], ◌∷◌, ◌++◌, OnOk, get_or, length, subst, take, Result, Ok, Err}
use Rattle.std.proofs.Common.{map, refl, sym, ap, ◌∙◌, append_assoc, append-nil}
use Rattle.std.proofs.lemmas.List.{map-append, take_more}
use Rattle.std.proofs.lemmas.List.Elements.{All-append, All-cons, All-nil}
use Rattle.std.proofs.lemmas.Grind.{flat_map-append}
use Rattle.std.specs.List.{flat_map}
use Rattle.vir_term.specs.declared.prop.Prop.{Prop}
use Rattle.vir_term.specs.Appending.{Appends}
use Rattle.vir_term.specs.Tree.{Tree}
use Rattle.vir_course.specs.Tellings.{TellsEach}

module _ {X : Type 0} (prop_of : X → Prop) (IsSo : Tree → X → Type 0) (lines_of : X → List ℕ) where
  -- what is written of one property
  pub tells_one : {E : Type 0} (term : Tree) (x : X) (old new : List ℕ) (answer : Result (Unit {0}) E) → IsSo term x
      → Appends answer old new (lines_of x)
      → OnOk answer (TellsEach prop_of IsSo lines_of term (prop_of x ∷ []) old new)
  tells_one term x old new (Err e) so is = tt
  tells_one term x old new (Ok done) so is =
      record {
        told = x ∷ [];
        in_order = refl;
        are_so = All-cons (IsSo term) x [] so (All-nil (IsSo term));
        text_is = is ∙ ap (λ xs. old ++ xs) (sym (append-nil (lines_of x)));
      }

module _ {X : Type 0} {prop_of : X → Prop} {IsSo : Tree → X → Type 0} {lines_of : X → List ℕ} where
  -- behind what is told of some properties, what is told of more
  tells_more : (term : Tree) (props more : List Prop) (old mid new : List ℕ)
      → TellsEach prop_of IsSo lines_of term props old mid → TellsEach prop_of IsSo lines_of term more mid new
      → TellsEach prop_of IsSo lines_of term (props ++ more) old new
  tells_more term props more old mid new first next =
      record {
        told = first.told ++ next.told;
        in_order = map-append prop_of first.told next.told ∙ ap (λ ps. ps ++ map prop_of next.told) first.in_order
            ∙ ap (λ ps. props ++ ps) next.in_order;
        are_so = All-append (IsSo term) first.told next.told first.are_so next.are_so;
        text_is =
            next.text_is ∙ ap (λ xs. xs ++ flat_map lines_of next.told) first.text_is
            ∙ append_assoc old (flat_map lines_of first.told) (flat_map lines_of next.told)
            ∙ ap (λ xs. old ++ xs) (sym (flat_map-append lines_of first.told next.told));
      }

  -- behind what is told of the first properties, what is told of the next one
  pub tells_next : (term other : Tree) (props : List Prop) (i : ℕ) (default : Prop) (old mid new : List ℕ)
      → other ≡ term → i < length props → TellsEach prop_of IsSo lines_of term (take i props) old mid
      → TellsEach prop_of IsSo lines_of other (get_or props i default ∷ []) mid new
      → TellsEach prop_of IsSo lines_of term (take (i + 1) props) old new
  tells_next term other props i default old mid new same within so_far next =
      let one = get_or props i default ∷ [] in
      let here : TellsEach prop_of IsSo lines_of term one mid new =
      subst (λ (t : Tree). TellsEach prop_of IsSo lines_of t one mid new) same next in
      subst (λ ps. TellsEach prop_of IsSo lines_of term ps old new) (sym (take_more props i default within))
      (tells_more term (take i props) one old mid new so_far here)
