-- What is told of properties, one after another, while a text is made.
-- (The program's promises don't stand on this file.)
use Rattle.std.specs.Prelude.{◌≡◌, ℕ, List, ◌++◌, All, map}
use Rattle.std.specs.List.{flat_map}
use Rattle.vir_term.specs.declared.prop.Prop.{Prop}
use Rattle.vir_term.specs.Tree.{Tree}

-- Behind a text, it is told of these properties of a term, in their order, what is so: of each property what is said in
-- its lines.
pub record TellsEach {X : Type 0} (prop_of : X → Prop) (IsSo : Tree → X → Type 0) (lines_of : X → List ℕ) (term : Tree)
    (props : List Prop) (old new : List ℕ) : Type 0 where
  pub told : List X
  pub in_order : map prop_of told ≡ props
  pub are_so : All (IsSo term) told
  pub text_is : new ≡ old ++ flat_map lines_of told
