-- Look-ups in the map and in the list.
use Rattle.std.proofs.Common.{◌≡◌, ℕ, Bool, true, false, cond, List, [], ◌∷◌, map, Option, Some, None, option_map, refl}
use Rattle.std.proofs.Common.{nat_eq}
use Rattle.std.specs.Option.{option_copied}
use Rattle.std.specs.Borrow.{Bor}
use Rattle.std.specs.Map.{lookup as map_lookup}
use Rattle.std.specs.Cmp.Lexicographic.{pointwise}
use Rattle.std.specs.declared.alloc.Global.{Global}
use Rattle.std.specs.declared.vec.Vec.{Vec}
use Rattle.vir_term.specs.Tree.{Tree}
use Rattle.vir_book.specs.Books.{lookup}
use Rattle.vir_book.specs.Entries.{as_entry}

module _ {T : Type 0} (meaning : T → Tree) where
  pub option_map-copied : (o : Option (Bor T)) → option_map (λ (t : Bor T). meaning t.now) o
      ≡ option_map meaning (option_copied o)
  option_map-copied None = refl
  option_map-copied (Some t) = refl

  chosen : (b : Bool) (t : T) (o : Option T) (r : Option Tree) → option_map meaning o ≡ r
      → option_map meaning (cond b (Some t) o) ≡ cond b (Some (meaning t)) r
  chosen true t o r h = refl
  chosen false t o r h = h

  pub lookup-entries : (w : List ℕ) (es : List (Vec ℕ Global × T))
      → option_map meaning (map_lookup (λ k. pointwise nat_eq w k.items) es) ≡ lookup (map (as_entry meaning) es) w
  lookup-entries w [] = refl
  lookup-entries w (e ∷ es) = chosen (pointwise nat_eq w e.0.items) e.1 _ _ (lookup-entries w es)

  pub absent : (o : Option T) → option_map meaning o ≡ None → o ≡ None
  absent None h = refl
  absent (Some t) h = cc
