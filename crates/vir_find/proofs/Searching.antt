-- The steps of a search through the profiles of so many voters.
use Rattle.std.proofs.Common.{◌≡◌, ◌≢◌, ℕ, suc, ◌+◌, ◌-◌, ◌<◌, ◌≤◌, List, [], ◌∷◌, ◌++◌, map, length, take, drop}
use Rattle.std.proofs.Common.{get_or, refl}
use Rattle.std.proofs.Common.{Vec}
use Rattle.std.specs.declared.alloc.Global.{Global}
use Rattle.vir_find.specs.OrderLists.{lists_in}
use Rattle.std.proofs.Common.{sym, ap, ◌∙◌, subst, arith}
use Rattle.std.proofs.lemmas.List.{take_all}
use Rattle.std.specs.List.{All, flat_map}
use Rattle.vir_profile.specs.Profiles.{Votes}
use Rattle.vir_term.specs.declared.prop.Prop.{Prop}
use Rattle.vir_refute.specs.Cases.{Case}
use Rattle.vir_find.specs.Going.{going_on, taking}
use Rattle.vir_find.specs.Outcomes.{IsFirst}
use Rattle.vir_find.specs.Spreads.{down_from, spread}
use Rattle.vir_find.proofs.FirstOrders.{length-down_from, at-down_from, spread-by_first}
use Rattle.vir_find.proofs.Outcomes.{none_further, first_at}

module _ (Wanted : Case → Type 0) (prop : Prop) (votes : Votes) (orders : List (List ℕ)) (first : List ℕ)
    (further : List (List ℕ)) (voters : ℕ) (is : orders ≡ first ∷ further) where
  here : (others : ℕ) → others ≤ voters → taking prop votes (first ∷ further) voters (voters - others)
      ≡ taking prop votes orders voters (get_or (down_from voters) others 0)
  here others inside = ap (taking prop votes (first ∷ further) voters) (sym (at-down_from voters others inside))
      ∙ ap (λ os. taking prop votes os voters (get_or (down_from voters) others 0)) (sym is)

  whole : flat_map (taking prop votes orders voters) (down_from voters) ≡ flat_map (going_on prop votes)
      (spread orders voters)
  whole = ap (λ os. flat_map (taking prop votes os voters) (down_from voters)) is
      ∙ sym (spread-by_first prop votes first further voters)
      ∙ ap (λ os. flat_map (going_on prop votes) (spread os voters)) (sym is)

  short : (others : ℕ) → others ≤ voters → others < length (down_from voters)
  short others inside = let long = length-down_from voters in omega arith

  pub found_here : (others : ℕ) (c : Case) → others ≤ voters
      → All (λ c. Wanted c → ⊥) (flat_map (taking prop votes orders voters) (take others (down_from voters)))
      → IsFirst Wanted (taking prop votes (first ∷ further) voters (voters - others)) c
      → IsFirst Wanted (flat_map (going_on prop votes) (spread orders voters)) c
  found_here others c inside none found =
      subst (λ list. IsFirst Wanted list c) whole
      (first_at Wanted (taking prop votes orders voters) (down_from voters) others c (short others inside) none
      (subst (λ list. IsFirst Wanted list c) (here others inside) found))

  pub none_here : (others : ℕ) → others ≤ voters
      → All (λ c. Wanted c → ⊥) (flat_map (taking prop votes orders voters) (take others (down_from voters)))
      → All (λ c. Wanted c → ⊥) (taking prop votes (first ∷ further) voters (voters - others))
      → All (λ c. Wanted c → ⊥) (flat_map (taking prop votes orders voters) (take (others + 1) (down_from voters)))
  none_here others inside none found =
      none_further Wanted (taking prop votes orders voters) (down_from voters) others (short others inside) none
      (subst (All (λ c. Wanted c → ⊥)) (here others inside) found)

  pub none_at_all : (others : ℕ) → voters + 1 ≤ others
      → All (λ c. Wanted c → ⊥) (flat_map (taking prop votes orders voters) (take others (down_from voters)))
      → All (λ c. Wanted c → ⊥) (flat_map (going_on prop votes) (spread orders voters))
  none_at_all others end none =
      subst (All (λ c. Wanted c → ⊥)) (ap (flat_map (taking prop votes orders voters)) (take_all others
      (down_from voters)
      (let long = length-down_from voters in omega arith)) ∙ whole) none

-- the first of the orders that the code holds, and the others
pub first_order : (orders : List (Vec ℕ Global)) (v : Vec ℕ Global) (order : List ℕ) → length orders ≢ 0
    → v ≡ get_or orders 0 v → order ≡ v.items → lists_in orders
    ≡ order ∷ lists_in (take (length orders - 1) (drop 1 orders))
first_order [] v order some is items = absurd (some refl)
first_order (u ∷ orders) v order some is items = ap (λ o. o ∷ lists_in orders) (sym (items
    ∙ ap (λ (w : Vec ℕ Global). w.items) is))
    ∙ ap (λ list. order ∷ lists_in list) (sym (take_all (suc (length orders) - 1) orders (omega arith)))

pub none_listed : (orders : List (Vec ℕ Global)) → length orders ≡ 0 → lists_in orders ≡ []
none_listed [] none = refl
none_listed (u ∷ orders) none = absurd (omega arith)
