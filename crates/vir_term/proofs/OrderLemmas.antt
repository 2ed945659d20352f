-- A list is judged from the front, a member at a time.
use Rattle.std.proofs.Common.{◌≡◌, ℕ, suc, ◌+◌, ◌<◌, ◌≤◌, true, false, ◌&&◌, List, ◌∷◌, length, get_or, take, drop}
use Rattle.std.proofs.Common.{Some, nat_le, nat_eq, refl, sym, ap, ◌∙◌, arith, add-one}
use Rattle.std.proofs.Math.Seq.{drop-cons}
use Rattle.std.proofs.lemmas.List.{take_more}
use Rattle.std.specs.List.{list_any}
use Rattle.std.proofs.lemmas.Bool.Decides.{nat_tests}
use Rattle.vir_term.specs.declared.fixed_order.OrderFault.TheVariants.{Repeated}
use Rattle.vir_term.specs.Orders.{member_limit, order_fault_after}

in_range : (x : ℕ) → 1 ≤ x → x ≤ member_limit → (nat_le 1 x && nat_le x member_limit) ≡ true
in_range x some few = grind (arith, nat_tests)

module _ (list : List ℕ) (i x : ℕ) (h : i < length list) (is : x ≡ get_or list i x) where
  first_left : drop i list ≡ x ∷ drop (i + 1) list
  first_left = rw add-one (drop-cons list i x h ∙ ap (λ y. y ∷ drop (suc i) list) (sym is))

  -- a member in range that did not stand before is no fault
  pub order_fault_after-new : 1 ≤ x → x ≤ member_limit → false ≡ list_any (λ y. nat_eq y x) (take i list)
      → order_fault_after (take i list) (drop i list) ≡ order_fault_after (take (i + 1) list) (drop (i + 1) list)
  order_fault_after-new some few new = rw (first_left, in_range x some few, ← new, take_more list i x h, ← is) refl

  -- and one that stood before is
  pub order_fault_after-repeated : 1 ≤ x → x ≤ member_limit → true ≡ list_any (λ y. nat_eq y x) (take i list)
      → order_fault_after (take i list) (drop i list) ≡ Some Repeated
  order_fault_after-repeated some few old = rw (first_left, in_range x some few, ← old) refl
