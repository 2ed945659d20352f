-- Which lists are fixed orders: the fault of the first member that offends.
use Rattle.std.specs.Prelude.{ℕ, ◌&&◌, List, [], ◌∷◌, ◌++◌, Option, Some, None, if◌then◌else◌, nat_le, nat_eq}
use Rattle.std.specs.List.{list_any}
use Rattle.vir_term.specs.declared.fixed_order.OrderFault.{OrderFault}
use Rattle.vir_term.specs.declared.fixed_order.OrderFault.TheVariants.{OutOfRange, Repeated}

-- the greatest number that a fixed order may name
abbrev pub member_limit : ℕ
member_limit = 1024

-- the fault of these members, where those stand before them
abbrev pub order_fault_after : List ℕ → List ℕ → Option OrderFault
order_fault_after before [] = None
order_fault_after before (x ∷ rest) =
    if nat_le 1 x && nat_le x member_limit then (if list_any (λ y. nat_eq y x) before then Some Repeated
    else order_fault_after (before ++ x ∷ []) rest)
    else Some OutOfRange

-- the first fault of a list, if it has one
abbrev pub order_fault : List ℕ → Option OrderFault
order_fault list = order_fault_after [] list
