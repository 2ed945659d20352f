-- Which orders a profile takes: the first fault of an order, in the order in which faults are tried.
use Rattle.std.specs.Prelude.{ℕ, ◌&&◌, Bool, List, [], ◌∷◌, ◌++◌, length, Option, Some, None, if◌then◌else◌, nat_le}
use Rattle.std.specs.Prelude.{nat_lt, nat_eq}
use Rattle.std.specs.List.{list_any}
use Rattle.vir_profile.specs.declared.refused.AddFault.{AddFault}
use Rattle.vir_profile.specs.declared.refused.AddFault.TheVariants.{OutOfRange, Repeated, Short}

-- the fault of the first member that offends, where these members stand before it
abbrev pub member_fault_after : ℕ → List ℕ → List ℕ → Option AddFault
member_fault_after m before [] = None
member_fault_after m before (x ∷ rest) =
    if nat_le 1 x && nat_le x m then (if list_any (λ y. nat_eq y x) before then Some Repeated else member_fault_after m
    (before ++ x ∷ []) rest)
    else Some OutOfRange

-- the fault, where the test is met
abbrev pub fault_where : Bool → AddFault → Option AddFault
fault_where test fault = if test then Some fault else None

-- the first of two faults
abbrev pub or_else : Option AddFault → Option AddFault → Option AddFault
or_else (Some fault) next = Some fault
or_else None next = next

-- the first fault of an order of the alternatives from 1 to m
abbrev pub order_fault : ℕ → List ℕ → Option AddFault
order_fault m order = or_else (member_fault_after m [] order) (fault_where (nat_lt (length order) m) Short)
