-- A call's answer beside what the format says.
-- (The program's promises don't stand on this file.)
use Rattle.std.specs.Prelude.{◌≡◌, Option, Some, None, Result, Ok, Err}
use Rattle.vir_soc.specs.declared.fault.SocFault.{SocFault}
use Rattle.vir_soc.specs.declared.fault.SocError.{SocError}
use Rattle.vir_soc.specs.declared.fault.SocError.TheVariants.{Fault, Memory}
use Rattle.vir_soc.specs.declared.kind.SocKind.{SocKind}
use Rattle.vir_soc.specs.declared.stop.Stop.{Stop}
use Rattle.vir_soc.specs.declared.stop.Stop.TheVariants as stops

-- the fault in an error; want of memory is none
abbrev pub fault_in : SocError → Option SocFault
fault_in (Fault fault) = Some fault
fault_in Memory = None

-- the kind of fault in an error of a step
abbrev pub kind_in : Stop → Option SocKind
kind_in (stops.Kind kind) = Some kind
kind_in stops.Memory = None

-- a fault is the one that the rule gives
abbrev pub Fails : {Y F : Type 0} → Option F → Result Y F → Type 0
Fails (Some fault) rule = rule ≡ Err fault
Fails None rule = Unit {0}

-- a call gives what the rule gives, seen by this view; its error is the fault that this finds in it, or free
abbrev pub Gives : {X Y E F : Type 0} → (E → Option F) → (X → Y) → Result X E → Result Y F → Type 0
Gives in_error view (Ok x) rule = rule ≡ Ok (view x)
Gives in_error view (Err e) rule = Fails (in_error e) rule

-- a call that takes no memory
abbrev pub Follows : {X Y E : Type 0} → (X → Y) → Result X E → Result Y E → Type 0
Follows view result rule = Gives (λ e. Some e) view result rule

-- a fault is the one that is settled; want of memory is free
abbrev pub Shows : SocError → Option SocFault → Type 0
Shows (Fault f) fault = fault ≡ Some f
Shows Memory fault = Unit {0}
