-- Checks in an order, of which the first that fails decides.
use Rattle.std.specs.Prelude.{ℕ, Bool, Option, Some, None, Result, Ok, Err, if◌then◌else◌}
use Rattle.vir_soc.specs.declared.kind.SocKind.{SocKind}
use Rattle.vir_soc.specs.declared.fault.SocFault.{SocFault}

infixl 10 ◌>>=◌
-- what follows a step, where that one did not fail
abbrev pub ◌>>=◌ : {A B E : Type 0} → Result A E → (A → Result B E) → Result B E
(Ok x) >>= f = f x
(Err e) >>= f = Err e

-- this fault, where the test says so
abbrev pub refuse : {E : Type 0} → Bool → E → Result (Unit {0}) E
refuse test fault = if test then Err fault else Ok tt

-- a fault of this kind stands at this line
abbrev pub at_line : {A : Type 0} → ℕ → Result A SocKind → Result A SocFault
at_line line (Ok x) = Ok x
at_line line (Err kind) = Err (record { line = line; kind = kind })

-- the fault, if there is one
abbrev pub fault_of : {A E : Type 0} → Result A E → Option E
fault_of (Ok x) = None
fault_of (Err e) = Some e
