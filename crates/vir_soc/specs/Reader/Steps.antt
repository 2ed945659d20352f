-- The answer of a step on a line beside what the format says.
-- (The program's promises don't stand on this file.)
use Rattle.std.specs.Prelude.{ℕ, ◌≤◌, List, Option, Some, Result, Ok}
use Rattle.vir_altset.specs.Sets.{limit}
use Rattle.vir_profile.specs.declared.refused.AddFault.{AddFault}
use Rattle.vir_profile.specs.declared.refused.AddFault.TheVariants as faults
use Rattle.vir_soc.specs.declared.key.Key.{Key}
use Rattle.vir_soc.specs.declared.key.Key.TheVariants.{DataType, Alternatives, Voters, Orders, NameOf, Other}
use Rattle.vir_soc.specs.declared.kind.SocKind.{SocKind}
use Rattle.vir_soc.specs.declared.kind.SocKind.TheVariants.{OutOfRange, Repeated, Short, TooManyOrders, TooManyVoters}
use Rattle.vir_soc.specs.declared.stop.Stop.{Stop}
use Rattle.vir_soc.specs.declared.stop.Stop.TheVariants.{Kind, Memory}
use Rattle.vir_soc.specs.Checks.{◌>>=◌}
use Rattle.vir_soc.specs.Metadata.{alternatives_stated}

-- why a profile refused a line, as the reader says it
abbrev pub stop_of : AddFault → Stop
stop_of faults.OutOfRange = Kind OutOfRange
stop_of faults.Repeated = Kind Repeated
stop_of faults.Short = Kind Short
stop_of faults.TooManyOrders = Kind TooManyOrders
stop_of faults.TooManyVoters = Kind TooManyVoters
stop_of faults.Memory = Memory

-- a key asks for the name of no other number than that of an alternative
abbrev pub IsKey : Key → Type 0
IsKey DataType = Unit {0}
IsKey Alternatives = Unit {0}
IsKey Voters = Unit {0}
IsKey Orders = Unit {0}
IsKey (NameOf i) = (1 ≤ i) × (i ≤ limit)
IsKey Other = Unit {0}

-- the number of alternatives as it is known after a line that states it
abbrev pub alternatives_taken : Option ℕ → List ℕ → Result (Option ℕ) SocKind
alternatives_taken earlier value = do
  m ← alternatives_stated earlier value
  Ok (Some m)
