-- For private clauses alone: the counters after a list of modules was asked for, one after the other.
-- (The program's promises don't stand on this file.)
use Rattle.std.specs.Prelude.{Bool, true, nat_eq, if◌then◌else◌, List, [], ◌∷◌}
use Rattle.vir_term.specs.declared.leaf.Leaf.{Leaf}
use Rattle.vir_term.specs.declared.leaf.LeafKind.{LeafKind}
use Rattle.vir_term.specs.Kinds.{kind_of}
use Rattle.vir_code.specs.declared.instr.Instr.{Instr}
use Rattle.vir_code.specs.declared.instr.Instr.TheVariants.{Call}
use Rattle.vir_machine.specs.Bench.{CounterView, kinds_of, raised, is_served, first_serving}

-- each call of a module is one more of the first counter that serves it
abbrev pub asked : List Leaf → List CounterView → List CounterView
asked [] counters = counters
asked (l ∷ rest) counters = asked rest (raised (λ i. if nat_eq i (first_serving (kinds_of counters) (kind_of l)) then 1
    else 0) counters)

-- whether the module that an instruction calls, if it calls one, is served
abbrev pub call_served : List (List LeafKind) → Instr → Bool
call_served served (Call l) = is_served served (kind_of l)
call_served served _ = true
