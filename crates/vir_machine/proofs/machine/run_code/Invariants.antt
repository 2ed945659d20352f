use Rattle.std.proofs.Common.{◌≡◌}
use Rattle.vir_altset.specs.Sets.{all, IsPart}
use Rattle.vir_compile.specs.Exec.{state, start_of, IsReached}
use Rattle.vir_compile.specs.Calls.{calls_left}
use Rattle.vir_compile.specs.StepsLeft.{steps_left}
use Rattle.vir_machine.specs.Bench.{views, kinds_of}
use Rattle.vir_machine.specs.Asked.{asked}
use Rattle.vir_machine.specs.contracts.machine.run_code as contract
use Rattle.vir_machine.proofs.machine.run_code.Given as goal

abbrev pub invariant-loop-instr : goal.invariant-loop-instr
invariant-loop-instr g l =
    let seen = views (λ b. ((contract.dyn-1-ghosts g.dyn-1).0.entry b.vtable).1.kinds b.value)
    (λ b. ((contract.dyn-1-ghosts g.dyn-1).0.entry b.vtable).1.made b.value) in
    let lines = l.election.profile.lines in
    record {
      reached : IsReached l.code l.fn.here lines (state l.place l.here l.splits.0 l.domains.0);
      calls : asked (calls_left l.code lines (state l.place l.here l.splits.0 l.domains.0))
          (seen l.bench.counters.items) ≡ asked (calls_left l.code lines (start_of l.fn.here))
          (seen l.fn.bench.counters.items);
      kinds : kinds_of (seen l.bench.counters.items) ≡ kinds_of (seen l.fn.bench.counters.items);
      part : IsPart l.here (all l.election.profile.alternatives);
      splits_room : l.splits.1 ≡ l.fn.splits.1;
      domains_room : l.domains.1 ≡ l.fn.domains.1;
      runs : l.bench.runs ≡ l.fn.bench.runs;
    }

abbrev pub decreases-loop-instr : goal.decreases-loop-instr
decreases-loop-instr g l = steps_left l.code l.election.profile.lines (state l.place l.here l.splits.0 l.domains.0)
