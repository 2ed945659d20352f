use Rattle.vir_machine.proofs.Raised.{calls_told}
use Rattle.vir_machine.proofs.bench.Bench.calls_of.Goals as goal

pub returns-in-Some : goal.returns-in-Some
returns-in-Some g c =
    calls_told _ _ c.deref.result.now c.args.self.now.counters.items c.args.i c.calls.result c.in-Some.counter.now
    c.deref.ensures.value c.in-Some.ensures.lookup.0 c.in-Some.ensures.lookup.1 c.calls.ensures
