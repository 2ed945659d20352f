use Rattle.std.proofs.Common.{arith}
use Rattle.vir_term.specs.Kinds.{kind_of}
use Rattle.vir_machine.proofs.Raised.{asked-within, asked-serves, asked-once}
use Rattle.vir_machine.proofs.bench.Bench.ask.Goals as goal

pub index_mut-requires : goal.index_mut-requires
index_mut-requires g c =
    let within = asked-within _ _ c.args.self.now.counters.items (kind_of c.args.leaf.now) _ c.place-i.ensures
    c.requires.served in
    let size = c.args.self.now.counters.ok.0 in
    omega arith

pub split-requires-clause-served : goal.split-requires-clause-served
split-requires-clause-served g c =
    asked-serves _ _ c.args.self.now.counters.items (kind_of c.args.leaf.now) _ _ c.place-i.ensures c.requires.served
    c.index_mut.ensures.value

pub returns-clause-counted : goal.returns-clause-counted
returns-clause-counted g c =
    asked-once _ _ c.args.self.now.counters.items (kind_of c.args.leaf.now) _ _ _ c.place-i.ensures c.requires.served
    c.index_mut.ensures.value c.split.ensures.kept c.split.ensures.counted
