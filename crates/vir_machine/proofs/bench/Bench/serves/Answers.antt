use Rattle.std.proofs.Common.{◌∙◌}
use Rattle.vir_term.specs.Kinds.{kind_of}
use Rattle.vir_machine.proofs.Raised.{place_tells}
use Rattle.vir_machine.proofs.bench.Bench.serves.Goals as goal

pub returns : goal.returns
returns g c = place_tells _ _ c.args.self.now.counters.items (kind_of c.args.leaf.now) _ _ c.place.ensures
    (c.len.ensures ∙ c.args.self.now.counters.ok.0)
