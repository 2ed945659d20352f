use Rattle.vir_batch.proofs.KindLemmas.{performs_said}
use Rattle.vir_batch.proofs.profile_or_fault.profile_or_fault.Goals as goal

pub returns-clause-performs : goal.returns-clause-performs
returns-clause-performs g c = λ place bench.
    rw c.fault_as_value.ensures (performs_said _ g.S.Shelf.seen c.args.shelf.now c.profile.new.shelf bench _ place
    (c.profile.ensures.performs bench))
