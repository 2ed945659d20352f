use Rattle.std.proofs.Common.{get_or}
use Rattle.vir_tables.proofs.FirstPlaces.{alternatives_of}
use Rattle.vir_tables.proofs.election.Election.first_weight.Goals as goal

pub first_weight_of-requires-clause-listed : goal.first_weight_of-requires-clause-listed
first_weight_of-requires-clause-listed c k d h =
    let limits = c.entries.ensures.limits in
    rw c.entries.ensures.lines (alternatives_of _ (get_or c.profile.result.now.lines k d).order limits.few
    (limits.orders k d (rw (← c.entries.ensures.lines) h)))
