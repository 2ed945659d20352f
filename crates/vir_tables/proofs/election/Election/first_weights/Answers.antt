use Rattle.std.proofs.Common.{get_or}
use Rattle.vir_tables.proofs.FirstPlaces.{alternatives_of}
use Rattle.vir_tables.proofs.election.Election.first_weights.Goals as goal

pub first_weights_of-requires-clause-listed : goal.first_weights_of-requires-clause-listed
first_weights_of-requires-clause-listed c k d h =
    let limits = c.entries.ensures.limits in
    rw c.entries.ensures.lines (alternatives_of _ (get_or c.profile.result.now.lines k d).order limits.few
    (limits.orders k d (rw (← c.entries.ensures.lines) h)))
