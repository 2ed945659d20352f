use Rattle.vir_soc.proofs.UsualLemmas.{BeginsWithLine-taken, BeginsWithVotes-feed}
use Rattle.vir_soc.proofs.votes.take_ended.Goals as goal

pub returns-clause-taken : goal.returns-clause-taken
returns-clause-taken c = rw c.in-Ok.ensures.appended (BeginsWithLine-taken c.args.profile.now
    c.in_ok-line.line c.args.bytes.now c.in_ok-line.end.now c.in_ok-rest.rest.now
    (rw c.alternatives.ensures.number at c.in_ok-line.ensures) c.in_ok-rest.ensures c.in-Ok.ensures.accepted)

pub behind_end-requires : goal.behind_end-requires
behind_end-requires c = BeginsWithVotes-feed _ _ _ _ _ c.in_ok-line.ensures c.requires
