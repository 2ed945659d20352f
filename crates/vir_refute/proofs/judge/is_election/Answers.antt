use Rattle.vir_refute.proofs.AllMembers.{profile_election}
use Rattle.vir_refute.proofs.judge.is_election.Goals as goal

pub returns : goal.returns
returns c = profile_election c.args.profile.now c.alternatives.ensures.limits
