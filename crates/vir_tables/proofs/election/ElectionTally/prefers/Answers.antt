use Rattle.std.proofs.Common.{◌∙◌, sym}
use Rattle.vir_profile.proofs.RestrictionLaws.{restriction_keeps_pairs}
use Rattle.vir_tables.proofs.election.ElectionTally.prefers.Goals as goal

pub returns : goal.returns
returns c = c.prefers.ensures ∙ sym (restriction_keeps_pairs c.args.domain.now c.args.self.now.profile.lines c.args.x
    c.args.y c.requires.first_in c.requires.second_in)
