use Rattle.std.proofs.Common.{◌∙◌, sym, ap₂, nat_lt}
use Rattle.vir_profile.proofs.RestrictionLaws.{restriction_keeps_pairs}
use Rattle.vir_tables.proofs.election.ElectionTally.beats.Goals as goal

pub returns : goal.returns
returns c =
    let d = c.args.domain.now in
    let lines = c.args.self.now.profile.lines in
    let x = c.args.x in
    let y = c.args.y in
    c.beats.ensures
    ∙ ap₂ nat_lt
    (sym (restriction_keeps_pairs d lines y x c.requires.second_in c.requires.first_in))
    (sym (restriction_keeps_pairs d lines x y c.requires.first_in c.requires.second_in))
