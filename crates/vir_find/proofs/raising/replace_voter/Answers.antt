use Rattle.vir_find.proofs.PlacesAndLines.{replaced_votes}
use Rattle.vir_find.proofs.raising.replace_voter.Goals as goal

pub returns : goal.returns
returns c = replaced_votes c.args.profile.now c.new-other.result c.add_copies.new.profile c.add_others.new.profile
    c.add_line.new.profile c.add_copies-2.new.profile c.alternatives.result c.entries-lines.result.now c.args.i
    c.index-lines-i.result c.args.order.now c.requires c.entries-lines.ensures.lines c.alternatives.ensures.number
    c.new-other.ensures c.in_ok-add_copies.ensures c.index-lines-i.is c.in_ok-add_others.ensures
    c.in_ok-add_line.ensures
    c.in_ok-add_copies-2.ensures
