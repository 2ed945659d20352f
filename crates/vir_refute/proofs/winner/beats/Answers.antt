use Rattle.std.proofs.Common.{ap, ◌∙◌}
use Rattle.std.specs.FinSet as set
use Rattle.vir_altset.specs.Sets.{Set, all}
use Rattle.vir_refute.proofs.AllMembers.{member_of_all}
use Rattle.vir_refute.proofs.winner.beats.Goals as goal

pub beats-requires-clause-first_in : goal.beats-requires-clause-first_in
beats-requires-clause-first_in c =
    ap (λ (a : Set). set.contains a c.args.x) (c.all-all.ensures ∙ ap all c.alternatives.ensures.number)
    ∙ member_of_all c.args.profile.now.alternatives c.args.x c.requires.first.0 c.requires.first.1

pub beats-requires-clause-second_in : goal.beats-requires-clause-second_in
beats-requires-clause-second_in c =
    ap (λ (a : Set). set.contains a c.args.y) (c.all-all.ensures ∙ ap all c.alternatives.ensures.number)
    ∙ member_of_all c.args.profile.now.alternatives c.args.y c.requires.second.0 c.requires.second.1
