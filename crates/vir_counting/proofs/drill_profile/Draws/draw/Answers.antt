use Rattle.std.proofs.Common.{refl, ◌*◌}
use Rattle.std.proofs.Math.Nat.{mod-add-mod}
use Rattle.vir_counting.specs.Drill.{next_state, draw_of}
use Rattle.vir_counting.proofs.drill_profile.Draws.draw.Goals as goal

pub returns-clause-state : goal.returns-clause-state
unfolding next_state
returns-clause-state c = mod-add-mod (6364136223846793005 * c.args.self.now.state) 18446744073709551616
    1442695040888963407

pub returns-clause-drawn : goal.returns-clause-drawn
unfolding draw_of
returns-clause-drawn c = refl
