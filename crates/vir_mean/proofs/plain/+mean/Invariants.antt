use Rattle.std.proofs.Common.{◌≡◌, ◌+◌, ◌≤◌}
use Rattle.std.specs.FinSet as set
use Rattle.vir_profile.specs.Profiles.{restrict}
use Rattle.vir_term.specs.Tree.{tree}
use Rattle.vir_mean.specs.Compositions.{joined, loop_of}
use Rattle.vir_mean.specs.Endings.{end_of}
use Rattle.vir_mean.specs.Meaning.{mean}
use Rattle.vir_mean.proofs.plain.+mean.Given as goal

-- what was decided so far, joined with the turns to come, is the whole; each turn left fewer
abbrev pub invariant-further_turns-loop-turn : goal.invariant-further_turns-loop-turn
invariant-further_turns-loop-turn l = record {
  whole : joined l.so_far (loop_of (end_of l.ending) (mean (tree l.body)) l.so_far.deferred
      (restrict l.so_far.deferred l.lines))
      ≡ joined l.initial.so_far (loop_of (end_of l.ending) (mean (tree l.body)) l.initial.so_far.deferred
      (restrict l.initial.so_far.deferred l.lines));
  fewer : set.len l.so_far.deferred + l._turn ≤ set.len l.initial.so_far.deferred;
}
