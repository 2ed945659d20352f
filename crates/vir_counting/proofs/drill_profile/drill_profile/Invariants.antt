use Rattle.std.proofs.Common.{◌≡◌, ◌-◌, ◌++◌, length}
use Rattle.vir_profile.specs.Profiles.{total_weight}
use Rattle.vir_counting.specs.Drill.{lines_from}
use Rattle.vir_counting.proofs.drill_profile.drill_profile.Given as goal

abbrev pub invariant-loop : goal.invariant-loop
invariant-loop l = record {
  alternatives : l.profile.alternatives ≡ l.alternatives;
  lines : l.profile.lines ++ lines_from l.alternatives l.draws.state (l.lines - l.counter) ≡ lines_from l.alternatives
      l.seed l.lines;
  many : length l.profile.lines ≡ l.counter;
  total : total_weight l.profile.lines ≡ l.counter;
}
