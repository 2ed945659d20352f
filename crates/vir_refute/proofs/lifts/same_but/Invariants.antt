use Rattle.std.proofs.Common.{◌≡◌, ◌↔◌, ◌≤◌, length, drop}
use Rattle.vir_mean.specs.Lifts.{without}
use Rattle.vir_refute.proofs.lifts.same_but.Given as goal

abbrev pub invariant-loop-y : goal.invariant-loop-y
invariant-loop-y l = record {
  within : l.place ≤ length l.before;
  rest : (without l.x l.before ≡ without l.x l.after)
      ↔ (without l.x (drop l.place l.before) ≡ without l.x (drop l.y-index l.after));
}
