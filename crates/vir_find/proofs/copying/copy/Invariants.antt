use Rattle.std.proofs.Common.{◌≡◌, take}
use Rattle.vir_find.proofs.copying.copy.Given as goal

abbrev pub invariant-loop-line : goal.invariant-loop-line
invariant-loop-line l = l.copy ≡ record {
  alternatives = l.profile.alternatives;
  lines = take l.line-index
      l.profile.lines;
}
