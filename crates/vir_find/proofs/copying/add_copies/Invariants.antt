use Rattle.std.proofs.Common.{◌≡◌, ◌++◌, take}
use Rattle.vir_find.proofs.copying.add_copies.Given as goal

abbrev pub invariant-loop-line : goal.invariant-loop-line
invariant-loop-line l = l.profile ≡ record l.initial.profile {
  lines = l.initial.profile.lines ++ take l.line-index
      l.lines;
}
