use Rattle.std.proofs.Common.{◌≡◌, take}
use Rattle.vir_mean.specs.Neutrality.{renamed_lines}
use Rattle.vir_find.specs.Exchanges.{exchanging}
use Rattle.vir_find.proofs.exchanging.exchanged_profile.Given as goal

abbrev pub invariant-loop-line : goal.invariant-loop-line
invariant-loop-line l = l.other ≡ record {
  alternatives = l.profile.alternatives;
  lines = renamed_lines (exchanging l.i) (take l.line-index l.profile.lines);
}
