use Rattle.std.proofs.Common.{◌≡◌, ◌++◌, take}
use Rattle.std.specs.List.{flat_map}
use Rattle.vir_rules.specs.Reasons.{reasons_seen}
use Rattle.vir_report.specs.ClaimTexts.{reason_line}
use Rattle.vir_report.proofs.why.push_why.Given as goal

-- the lines of the first reasons are written
abbrev pub invariant-loop-i : goal.invariant-loop-i
invariant-loop-i l = l.text.items ≡ l.fn.text.items ++ flat_map reason_line (take l.i (reasons_seen l.why))
