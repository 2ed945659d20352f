use Rattle.std.proofs.Common.{◌≡◌, ◌++◌, take}
use Rattle.std.specs.List.{flat_map}
use Rattle.vir_course.specs.Reports.{name_line}
use Rattle.vir_counting.proofs.reports.push_names.Given as goal

-- the lines of the first names are written
abbrev pub invariant-loop-name : goal.invariant-loop-name
invariant-loop-name l = l.text.items ≡ l.fn.text.items ++ flat_map name_line (take l.name-index l.names)
