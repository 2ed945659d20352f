use Rattle.std.proofs.Common.{◌≡◌, ◌++◌, take}
use Rattle.std.specs.List.{flat_map}
use Rattle.vir_course.specs.Simplified.{step_line}
use Rattle.vir_claims.proofs.simplification.push_steps.Given as goal

-- the lines of the first steps are written
abbrev pub invariant-loop-step : goal.invariant-loop-step
invariant-loop-step l = l.text.items ≡ l.fn.text.items ++ flat_map step_line (take l.step-index l.steps)
