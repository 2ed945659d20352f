-- Steps behind steps.
use Rattle.std.proofs.Common.{◌≡◌, List, [], ◌∷◌, ◌++◌, Option, Some, refl}
use Rattle.vir_machine.specs.Runs.{BenchView, Run, after_run}
use Rattle.vir_course.specs.Steps.{Asked, Step, after_steps, last_read, makes, steps_of_runs, reads}

pub after_steps-append : (first next : List Step) (bench : BenchView) → after_steps (first ++ next) bench
    ≡ after_steps next (after_steps first bench)
after_steps-append [] next bench = refl
after_steps-append (reads file ∷ rest) next bench = after_steps-append rest next bench
after_steps-append (makes run ∷ rest) next bench = after_steps-append rest next (after_run run bench)

pub last_read-append : (before : Option Asked) (first next : List Step) → last_read before (first ++ next)
    ≡ last_read (last_read before first) next
last_read-append before [] next = refl
last_read-append before (reads file ∷ rest) next = last_read-append (Some file) rest next
last_read-append before (makes run ∷ rest) next = last_read-append before rest next

-- runs read no file
pub last_read-steps_of_runs : (before : Option Asked) (runs : List Run) → last_read before (steps_of_runs runs) ≡ before
last_read-steps_of_runs before [] = refl
last_read-steps_of_runs before (run ∷ rest) = last_read-steps_of_runs before rest
