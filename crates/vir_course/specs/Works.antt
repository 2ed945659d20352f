-- What a call does with a bench that follows a course without files.
-- (The program's promises don't stand on this file.)
use Rattle.std.specs.Prelude.{◌≡◌, List, Result}
use Rattle.vir_course.specs.Courses.{Course, Follows}
use Rattle.vir_machine.specs.Runs.{BenchView, Run}
use Rattle.vir_course.specs.Steps.{after_steps, steps_of_runs}
use Rattle.vir_course.specs.declared.stop.Stop.{Stop}

-- Runs of the course are made on the bench, and lead to the answer. No file is read, so none can't be.
pub record Works {A X : Type 0} (course : Course A) (Sees : A → X → Type 0) (old new : BenchView)
    (answer : Result X Stop) : Type 0 where
  pub runs : List Run
  pub follows : Follows Sees ⊥ course (steps_of_runs runs) answer
  pub bench : new ≡ after_steps (steps_of_runs runs) old
