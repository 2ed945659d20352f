-- What a call of the program does.
use Rattle.std.specs.Prelude.{◌≡◌, ◌⊎◌, Bool, IsTrue, None, Some, Result, Err}
use Rattle.std.specs.declared.option.Option.{Option}
use Rattle.vir_machine.specs.Runs.{BenchView, served_by}
use Rattle.vir_course.specs.Wordings.{Tells}
use Rattle.vir_course.specs.declared.answer.Answer.{Answer}
use Rattle.vir_course.specs.declared.stop.Stop.{Stop}
use Rattle.vir_course.specs.declared.stop.Stop.TheVariants.{Memory, Usage}
use Rattle.vir_files.specs.Performs.{Performs}
use Rattle.vir_outside.specs.Shelf.{ShelfView}
use Rattle.vir_words.specs.Command.{Command}
use Rattle.vir_top.specs.CommandCourses.{command_course}

-- Words that are no command: that is the reason to stop; or memory was wanting while they were read, where they are
-- kept in lists. Nothing is done.
pub record IsUsage {S : Type 0} (listed : Bool) (old_shelf new_shelf : S) (old new : BenchView)
    (answer : Result Answer Stop) : Type 0
  where
    pub reason : (answer ≡ Err Usage) ⊎ (IsTrue listed × (answer ≡ Err Memory))
    pub bench : new ≡ old
    pub shelf : new_shelf ≡ old_shelf

-- The answer to what words ask for, by whether they are kept in lists, the shelf and the bench: the course of the
-- command is performed.
abbrev pub AnswersWords : {S : Type 0} → Bool → Option Command → (S → ShelfView) → S → S → BenchView → BenchView
    → Result Answer Stop → Type 0
AnswersWords listed None seen old_shelf new_shelf old new answer = IsUsage listed old_shelf new_shelf old new answer
AnswersWords listed (Some command) seen old_shelf new_shelf old new answer =
    Performs (command_course (served_by old) command) Tells seen old_shelf new_shelf old new answer

-- There is an answer, and it is delivered.
pub record Calls (Answers Delivers : Result Answer Stop → Type 0) : Type 0 where
  pub answer : Result Answer Stop
  pub answers : Answers answer
  pub delivers : Delivers answer
