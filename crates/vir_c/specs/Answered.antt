-- What a call answers of words and files that are handed in whole: no device stands between.
use Rattle.std.specs.Prelude.{◌≡◌, ◌⊎◌, ℕ, ◌<◌, List, [], ◌++◌, length, None, Some, Result, Ok, Err, All}
use Rattle.std.specs.Str.{IsUtf8}
use Rattle.vir_bench.specs.FullBench.{full_kinds}
use Rattle.vir_course.specs.Courses.{Follows}
use Rattle.vir_course.specs.Steps.{Step}
use Rattle.vir_course.specs.Wordings.{Reply, Tells, Wording, reply_of}
use Rattle.vir_course.specs.declared.answer.Answer.{Answer}
use Rattle.vir_course.specs.declared.stop.Stop.{Stop}
use Rattle.vir_course.specs.declared.stop.Stop.TheVariants as stop
use Rattle.vir_outside.specs.Shelf.{Files}
use Rattle.vir_top.specs.CommandCourses.{command_course}
use Rattle.vir_top.specs.Delivery.{reply_bytes, reply_status, stop_line, stop_status}
use Rattle.vir_top.specs.Headline.{ReportPrinted}
use Rattle.vir_top.specs.Printed.{Printed, told_contents}
use Rattle.vir_words.specs.Command.{Command, command_of, report}
use Rattle.vir_c.specs.Buffers.{IsTold}

-- The words and the names are text.
pub record AreText (words : List (List ℕ)) (files : Files) : Type 0 where
  pub words_are : All IsUtf8 words
  pub names_are : All (λ (file : List ℕ × List ℕ). IsUtf8 file.0) files

-- The status that the end of a course asks for comes, or memory was wanting: 6 while the text was written, 7 before.
abbrev pub IsDueInMemory : Result Wording Stop → ℕ → Type 0
IsDueInMemory (Ok wording) status = ((status ≡ 0) ⊎ (status ≡ 1)) ⊎ ((status ≡ 6) ⊎ (status ≡ 7))
IsDueInMemory (Err reason) status = (status ≡ stop_status reason) ⊎ (status ≡ 7)

-- The text begins so, and it has more.
abbrev pub IsFront : List ℕ → List ℕ → Type 0
IsFront front text = (rest : List ℕ) × (text ≡ front ++ rest) × (0 < length rest)

-- The reply is the one text, and there is no line.
pub record IsWhole (reply : Reply) (status : ℕ) (out err : List ℕ) : Type 0 where
  pub status_is : status ≡ reply_status reply
  pub out_is : out ≡ reply_bytes reply
  pub err_is : err ≡ []

-- Memory was wanting while the reply was written: its front is the one text, and the line that says so the other, or a
-- front of that.
pub record IsCutOff (reply : Reply) (status : ℕ) (out err : List ℕ) : Type 0 where
  pub status_is : status ≡ 6
  pub out_is : IsFront out (reply_bytes reply)
  pub err_is : (err ≡ stop_line stop.WriteFault) ⊎ IsFront err (stop_line stop.WriteFault)

-- There is no reply, and the line says why.
pub record IsRefused (reason : Stop) (status : ℕ) (out err : List ℕ) : Type 0 where
  pub status_is : status ≡ stop_status reason
  pub out_is : out ≡ []
  pub err_is : err ≡ stop_line reason

-- The status and the two texts that an answer has, or a reason why there is none.
abbrev pub AreTexts : Result Answer Stop → ℕ → List ℕ → List ℕ → Type 0
AreTexts (Ok answer) status out err =
    IsWhole (reply_of answer) status out err ⊎ IsCutOff (reply_of answer) status out err
AreTexts (Err reason) status out err = IsRefused reason status out err

-- What the two texts and the status are, of words and files.
pub record IsAnswered (words : List (List ℕ)) (files : Files) (status : ℕ) (out err : List ℕ) : Type 0 where
  -- the headline
  pub reports : (rule profile : List ℕ) → command_of words ≡ Some (report rule profile) → status ≡ 0
      → ReportPrinted (Some files) rule profile (Some []) (Some out)
  -- what each command prints with status 0
  pub printed : (command : Command) → command_of words ≡ Some command → status ≡ 0
      → Printed (command_course full_kinds command) (Some files) (Some []) (Some out)
  -- the status, with no fault of a device
  pub due : (command : Command) → command_of words ≡ Some command
      → IsDueInMemory (command_course full_kinds command (told_contents files)).end status
  -- There is one answer, or one reason why there is none,
  pub given : Result Answer Stop
  -- that is what the course of the command leads to by these files, where no reading ever fails,
  pub follows : (command : Command) → command_of words ≡ Some command → (made : List Step)
      × Follows Tells ⊥ (command_course full_kinds command (told_contents files)) made given
  -- of words that are no command that they are none, or memory was wanting while they were read,
  pub usage : command_of words ≡ None → (given ≡ Err stop.Usage) ⊎ (given ≡ Err stop.Memory)
  -- and the status and the two texts are those of that answer.
  pub texts : AreTexts given status out err

-- What a caller in C sees: the words and the files are read and answered, and the two texts are told; or a word or a
-- name is no text, or memory is wanting before there is a text, and both texts are empty.
pub record IsCalled (words : List (List ℕ)) (files : Files) (status : ℕ) (out_old out_new err_old err_new : List ℕ)
    (out_size err_size : ℕ) : Type 0 where
  pub out : List ℕ
  pub err : List ℕ
  pub out_told : IsTold out_old out_new out_size out
  pub err_told : IsTold err_old err_new err_size err
  pub outcome : IsAnswered words files status out err
      ⊎ ((out ≡ []) × (err ≡ []) × ((status ≡ 7) ⊎ ((status ≡ 2) × (AreText words files → ⊥))))
