-- How an answer, or the reason why there is none, is told to two sinks, and the status.
use Rattle.std.specs.Prelude.{◌≡◌, ◌⊎◌, ◌≤◌, ℕ, List, ◌++◌, codes, decimal, Result, Ok, Err}
use Rattle.std.specs.Io.KnownBytes.{Appends}
use Rattle.vir_course.specs.Wordings.{Reply, reply_of, prints, denies}
use Rattle.vir_course.specs.declared.answer.Answer.{Answer}
use Rattle.vir_course.specs.declared.stop.Stop.{Stop}
use Rattle.vir_course.specs.declared.stop.Stop.TheVariants as stop
use Rattle.vir_outside.specs.Faults.{Rose}
use Rattle.vir_outside.specs.Sink.{AppendsPrefix, HandsSome, SinkView}
use Rattle.vir_read.specs.Kinds as text_kinds
use Rattle.vir_soc.specs.Kinds as profile_kinds

-- the status of a reason to stop
abbrev pub stop_status : Stop → ℕ
stop_status stop.Usage = 2
stop_status stop.ReadFault = 5
stop_status (stop.TextRefused fault) = 3
stop_status (stop.ProfileRefused fault) = 4
stop_status stop.WriteFault = 6
stop_status stop.Memory = 7
stop_status (stop.NoCounter text) = 8

-- a line that names a fault and its place
abbrev pub placed_line : List ℕ → List ℕ → List ℕ → ℕ → List ℕ
placed_line what kind unit place = what ++ kind ++ unit ++ decimal place ++ codes "\n"

-- the line of a reason to stop
abbrev pub stop_line : Stop → List ℕ
stop_line stop.Usage = codes "usage fault\n"
stop_line stop.ReadFault = codes "read fault\n"
stop_line (stop.TextRefused fault) = placed_line (codes "text refused: ") (text_kinds.kind_name fault.kind)
    (codes " at byte ") fault.at
stop_line (stop.ProfileRefused fault) = placed_line (codes "profile refused: ") (profile_kinds.kind_name fault.kind)
    (codes " at line ") fault.line
stop_line stop.WriteFault = codes "write fault\n"
stop_line stop.Memory = codes "out of memory\n"
stop_line (stop.NoCounter text) = codes "no counter for " ++ text ++ codes "\n"

-- the bytes of a reply
abbrev pub reply_bytes : Reply → List ℕ
reply_bytes (prints bytes) = bytes
reply_bytes (denies bytes) = bytes

-- the status of a reply that is written whole
abbrev pub reply_status : Reply → ℕ
reply_status (prints bytes) = 0
reply_status (denies bytes) = 1

-- The line of a reason to stop is appended whole, or the count rose and a prefix of it is. The count never falls, and
-- no write is handed an empty piece.
pub record AppendsLine (old new : SinkView) (reason : Stop) : Type 0 where
  pub later : old.faults ≤ new.faults
  pub handed : HandsSome old.asked new.asked
  pub appended : Appends old.written new.written (stop_line reason)
      ⊎ (Rose old.faults new.faults × AppendsPrefix old.written new.written (stop_line reason))

-- The reply is written whole, and nothing is told to the other sink. An empty reply makes no write.
pub record Written (reply : Reply) (status : ℕ) (old new : SinkView) (untold : Type 0) : Type 0 where
  pub status_is : status ≡ reply_status reply
  pub later : old.faults ≤ new.faults
  pub handed : HandsSome old.asked new.asked
  pub whole : Appends old.written new.written (reply_bytes reply)
  pub no_line : untold

-- A write failed: a prefix of the reply is written, and the fault is told.
pub record Broken (reply : Reply) (status : ℕ) (old new err_old err_new : SinkView) : Type 0 where
  pub status_is : status ≡ 6
  pub later : old.faults ≤ new.faults
  pub handed : HandsSome old.asked new.asked
  pub failed : Rose old.faults new.faults
  pub prefix : AppendsPrefix old.written new.written (reply_bytes reply)
  pub line : AppendsLine err_old err_new stop.WriteFault

-- Nothing is written, and the reason is told.
pub record Told (reason : Stop) (status : ℕ) (unwritten : Type 0) (err_old err_new : SinkView) : Type 0 where
  pub status_is : status ≡ stop_status reason
  pub nothing : unwritten
  pub line : AppendsLine err_old err_new reason

-- An answer, or the reason why there is none, is delivered to two sinks with this status.
abbrev pub Delivers : {O E : Type 0} → Result Answer Stop → ℕ → (O → SinkView) → O → O → (E → SinkView) → E → E
    → Type 0
Delivers (Ok answer) status out old new err err_old err_new =
    Written (reply_of answer) status (out old) (out new) (err_new ≡ err_old)
    ⊎ Broken (reply_of answer) status (out old) (out new) (err err_old) (err err_new)
Delivers (Err reason) status out old new err err_old err_new =
    Told reason status (new ≡ old) (err err_old) (err err_new)
