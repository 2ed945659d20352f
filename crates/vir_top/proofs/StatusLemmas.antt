-- What follows of an answer that is delivered, by its status.
use Rattle.std.proofs.Common.{◌⊎◌, Bool, IsTrue, None}
use Rattle.std.proofs.Common.{◌≡◌, ℕ, List, Option, Some, Result, Ok, Err, refl, sym, ap, subst, ◌∙◌}
use Rattle.std.proofs.Common.{inl, inr, arith}
use Rattle.std.specs.Io.KnownBytes.{Appends}
use Rattle.vir_course.specs.Courses.{Course, Follows}
use Rattle.vir_machine.specs.Runs.{BenchView, served_by}
use Rattle.vir_course.specs.Steps.{Step}
use Rattle.vir_course.specs.Wordings.{IsWorded, Reply, Tells, Wording, prints, reply_of}
use Rattle.vir_course.specs.declared.answer.Answer.{Answer}
use Rattle.vir_course.specs.declared.answer.Answer.TheVariants as answer
use Rattle.vir_course.specs.declared.stop.Stop.{Stop}
use Rattle.vir_course.specs.declared.stop.Stop.TheVariants as stop
use Rattle.vir_files.specs.Contents.{AreContents, Contents}
use Rattle.vir_files.specs.Performs.{Performs, RoseAtLast}
use Rattle.vir_outside.specs.Sink.{SinkView}
use Rattle.vir_outside.specs.Shelf.{Files, ShelfView}
use Rattle.vir_top.specs.Calls.{AnswersWords, Calls, IsUsage}
use Rattle.vir_words.specs.Command.{Command}
use Rattle.vir_top.specs.CommandCourses.{command_course}
use Rattle.vir_top.specs.Delivery.{Delivers, stop_status}
use Rattle.vir_top.specs.Printed.{FaultCounts, IsDue, IsUsageDue, Printed, faults_before, faults_of}
use Rattle.vir_top.specs.Printed.{told_contents}

-- no reason to stop has status 0
never_printed : (reason : Stop) → stop_status reason ≡ 0 → ⊥
never_printed stop.Usage e = omega arith
never_printed stop.ReadFault e = omega arith
never_printed (stop.TextRefused fault) e = omega arith
never_printed (stop.ProfileRefused fault) e = omega arith
never_printed stop.WriteFault e = omega arith
never_printed stop.Memory e = omega arith
never_printed (stop.NoCounter text) e = omega arith

-- the text of status 0
record IsText (given : Result Answer Stop) (old new : Option (List ℕ)) : Type 0 where
  of : Answer
  is_answer : given ≡ Ok of
  bytes : List ℕ
  is_text : reply_of of ≡ prints bytes
  appended : Appends old new bytes

module _ {O E : Type 0} (status : ℕ) (out : O → SinkView) (old new : O) (err : E → SinkView) (err_old err_new : E)
  where
    abbrev DeliversIt : Result Answer Stop → Type 0
    DeliversIt given = Delivers given status out old new err err_old err_new

    printed_text : (given : Result Answer Stop) → DeliversIt given → status ≡ 0
        → IsText given (out old).written (out new).written
    printed_text (Ok (answer.Text text)) (inl w) is =
        record { of = answer.Text text; is_answer = refl; bytes = text.items; is_text = refl; appended = w.whole }
    printed_text (Ok (answer.Denial text)) (inl w) is =
        let e : status ≡ 1 = w.status_is in absurd (omega arith)
    printed_text (Ok given) (inr b) is = let e : status ≡ 6 = b.status_is in absurd (omega arith)
    printed_text (Err reason) told is = absurd (never_printed reason (sym told.status_is ∙ is))

module _ {S O E : Type 0} (course : Contents → Course Wording) (seen : S → ShelfView) (shelf left : S)
    (before after : BenchView) (status : ℕ) (out : O → SinkView) (old new : O) (err : E → SinkView)
    (err_old err_new : E) where
  abbrev DeliversAll : Result Answer Stop → Type 0
  DeliversAll given = Delivers given status out old new err err_old err_new

  abbrev read_rose : Type 0
  read_rose = RoseAtLast (seen shelf) (seen left)

  abbrev PerformsIt : Result Answer Stop → Type 0
  PerformsIt given = Performs course Tells seen shelf left before after given

  pub printed_of : (given : Result Answer Stop) → PerformsIt given → DeliversAll given → status ≡ 0
      → Printed course (seen shelf).files (out old).written (out new).written
  printed_of given p d is =
      let t = printed_text status out old new err err_old err_new given d is in
      let r = subst (λ (a : Result Answer Stop). Follows Tells read_rose (course p.contents) p.made a) t.is_answer
      p.follows in
      record {
        contents = p.contents;
        are_contents = p.are_contents;
        wording = r.value;
        end_is = r.end_is;
        bytes = t.bytes;
        worded = subst (λ (reply : Reply). IsWorded r.value reply) t.is_text r.sees;
        appended = t.appended;
      }

  -- ---- what is due
  abbrev before_it : FaultCounts
  before_it = faults_before (seen shelf) (seen left) (out old)

  abbrev after_it : FaultCounts
  after_it = faults_of (seen left) (out new)

  due_told : (given : Answer) (wording : Wording) → IsWorded wording (reply_of given) → DeliversAll (Ok given)
      → IsDue (Ok wording) status before_it after_it
  due_told given wording is (inl w) =
      inl (inl (record { reply = reply_of given; worded = is; status_is = w.status_is }))
  due_told given wording is (inr b) = inr (inr (b.status_is, b.failed))

  -- of an end that steps lead to
  due_stop : (end : Result Wording Stop) (reason : Stop) → end ≡ Err reason → DeliversAll (Err reason)
      → IsDue end status before_it after_it
  due_stop (Ok wording) reason e d = absurd cc
  due_stop (Err other) reason e d = let same : reason ≡ other = cc in inl (inl (d.status_is ∙ ap stop_status same))

  due_memory : (end : Result Wording Stop) → status ≡ 7 → IsDue end status before_it after_it
  due_memory (Ok wording) is = inl (inr is)
  due_memory (Err reason) is = inl (inr is)

  due_rose : (end : Result Wording Stop) → status ≡ 5 → read_rose → IsDue end status before_it after_it
  due_rose (Ok wording) is rose = inr (inl (is, rose))
  due_rose (Err reason) is rose = inr (is, rose)

  due_ok : (end : Result Wording Stop) (wording : Wording) (given : Answer) → end ≡ Ok wording
      → IsWorded wording (reply_of given) → DeliversAll (Ok given) → IsDue end status before_it after_it
  due_ok end wording given e is d =
      subst (λ (r : Result Wording Stop). IsDue r status before_it after_it) (sym e) (due_told given wording is d)

  due : (c : Course Wording) (made : List Step) (given : Result Answer Stop) → Follows Tells read_rose c made given
      → DeliversAll given → IsDue c.end status before_it after_it
  due c made (Ok given) f d = due_ok c.end f.value given f.end_is f.sees d
  due c made (Err stop.Usage) f d = absurd f
  due c made (Err stop.ReadFault) (inl (rose, begins)) d = due_rose c.end d.status_is rose
  due c made (Err stop.ReadFault) (inr s) d = due_stop c.end stop.ReadFault s.end_is d
  due c made (Err (stop.TextRefused fault)) f d = due_stop c.end (stop.TextRefused fault) f.end_is d
  due c made (Err (stop.ProfileRefused fault)) f d = due_stop c.end (stop.ProfileRefused fault) f.end_is d
  due c made (Err stop.WriteFault) f d = absurd f
  due c made (Err stop.Memory) f d = due_memory c.end d.status_is
  due c made (Err (stop.NoCounter text)) f d = due_stop c.end (stop.NoCounter text) f.end_is d

  -- the contents of told files are theirs
  same_contents : (all : Files) (contents : Contents) → (seen shelf).files ≡ Some all
      → AreContents (seen shelf).files contents → contents
      ≡ told_contents all
  same_contents all contents is are = let told = subst (λ (fs : Option Files). AreContents fs contents) is are
      in (λ i place name. told place name i)

  pub due_of_told : (all : Files) (given : Result Answer Stop) → (seen shelf).files ≡ Some all → PerformsIt given
      → DeliversAll given
      → IsDue (course (told_contents all)).end status before_it after_it
  due_of_told all given is p d =
      let here : IsDue (course p.contents).end status before_it after_it = due (course p.contents) p.made given
      p.follows d in
      subst (λ (contents : Contents). IsDue (course contents).end status before_it after_it)
      (same_contents all p.contents is p.are_contents) here

-- ---- of a call
module _ {S O E : Type 0} (listed : Bool) (words : Option Command) (seen : S → ShelfView) (shelf left : S)
    (before after : BenchView) (status : ℕ) (out : O → SinkView) (old new : O) (err : E → SinkView)
    (err_old err_new : E) (calls : Calls (AnswersWords listed words seen shelf left before after)
    (λ given. Delivers given status out old new err err_old err_new)) where
  -- words that are no command
  pub call_usage : words ≡ None → IsUsageDue listed status
  call_usage asks = by calls.answer calls.delivers u.reason
    where
      u : IsUsage listed shelf left before after calls.answer
      u = subst (λ (o : Option Command). AnswersWords listed o seen shelf left before after calls.answer) asks
          calls.answers

      by : (given : Result Answer Stop) → Delivers given status out old new err err_old err_new
          → (given ≡ Err stop.Usage) ⊎ (IsTrue listed × (given ≡ Err stop.Memory)) → IsUsageDue listed status
      by given d (inl is) =
          let told : Delivers (Err stop.Usage) status out old new err err_old err_new = rw is at d in
          inl told.status_is
      by given d (inr (kept, is)) =
          let told : Delivers (Err stop.Memory) status out old new err err_old err_new = rw is at d in
          inr (kept, told.status_is)

  module _ (command : Command) (asks : words ≡ Some command) where
    performs : Performs (command_course (served_by before) command) Tells seen shelf left before after calls.answer
    performs =
        subst (λ (o : Option Command). AnswersWords listed o seen shelf left before after calls.answer) asks
        calls.answers

    pub call_printed : status ≡ 0 → Printed (command_course (served_by before) command) (seen shelf).files
        (out old).written (out new).written
    call_printed is =
        printed_of (command_course (served_by before) command) seen shelf left before after status out old new err
        err_old err_new calls.answer performs calls.delivers is

    pub call_due : (all : Files) → (seen shelf).files ≡ Some all
        → IsDue (command_course (served_by before) command (told_contents all)).end status
        (faults_before (seen shelf) (seen left) (out old)) (faults_of (seen left) (out new))
    call_due all is =
        due_of_told (command_course (served_by before) command) seen shelf left before after status out old new err
        err_old err_new all calls.answer is performs calls.delivers
