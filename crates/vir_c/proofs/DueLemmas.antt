-- With no fault of a device an answer is the one that is due, or memory was wanting.
use Rattle.std.proofs.Common.{◌≡◌, ◌⊎◌, ℕ, List, [], Option, None, Some, Result, Ok, Err, inl, inr, subst, arith, ap}
use Rattle.std.proofs.Common.{◌∙◌, Bool, IsTrue}
use Rattle.vir_bench.specs.FullBench.{full_bench, full_kinds}
use Rattle.vir_course.specs.Courses.{Follows}
use Rattle.vir_course.specs.Steps.{Step}
use Rattle.vir_course.specs.Wordings.{Tells, Wording}
use Rattle.vir_course.specs.declared.answer.Answer.{Answer}
use Rattle.vir_course.specs.declared.stop.Stop.{Stop}
use Rattle.vir_course.specs.declared.stop.Stop.TheVariants as stop
use Rattle.vir_files.specs.Contents.{AreContents, Contents}
use Rattle.vir_machine.specs.Runs.{BenchView}
use Rattle.vir_outside.specs.Faults.{Rose}
use Rattle.vir_outside.specs.Shelf.{Files, ShelfView}
use Rattle.vir_course.proofs.CourseLemmas.{follows_rose}
use Rattle.vir_files.specs.Performs.{RoseAtLast, begun}
use Rattle.vir_top.specs.Calls.{AnswersWords}
use Rattle.vir_top.specs.CommandCourses.{command_course}
use Rattle.vir_course.specs.Wordings.{Reply, denies, prints}
use Rattle.vir_top.specs.Delivery.{reply_status}
use Rattle.vir_top.specs.Headline.{ReportPrinted}
use Rattle.vir_top.specs.Printed.{FaultCounts, IsDue, Printed, told_contents}
use Rattle.vir_words.specs.Command.{Command, command_of, report}
use Rattle.vir_c.specs.Answered.{AreTexts, IsAnswered, IsDueInMemory}

pub none_rose : (before : ℕ) → Rose before 0 → ⊥
none_rose before rose = omega arith

-- a reply has status 0 or 1
of_reply : (reply : Reply) (status : ℕ) → status ≡ reply_status reply → (status ≡ 0) ⊎ (status ≡ 1)
of_reply (prints bytes) status is = inl is
of_reply (denies bytes) status is = inr is

pub due_in_memory : (end : Result Wording Stop) (status : ℕ) (before after : FaultCounts) → after.shelf ≡ 0
    → IsDue end status before after → IsDueInMemory end status
due_in_memory (Ok wording) status before after zero (inl (inl has)) = inl (of_reply has.reply status has.status_is)
due_in_memory (Ok wording) status before after zero (inl (inr is)) = inr (inr is)
due_in_memory (Ok wording) status before after zero (inr (inl (is, rose))) =
    absurd (none_rose before.shelf (subst (Rose before.shelf) zero rose))
due_in_memory (Ok wording) status before after zero (inr (inr (is, rose))) = inr (inl is)
due_in_memory (Err reason) status before after zero (inl due) = due
due_in_memory (Err reason) status before after zero (inr (is, rose)) =
    absurd (none_rose before.shelf (subst (Rose before.shelf) zero rose))

-- words that are no command, or want of memory while they are read
usage_or_memory : (listed : Bool) (given : Result Answer Stop)
    → (given ≡ Err stop.Usage) ⊎ (IsTrue listed × (given ≡ Err stop.Memory))
    → (given ≡ Err stop.Usage) ⊎ (given ≡ Err stop.Memory)
usage_or_memory listed given (inl is) = inl is
usage_or_memory listed given (inr both) = inr both.1

-- words that are no command
pub usage_due : {S : Type 0} (listed : Bool) (asked : Option Command) (seen : S → ShelfView) (old new : S)
    (before after : BenchView) (given : Result Answer Stop)
    → AnswersWords listed asked seen old new before after given → asked ≡ None
    → (given ≡ Err stop.Usage) ⊎ (given ≡ Err stop.Memory)
usage_due listed asked seen old new before after given answers none =
    let usage = subst (λ (o : Option Command). AnswersWords listed o seen old new before after given) none answers in
    usage_or_memory listed given usage.reason

-- what is answered is what the course leads to by the told files
pub follows_told : {S : Type 0} (listed : Bool) (asked : Option Command) (told : Files) (seen : S → ShelfView)
    (old new : S) (left : BenchView) (given : Result Answer Stop) → (seen old).files ≡ Some told
    → (seen new).faults ≡ 0 → AnswersWords listed asked seen old new full_bench left given
    → (command : Command) → asked ≡ Some command → (made : List Step)
    × Follows Tells ⊥ (command_course full_kinds command (told_contents told)) made given
follows_told listed asked told seen old new left given told_is zero answers command asks =
    let p = subst (λ (o : Option Command). AnswersWords listed o seen old new full_bench left given) asks answers in
    let are = subst (λ (fs : Option Files). AreContents fs p.contents) told_is p.are_contents in
    let same : p.contents ≡ told_contents told = (λ i place name. are place name i) in
    let count = begun (seen old) (seen new) in
    let never : RoseAtLast (seen old) (seen new) → ⊥ = λ rose. none_rose count (subst (Rose count) zero rose) in (
      p.made,
      subst (λ (cs : Contents). Follows Tells ⊥ (command_course full_kinds command cs) p.made given) same
          (follows_rose Tells (RoseAtLast (seen old) (seen new)) ⊥ (command_course full_kinds command p.contents) p.made
          given never p.follows),
    )

-- of a shelf and of sinks that are as they are made
pub is_answered : (words : List (List ℕ)) (asked : Option Command) (files told : Files) (status : ℕ)
    (before out err : List ℕ) → asked ≡ command_of words → told ≡ files → before ≡ []
    → ((rule profile : List ℕ) → asked ≡ Some (report rule profile) → status ≡ 0
    → ReportPrinted (Some told) rule profile (Some before) (Some out))
    → ((command : Command) → asked ≡ Some command → status ≡ 0
    → Printed (command_course full_kinds command) (Some told) (Some before) (Some out))
    → ((command : Command) → asked ≡ Some command
    → IsDueInMemory (command_course full_kinds command (told_contents told)).end status)
    → (given : Result Answer Stop)
    → ((command : Command) → asked ≡ Some command → (made : List Step)
    × Follows Tells ⊥ (command_course full_kinds command (told_contents told)) made given)
    → (asked ≡ None → (given ≡ Err stop.Usage) ⊎ (given ≡ Err stop.Memory)) → AreTexts given status out err
    → IsAnswered words files status out err
is_answered words asked files told status before out err asked_is told_is before_is reports printed due given follows
    usage texts =
    record {
      reports = λ rule profile asks is.
          subst (λ (fs : Files). ReportPrinted (Some fs) rule profile (Some []) (Some out)) told_is
          (subst (λ (old : List ℕ). ReportPrinted (Some told) rule profile (Some old) (Some out)) before_is
          (reports rule profile (asked_is ∙ asks) is));
      printed = λ command asks is.
          subst (λ (fs : Files). Printed (command_course full_kinds command) (Some fs) (Some []) (Some out)) told_is
          (subst (λ (old : List ℕ). Printed (command_course full_kinds command) (Some told) (Some old) (Some out))
          before_is (printed command (asked_is ∙ asks) is));
      due = λ command asks.
          subst (λ (fs : Files). IsDueInMemory (command_course full_kinds command (told_contents fs)).end status)
          told_is (due command (asked_is ∙ asks));
      given = given;
      follows = λ command asks.
          subst (λ (fs : Files). (made : List Step)
          × Follows Tells ⊥ (command_course full_kinds command (told_contents fs)) made given) told_is
          (follows command (asked_is ∙ asks));
      usage = λ none. usage (asked_is ∙ none);
      texts = texts;
    }
