-- What a report that is printed says.
use Rattle.std.proofs.Common.{◌≡◌, ℕ, List, Option, None, Some, Result, Ok, Err, refl, ap, subst, ◌∙◌}
use Rattle.std.proofs.Common.{Bool}
use Rattle.vir_course.specs.Courses.{Course, and_then, gives, go_on}
use Rattle.vir_machine.specs.Runs.{BenchView, Run, served_by}
use Rattle.vir_course.specs.Wordings.{IsWorded, Wording, prints, report_of}
use Rattle.vir_course.specs.declared.stop.Stop.{Stop}
use Rattle.vir_files.specs.Readings.{RuleProfile, profile_at, rule_and_profile_of, rule_at, rule_profile}
use Rattle.vir_machine.specs.Uses.{first_unserved}
use Rattle.vir_outside.specs.Shelf.{Files, ShelfView}
use Rattle.vir_outside.specs.Sink.{SinkView}
use Rattle.vir_term.specs.declared.leaf.Leaf.{Leaf}
use Rattle.vir_term.specs.declared.leaf.LeafKind.{LeafKind}
use Rattle.vir_top.proofs.StatusLemmas.{call_printed}
use Rattle.vir_top.specs.Calls.{AnswersWords, Calls}
use Rattle.vir_words.specs.Command.{Command, report}
use Rattle.vir_words.specs.declared.command.RuleProfileWork.TheVariants.{Report}
use Rattle.vir_top.specs.CommandCourses.{command_course, rule_profile_course}
use Rattle.vir_top.specs.Delivery.{Delivers}
use Rattle.vir_top.specs.Headline.{ReportPrinted}
use Rattle.vir_top.specs.Printed.{Printed}
use Rattle.vir_counting.specs.Counting.{counting_course}

-- a course that leads to a value does so by the first one's value
and_then_ok : {A B : Type 0} (first : Course A) (next : A → Course B) (b : B) → (and_then first next).end ≡ Ok b
    → (a : A) × (first.end ≡ Ok a) × ((next a).end ≡ Ok b)
and_then_ok {A} {B} first next b is = by first.end refl is
  where
    by : (e : Result A Stop) → first.end ≡ e → (go_on first.steps e next).end ≡ Ok b → (a : A) × (first.end ≡ Ok a)
        × ((next a).end ≡ Ok b)
    by (Ok a) same goes = (a, same, goes)
    by (Err reason) same goes = absurd cc

ok_same : (a b : RuleProfile) → (gives a).end ≡ Ok b → b ≡ a
ok_same a b e = cc

counting_ok : (unserved : Option Leaf) (runs : List Run) (wording other : Wording)
    → (counting_course unserved runs wording).end ≡ Ok other → other ≡ wording
counting_ok None runs wording other is = cc
counting_ok (Some leaf) runs wording other is = absurd cc

pub report_printed : (kinds : List (List LeafKind)) (files : Option Files) (rule profile : List ℕ)
    (old new : Option (List ℕ)) → Printed (command_course kinds (report rule profile)) files old new
    → ReportPrinted files rule profile old new
report_printed kinds files rule profile old new p =
    let contents = p.contents in
    let both = and_then_ok (rule_and_profile_of contents rule profile) (rule_profile_course kinds Report) p.wording
    p.end_is in
    let term = and_then_ok (rule_at contents 0 rule) (λ t. and_then (profile_at contents 1 profile)
    (λ f. gives (rule_profile t f))) both.0 both.1 in
    let file = and_then_ok (profile_at contents 1 profile) (λ f. gives (rule_profile term.0 f)) both.0 term.2 in
    let said : both.0 ≡ rule_profile term.0 file.0 = ok_same (rule_profile term.0 file.0) both.0 file.2 in
    let is : p.wording ≡ report_of both.0.term both.0.file = counting_ok (first_unserved kinds both.0.term) _ _
    p.wording both.2 in
    let wording : p.wording ≡ report_of term.0 file.0 = is ∙ ap (λ (r : RuleProfile). report_of r.term r.file) said in
    record {
      contents = contents;
      are_contents = p.are_contents;
      term = term.0;
      is_rule = term.1;
      file = file.0;
      is_profile = file.1;
      bytes = p.bytes;
      reported = subst (λ (w : Wording). IsWorded w (prints p.bytes)) wording p.worded;
      appended = p.appended;
    }

-- ---- of a call
pub call_reports : {S O E : Type 0} (listed : Bool) (words : Option Command) (seen : S → ShelfView) (shelf left : S)
    (before after : BenchView) (status : ℕ) (out : O → SinkView) (old new : O) (err : E → SinkView)
    (err_old err_new : E)
    → Calls (AnswersWords listed words seen shelf left before after)
    (λ given. Delivers given status out old new err err_old err_new)
    → (rule profile : List ℕ) → words ≡ Some (report rule profile) → status ≡ 0
    → ReportPrinted (seen shelf).files rule profile (out old).written (out new).written
call_reports listed words seen shelf left before after status out old new err err_old err_new calls rule profile asks
    is =
    report_printed (served_by before) (seen shelf).files rule profile (out old).written (out new).written
    (call_printed listed words seen shelf left before after status out old new err err_old err_new calls
    (report rule profile) asks is)
