-- What a command answers, by what reading its files and its work come to.
use Rattle.std.proofs.Common.{◌≡◌, Bool, IsTrue, ℕ, List, [], Option, None, Some, Result, Ok, Err, refl, sym}
use Rattle.std.proofs.Common.{subst, inr}
use Rattle.vir_claims.specs.Claims.{refute_course, synth_course}
use Rattle.vir_course.specs.Courses.{Course, Follows, and_then}
use Rattle.vir_machine.specs.Runs.{BenchView, served_by}
use Rattle.vir_course.specs.Wordings.{Tells, Wording}
use Rattle.vir_course.specs.Works.{Works}
use Rattle.vir_course.specs.declared.answer.Answer.{Answer}
use Rattle.vir_course.specs.declared.stop.Stop.{Stop}
use Rattle.vir_course.specs.declared.stop.Stop.TheVariants as stop
use Rattle.vir_files.proofs.CallLemmas.{performs_nothing, performs_plain, performs_stop, performs_work, performs_works}
use Rattle.vir_files.specs.Contents.{Contents}
use Rattle.vir_files.specs.Performs.{Performs}
use Rattle.vir_files.specs.Readings.{RuleProfile, rule_and_profile_of, rule_profile}
use Rattle.vir_files.specs.Values.{SeesRuleProfile}
use Rattle.vir_files.specs.declared.two_files.RuleAndProfile.{RuleAndProfile}
use Rattle.vir_outside.specs.Shelf.{ShelfView}
use Rattle.vir_refute.specs.Cases.{Case}
use Rattle.vir_term.specs.declared.leaf.Leaf.{Leaf}
use Rattle.vir_term.specs.declared.leaf.LeafKind.{LeafKind}
use Rattle.vir_term.specs.declared.prop.Prop.{Prop}
use Rattle.vir_term.specs.Tree.{Tree, tree}
use Rattle.vir_top.specs.Calls.{AnswersWords}
use Rattle.vir_words.specs.Command.{Command}
use Rattle.vir_top.specs.CommandCourses.{command_course}

-- what follows from lists that are the same follows from these
pub synth_same : (size : ℕ) (props given : List Prop) (leaves handed : List Leaf) (answer : Result Answer Stop)
    → given ≡ props → handed ≡ leaves → Follows Tells ⊥ (synth_course size given handed) [] answer
    → Follows Tells ⊥ (synth_course size props leaves) [] answer
synth_same size props given leaves handed answer same other follows =
    subst (λ (ls : List Leaf). Follows Tells ⊥ (synth_course size props ls) [] answer) other
    (subst (λ (ps : List Prop). Follows Tells ⊥ (synth_course size ps handed) [] answer) same follows)

-- what follows from a case that is the same follows from this one
pub refute_same : (term : Tree) (prop : Prop) (case given : Case) (answer : Result Answer Stop) → given ≡ case
    → Follows Tells ⊥ (refute_course term prop given) [] answer
    → Follows Tells ⊥ (refute_course term prop case) [] answer
refute_same term prop case given answer same follows =
    subst (λ (k : Case). Follows Tells ⊥ (refute_course term prop k) [] answer) same follows

-- work without a run
pub works_plain : (course : Course Wording) (bench : BenchView) (answer : Result Answer Stop)
    → Follows Tells ⊥ course [] answer → Works course Tells bench bench answer
works_plain course bench answer follows = record { runs = []; follows = follows; bench = refl }

module _ {S : Type 0} (seen : S → ShelfView) (before after : S) where
  -- ---- a rule file and a profile, and work on the bench by what they say and which modules the bench serves
  module _ (course : List (List LeafKind) → RuleProfile → Course Wording) (rule profile : List ℕ) where
    abbrev reads_both : Contents → Course RuleProfile
    reads_both contents = rule_and_profile_of contents rule profile

    abbrev works_both : BenchView → RuleProfile → Course Wording
    works_both bench = course (served_by bench)

    abbrev both_course : BenchView → Contents → Course Wording
    both_course bench contents = and_then (reads_both contents) (works_both bench)

    -- one of them isn't read
    pub both_stop : (bench : BenchView) (reason : Stop)
        → Performs reads_both SeesRuleProfile seen before after bench bench (Err reason)
        → Performs (both_course bench) Tells seen before after bench bench (Err reason)
    both_stop bench reason r =
        performs_stop reads_both (works_both bench) SeesRuleProfile Tells seen before after bench reason r

    -- they are read, and worked on
    pub both_work : (old new : BenchView) (both : RuleAndProfile) (answer : Result Answer Stop)
        → Performs reads_both SeesRuleProfile seen before after old old (Ok both)
        → Works (course (served_by old) (rule_profile (tree both.rule) both.file)) Tells old new answer
        → Performs (both_course old) Tells seen before after old new answer
    both_work old new both answer r works =
        performs_work reads_both (works_both old) SeesRuleProfile Tells seen before after old both new
        answer r
        (λ said sees. subst (λ (s : RuleProfile). Works (works_both old s) Tells old new answer) (sym sees) works)

  -- ---- one file, and an answer by what it says
  module _ {A X : Type 0} (reads : Contents → Course A) (value : X → A) (course : A → Course Wording) where
    abbrev Sees : A → X → Type 0
    Sees a x = a ≡ value x

    abbrev file_course : Contents → Course Wording
    file_course contents = and_then (reads contents) course

    -- it isn't read
    pub file_stop : (bench : BenchView) (reason : Stop)
        → Performs reads Sees seen before after bench bench (Err reason)
        → Performs file_course Tells seen before after bench bench (Err reason)
    file_stop bench reason r =
        performs_stop reads course Sees Tells seen before after bench reason r

    -- it is read, and answered by
    pub file_plain : (bench : BenchView) (x : X) (answer : Result Answer Stop)
        → Performs reads Sees seen before after bench bench (Ok x)
        → Follows Tells ⊥ (course (value x)) [] answer
        → Performs file_course Tells seen before after bench bench answer
    file_plain bench x answer r follows =
        performs_plain reads course Sees Tells seen before after bench x answer r
        (λ said sees. subst (λ (a : A). Follows Tells ⊥ (course a) [] answer) (sym sees) follows)

-- ---- no file, and an answer
pub plain_answer : {S : Type 0} (seen : S → ShelfView) (shelf : S) (course : Course Wording) (bench : BenchView)
    (answer : Result Answer Stop) → Follows Tells ⊥ course [] answer
    → Performs (λ (contents : Contents). course) Tells seen shelf shelf bench bench answer
plain_answer seen shelf course bench answer follows =
    performs_works course Tells seen shelf bench bench answer (works_plain course bench answer follows)

-- ---- words whose reading wants memory
pub answers_wanting : {S : Type 0} (seen : S → ShelfView) (shelf : S) (listed : Bool) (command : Option Command)
    (bench : BenchView) → IsTrue listed → AnswersWords listed command seen shelf shelf bench bench (Err stop.Memory)
answers_wanting seen shelf listed None bench is = record { reason = inr (is, refl); bench = refl; shelf = refl }
answers_wanting seen shelf listed (Some command) bench is =
    performs_nothing (command_course (served_by bench) command) Tells seen shelf bench
