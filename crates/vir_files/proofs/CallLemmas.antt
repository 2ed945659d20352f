-- A call that reads files and then works on what they say.
use Rattle.std.proofs.Common.{◌≡◌, ℕ, List, [], ◌++◌, Option, None, Result, Ok, Err, refl, sym, ap, subst, ◌∙◌}
use Rattle.vir_course.specs.Courses.{Course, Follows, and_then}
use Rattle.vir_machine.specs.Runs.{BenchView, Run}
use Rattle.vir_course.specs.Steps.{Asked, Step, after_steps, last_read, steps_of_runs}
use Rattle.vir_course.specs.Works.{Works}
use Rattle.vir_course.specs.declared.stop.Stop.{Stop}
use Rattle.vir_course.specs.declared.stop.Stop.TheVariants as stop
use Rattle.vir_course.proofs.CourseLemmas.{follows_rose, follows_stop, follows_then}
use Rattle.vir_course.proofs.StepLemmas.{after_steps-append, last_read-append, last_read-steps_of_runs}
use Rattle.vir_files.specs.Contents.{Contents}
use Rattle.vir_files.specs.Performs.{AreAsked, LeftBehind, Performs, RoseAtLast, names_read}
use Rattle.vir_files.proofs.ContentLemmas.{are_by_places, by_places, some_content}
use Rattle.vir_files.proofs.PerformLemmas.{asked_then, later_same, left_behind, names_read-steps_of_runs, same_reason}
use Rattle.vir_outside.specs.Shelf.{Request, ShelfView}

-- a shelf is asked for nothing by runs
asked_by_runs : (asked : List Request) (runs : List Run) → AreAsked (names_read (steps_of_runs runs)) asked asked
asked_by_runs asked runs =
    subst (λ (names : List (List ℕ)). AreAsked names asked asked) (sym (names_read-steps_of_runs runs)) refl

module _ {S A B X Y : Type 0} (first : Contents → Course A) (next : A → Course B) (Sees : A → X → Type 0)
    (SeesNext : B → Y → Type 0) (seen : S → ShelfView) (before after : S) (old : BenchView) where
  -- both by the contents
  abbrev whole : Contents → Course B
  whole contents = and_then (first contents) next

  abbrev rose : Type 0
  rose = RoseAtLast (seen before) (seen after)

  -- the files aren't read
  pub performs_stop : (reason : Stop) → Performs first Sees seen before after old old (Err reason)
      → Performs whole SeesNext seen before after old old (Err reason)
  performs_stop reason r =
      record {
        contents = r.contents;
        are_contents = r.are_contents;
        made = r.made;
        follows = follows_stop Sees SeesNext rose (first r.contents) next r.made reason r.follows;
        bench = r.bench;
        asked = r.asked;
        left = left_behind seen before after (last_read None r.made) _ _ (λ e. same_reason reason e) r.left;
        later = r.later;
      }

  -- they are read, and worked on
  pub performs_work : (x : X) (new : BenchView) (answer : Result Y Stop)
      → Performs first Sees seen before after old old (Ok x)
      → ((a : A) → Sees a x → Works (next a) SeesNext old new answer)
      → Performs whole SeesNext seen before after old new answer
  performs_work x new answer r works =
      let w = works r.follows.value r.follows.sees in
      let runs : List Step = steps_of_runs w.runs in
      record {
        contents = r.contents;
        are_contents = r.are_contents;
        made = r.made ++ runs;
        follows = follows_then Sees SeesNext (first r.contents) next r.made x r.follows rose runs answer
            (follows_rose SeesNext ⊥ rose (next r.follows.value) runs answer (λ never. absurd never) w.follows);
        bench = w.bench ∙ ap (after_steps runs) r.bench ∙ sym (after_steps-append r.made runs old);
        asked =
            asked_then (seen before).asked (seen after).asked (seen after).asked r.made runs r.asked
            (asked_by_runs (seen after).asked w.runs);
        left =
            subst (λ (last : Option Asked). LeftBehind seen before after last (answer ≡ Err stop.ReadFault))
            (sym (last_read-append None r.made runs ∙ last_read-steps_of_runs (last_read None r.made) w.runs))
            (left_behind seen before after (last_read None r.made) _ _ (λ e. absurd cc) r.left);
        later = r.later;
      }

  -- they are read, and worked on without the bench
  pub performs_plain : (x : X) (answer : Result Y Stop) → Performs first Sees seen before after old old (Ok x)
      → ((a : A) → Sees a x → Follows SeesNext ⊥ (next a) [] answer)
      → Performs whole SeesNext seen before after old old answer
  performs_plain x answer r follows = performs_work x old answer r
      (λ a sees. record { runs = []; follows = follows a sees; bench = refl })

-- where memory is wanting before anything is done
pub performs_nothing : {S A X : Type 0} (course : Contents → Course A) (Sees : A → X → Type 0) (seen : S → ShelfView)
    (shelf : S) (bench : BenchView) → Performs course Sees seen shelf shelf bench bench (Err stop.Memory)
performs_nothing course Sees seen shelf bench =
    let files = (seen shelf).files in
    let at : ℕ → Option (List ℕ) = λ place. (some_content files []).0 in
    let contents = by_places files at in
    record {
      contents = contents;
      are_contents = are_by_places files at (λ place. ([], (some_content files []).1));
      made = [];
      follows = record { rest = (course contents).steps; steps_are = refl };
      bench = refl;
      asked = refl;
      left = refl;
      later = later_same (seen shelf);
    }

-- where no file is asked for, a bench is worked on alone
pub performs_works : {S A X : Type 0} (course : Course A) (Sees : A → X → Type 0) (seen : S → ShelfView) (shelf : S)
    (old new : BenchView) (answer : Result X Stop) → Works course Sees old new answer
    → Performs (λ (contents : Contents). course) Sees seen shelf shelf old new answer
performs_works course Sees seen shelf old new answer w =
    let files = (seen shelf).files in
    let at : ℕ → Option (List ℕ) = λ place. (some_content files []).0 in
    record {
      contents = by_places files at;
      are_contents = are_by_places files at (λ place. ([], (some_content files []).1));
      made = steps_of_runs w.runs;
      follows =
          follows_rose Sees ⊥ (RoseAtLast (seen shelf) (seen shelf)) course (steps_of_runs w.runs) answer
          (λ never. absurd never) w.follows;
      bench = w.bench;
      asked = asked_by_runs (seen shelf).asked w.runs;
      left =
          subst (λ (last : Option Asked). LeftBehind seen shelf shelf last (answer ≡ Err stop.ReadFault))
          (sym (last_read-steps_of_runs None w.runs)) refl;
      later = later_same (seen shelf);
    }
