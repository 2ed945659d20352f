-- What works follows.
use Rattle.std.proofs.Common.{◌≡◌, ◌⊎◌, ℕ, List, [], ◌∷◌, ◌++◌, Option, None, Some, Result, Ok, Err, map, refl, sym, ap}
use Rattle.std.proofs.Common.{◌∙◌, inl, inr}
use Rattle.std.proofs.lemmas.List.{map-append}
use Rattle.vir_altset.specs.Sets.{all}
use Rattle.vir_altset.specs.declared.split.Split.{Split}
use Rattle.vir_course.specs.Courses.{Course, Follows, Reaches}
use Rattle.vir_course.specs.Reports.{count_text}
use Rattle.vir_machine.specs.Runs.{BenchView, Run, after_run}
use Rattle.vir_course.specs.Steps.{Step, after_steps, makes, steps_of_runs}
use Rattle.vir_course.specs.Wordings.{Tells, Wording}
use Rattle.vir_course.specs.Works.{Works}
use Rattle.vir_course.specs.declared.answer.Answer.{Answer}
use Rattle.vir_course.specs.declared.stop.Stop.{Stop}
use Rattle.vir_course.specs.declared.stop.Stop.TheVariants as stop
use Rattle.vir_mean.specs.Meaning.{mean}
use Rattle.vir_profile.specs.Profiles.{Votes}
use Rattle.vir_report.specs.ResultText.{result_text}
use Rattle.vir_term.specs.declared.leaf.Leaf.{Leaf}
use Rattle.vir_term.specs.Text.{leaf_text}
use Rattle.vir_term.specs.Tree.{Tree}
use Rattle.vir_counting.specs.Counting.{counting_course}

-- where memory is wanting, and no run is made
pub wanting_at_once : {A X : Type 0} (course : Course A) (Sees : A → X → Type 0) (bench : BenchView)
    (answer : Result X Stop) → answer ≡ Err stop.Memory → Works course Sees bench bench answer
wanting_at_once course Sees bench answer is =
    let follows : Follows Sees ⊥ course (steps_of_runs []) (Err stop.Memory) =
    record { rest = course.steps; steps_are = refl } in
    record { runs = []; follows = rw is follows; bench = refl }

module _ (unserved : Option Leaf) (runs : List Run) (wording : Wording) (old new : BenchView) where
  -- a module that no counter serves
  pub works_unserved : (leaf : Leaf) (text : List ℕ) → unserved ≡ Some leaf → text ≡ leaf_text leaf
      → Works (counting_course unserved runs wording) Tells old old (Err (stop.NoCounter text))
  works_unserved leaf text is worded =
      record {
        runs = [];
        follows =
            record {
              all_made = sym (ap (λ o. (counting_course o runs wording).steps) is);
              end_is = ap (λ o. (counting_course o runs wording).end) is ∙ ap (λ t. Err (stop.NoCounter t))
                  (sym worded);
            };
        bench = refl;
      }

  -- where memory is wanting behind the first of the runs
  pub works_wanting : (first rest : List Run) (answer : Result Answer Stop) → answer ≡ Err stop.Memory → unserved ≡ None
      → runs ≡ first ++ rest → new ≡ after_steps (steps_of_runs first) old
      → Works (counting_course unserved runs wording) Tells old new answer
  works_wanting first rest answer is none parts made =
      let follows : Follows Tells ⊥ (counting_course unserved runs wording) (steps_of_runs first) (Err stop.Memory) =
      record {
        rest = steps_of_runs rest;
        steps_are = ap (λ o. (counting_course o runs wording).steps) none
            ∙ ap steps_of_runs parts ∙ map-append makes first rest;
      } in
      record { runs = first; follows = rw is follows; bench = made }

  -- all runs are made, and such a text is told
  pub works_told : (answer : Answer) → unserved ≡ None → Tells wording answer → new ≡ after_steps (steps_of_runs runs)
      old → Works (counting_course unserved runs wording) Tells old new (Ok answer)
  works_told answer none told made =
      record {
        runs = runs;
        follows =
            record {
              all_made = sym (ap (λ o. (counting_course o runs wording).steps) none);
              value = wording;
              end_is = ap (λ o. (counting_course o runs wording).end) none;
              sees = told;
            };
        bench = made;
      }

-- where memory is wanting before one run or behind it
pub works_wanting_at : (unserved : Option Leaf) (run : Run) (wording : Wording) (old new : BenchView)
    (answer : Result Answer Stop) → answer ≡ Err stop.Memory → unserved ≡ None → (new ≡ old) ⊎ (new ≡ after_run run old)
    → Works (counting_course unserved (run ∷ []) wording) Tells old new answer
works_wanting_at unserved run wording old new answer is none (inl stays) = works_wanting unserved (run ∷ []) wording old
    new [] (run ∷ []) answer is none refl stays
works_wanting_at unserved run wording old new answer is none (inr made) = works_wanting unserved (run ∷ []) wording old
    new (run ∷ []) [] answer is none refl made

-- what is written of the split that a run gave, counting is to print
pub counted_text : (t : Tree) (votes : Votes) (split : Split) (text : List ℕ) → split ≡ mean t (all votes.alternatives)
    votes.lines → text ≡ result_text split → text ≡ count_text t votes
counted_text t votes split text is printed = printed ∙ ap result_text is
