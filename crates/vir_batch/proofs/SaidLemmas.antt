-- The work on what stands under a name: a run for a profile, and none for a fault.
use Rattle.std.proofs.Common.{◌≡◌, ◌⊎◌, ℕ, List, [], ◌∷◌, Result, Ok, Err, refl, ap, ◌∙◌, subst, sym, inl, inr}
use Rattle.vir_altset.specs.Sets.{all}
use Rattle.vir_course.specs.Steps.{steps_of_runs}
use Rattle.vir_course.specs.Works.{Works}
use Rattle.vir_course.specs.declared.stop.Stop.{Stop}
use Rattle.vir_course.specs.declared.stop.Stop.TheVariants as stop
use Rattle.vir_machine.proofs.Raised.{kinds_of-raised}
use Rattle.vir_machine.specs.Runs.{BenchView, Run, after_run, served_by}
use Rattle.vir_machine.specs.Uses.{uses}
use Rattle.vir_profile.specs.SocFiles.{File}
use Rattle.vir_soc.specs.declared.fault.SocFault.{SocFault}
use Rattle.vir_term.specs.Tree.{Tree}
use Rattle.vir_batch.specs.BatchTexts.{Said}
use Rattle.vir_batch.specs.Batches.{count_said}

-- the run of a rule on all alternatives of a file's profile
abbrev pub run_on : Tree → File → Run
run_on term file = record { term = term; votes = file.profile }

-- a run changes no kinds
pub served_after : (run : Run) (old new : BenchView) → new ≡ after_run run old → served_by new ≡ served_by old
served_after run old new made =
    ap served_by made
    ∙ kinds_of-raised (λ i. uses i (served_by old) run.term (all run.votes.alternatives) run.votes.lines) old.counters

module _ {X : Type 0} (term : Tree) (name : List ℕ) (Sees : Said → X → Type 0) (old new : BenchView) where
  -- a profile that is counted
  pub works_counted : (file : File) (x : X) → Sees (record { name = name; says = Ok file }) x
      → new ≡ after_run (run_on term file) old → Works (count_said term name (Ok file)) Sees old new (Ok x)
  works_counted file x sees made =
      record {
        runs = run_on term file ∷ [];
        follows =
            record {
              all_made = refl;
              value = record { name = name; says = Ok file };
              end_is = refl;
              sees = sees;
            };
        bench = made;
      }

  -- where memory is wanting before its run or behind it
  pub works_uncounted : (file : File) → (new ≡ old) ⊎ (new ≡ after_run (run_on term file) old)
      → Works (count_said term name (Ok file)) Sees old new (Err stop.Memory)
  works_uncounted file (inl stays) =
      record {
        runs = [];
        follows = record { rest = steps_of_runs (run_on term file ∷ []); steps_are = refl };
        bench = stays;
      }
  works_uncounted file (inr made) =
      record {
        runs = run_on term file ∷ [];
        follows = record { rest = []; steps_are = refl };
        bench = made;
      }

-- a profile that is refused
pub works_refused : {X : Type 0} (term : Tree) (name : List ℕ) (Sees : Said → X → Type 0) (bench : BenchView)
    (fault : SocFault) (x : X) → Sees (record { name = name; says = Err fault }) x
    → Works (count_said term name (Err fault)) Sees bench bench (Ok x)
works_refused term name Sees bench fault x sees =
    record {
      runs = [];
      follows =
          record {
            all_made = refl;
            value = record { name = name; says = Err fault };
            end_is = refl;
            sees = sees;
          };
      bench = refl;
    }

-- ---- by what stands there
module _ {X : Type 0} (term : Tree) (name : List ℕ) (Sees : Said → X → Type 0) (old new : BenchView)
    (says : Result File SocFault) (file : File) (is_file : says ≡ Ok file) where
  abbrev works_on : Result File SocFault → Result X Stop → Type 0
  works_on s answer = Works (count_said term name s) Sees old new answer

  pub works_said : (x : X) → Sees (record { name = name; says = Ok file }) x → new ≡ after_run (run_on term file) old
      → works_on says (Ok x)
  works_said x sees made =
      subst (λ (s : Result File SocFault). works_on s (Ok x)) (sym is_file)
      (works_counted term name Sees old new file x sees made)

  pub works_unsaid : (answer : Result X Stop) → answer ≡ Err stop.Memory
      → (new ≡ old) ⊎ (new ≡ after_run (run_on term file) old) → works_on says answer
  works_unsaid answer wanting began =
      subst (λ (a : Result X Stop). works_on says a) (sym wanting)
      (subst (λ (s : Result File SocFault). works_on s (Err stop.Memory)) (sym is_file)
      (works_uncounted term name Sees old new file began))
