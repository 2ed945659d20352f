-- The reading of a profile, whose fault is a value.
use Rattle.std.proofs.Common.{◌≡◌, ℕ, List, Option, None, Some, Result, Ok, Err, refl, ap, ◌∙◌, inl, inr}
use Rattle.vir_course.specs.Courses.{Follows}
use Rattle.vir_course.specs.Steps.{Step, last_read}
use Rattle.vir_course.specs.declared.stop.Stop.{Stop}
use Rattle.vir_course.specs.declared.stop.Stop.TheVariants as stop
use Rattle.vir_files.specs.Contents.{Contents}
use Rattle.vir_files.specs.Files.{accept, judge, profiles, read_as}
use Rattle.vir_files.specs.Performs.{Performs, RoseAtLast}
use Rattle.vir_files.specs.Readings.{profile_at}
use Rattle.vir_files.proofs.FedLemmas.{SeesFile}
use Rattle.vir_files.proofs.PerformLemmas.{left_behind}
use Rattle.vir_machine.specs.Runs.{BenchView}
use Rattle.vir_outside.specs.Shelf.{ShelfView}
use Rattle.vir_profile.specs.SocFiles.{File}
use Rattle.vir_soc.specs.Soc.{soc}
use Rattle.vir_soc.specs.declared.fault.SocFault.{SocFault}
use Rattle.vir_batch.specs.Kinds.{fault_as_value, profiles_or_faults}

-- a profile or its fault is this
abbrev pub SeesSaid : Result File SocFault → Result File SocFault → Type 0
SeesSaid said x = said ≡ x

-- what bytes lead to
accepted_so : (says : Result File SocFault) → Ok says ≡ fault_as_value (accept profiles.refused says)
accepted_so (Ok file) = refl
accepted_so (Err fault) = refl

-- and what stands under a name does
judged_so : (content : Option (List ℕ)) → judge profiles_or_faults content ≡ fault_as_value (judge profiles content)
judged_so None = refl
judged_so (Some bytes) = accepted_so (soc bytes)

module _ (rose : Type 0) (name : List ℕ) (content : Option (List ℕ)) (made : List Step) where
  -- how a reading ends, whose fault is a value
  ends_so : (answer : Result File Stop) → judge profiles content ≡ answer
      → judge profiles_or_faults content ≡ fault_as_value answer
  ends_so answer is = judged_so content ∙ ap fault_as_value is

  -- what follows the reading of a profile follows that, where the fault is a value
  said_follows : (answer : Result File Stop) → Follows SeesFile rose (read_as profiles name content) made answer
      → Follows SeesSaid rose (read_as profiles_or_faults name content) made (fault_as_value answer)
  said_follows (Ok x) f =
      record {
        all_made = f.all_made;
        value = Ok f.value;
        end_is = ends_so (Ok f.value) f.end_is;
        sees = ap Ok f.sees;
      }
  said_follows (Err stop.Usage) f = f
  said_follows (Err stop.ReadFault) (inl (up, b)) =
      inl (up, record { before = b.before; file = b.file; rest = b.rest; made_is = b.made_is; steps_are = b.steps_are })
  said_follows (Err stop.ReadFault) (inr s) =
      inr (record { all_made = s.all_made; end_is = ends_so (Err stop.ReadFault) s.end_is })
  said_follows (Err (stop.TextRefused fault)) f =
      record { all_made = f.all_made; end_is = ends_so (Err (stop.TextRefused fault)) f.end_is }
  said_follows (Err (stop.ProfileRefused fault)) f =
      record {
        all_made = f.all_made;
        value = Err fault;
        end_is = ends_so (Err (stop.ProfileRefused fault)) f.end_is;
        sees = refl;
      }
  said_follows (Err stop.WriteFault) f = f
  said_follows (Err stop.Memory) f = record { rest = f.rest; steps_are = f.steps_are }
  said_follows (Err (stop.NoCounter text)) f =
      record { all_made = f.all_made; end_is = ends_so (Err (stop.NoCounter text)) f.end_is }

-- reading fails where it did
fails_so : (answer : Result File Stop) → answer ≡ Err stop.ReadFault → fault_as_value answer ≡ Err stop.ReadFault
fails_so answer is = ap fault_as_value is

-- The profile is asked for at any place, and its fault is a value.
pub performs_said : {S : Type 0} (name : List ℕ) (seen : S → ShelfView) (before after : S) (bench : BenchView)
    (answer : Result File Stop) (place : ℕ)
    → Performs (λ (contents : Contents). profile_at contents 0 name) SeesFile seen before after bench bench answer
    → Performs (λ (contents : Contents). read_as profiles_or_faults name (contents place name)) SeesSaid seen before
    after bench bench (fault_as_value answer)
performs_said name seen before after bench answer place r =
    record {
      contents = λ at name. r.contents 0 name;
      are_contents = λ at name. r.are_contents 0 name;
      made = r.made;
      follows =
          said_follows (RoseAtLast (seen before) (seen after)) name (r.contents 0 name) r.made answer r.follows;
      bench = r.bench;
      asked = r.asked;
      left = left_behind seen before after (last_read None r.made) _ _ (fails_so answer) r.left;
      later = r.later;
    }
