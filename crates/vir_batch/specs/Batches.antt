-- The course of a batch, by the contents of its files and by the kinds of modules that the counters of the bench serve.
-- Its rule and its manifest are the first two files, so its profiles are asked for from place 2 on.
use Rattle.std.specs.Prelude.{ℕ, ◌+◌, List, [], ◌∷◌, None, Some, Result, Ok, Err}
use Rattle.std.specs.declared.option.Option.{Option}
use Rattle.vir_course.specs.Courses.{Course, and_then, behind, gives, stops}
use Rattle.vir_course.specs.Steps.{Step, makes}
use Rattle.vir_course.specs.Wordings.{Wording, exactly}
use Rattle.vir_course.specs.declared.stop.Stop.TheVariants as stop
use Rattle.vir_files.specs.Contents.{Contents}
use Rattle.vir_files.specs.Files.{read_as}
use Rattle.vir_files.specs.Readings.{rule_at}
use Rattle.vir_machine.specs.Uses.{first_unserved}
use Rattle.vir_profile.specs.SocFiles.{File}
use Rattle.vir_soc.specs.declared.fault.SocFault.{SocFault}
use Rattle.vir_term.specs.declared.leaf.Leaf.{Leaf}
use Rattle.vir_term.specs.declared.leaf.LeafKind.{LeafKind}
use Rattle.vir_term.specs.Text.{leaf_text}
use Rattle.vir_term.specs.Tree.{Tree}
use Rattle.vir_batch.specs.BatchTexts.{Said, batch_text}
use Rattle.vir_batch.specs.Kinds.{manifests, profiles_or_faults}

-- a manifest
abbrev pub manifest_at : Contents → ℕ → List ℕ → Course (List (List ℕ))
manifest_at contents place name = read_as manifests name (contents place name)

-- the run that is made for what stands under a name: none for a fault
abbrev pub run_for : Tree → Result File SocFault → List Step
run_for term (Ok file) = makes (record { term = term; votes = file.profile }) ∷ []
run_for term (Err fault) = []

-- the work on what stands under a name
abbrev pub count_said : Tree → List ℕ → Result File SocFault → Course Said
count_said term name says = behind (run_for term says) (gives (record { name = name; says = says }))

-- a profile, and the run for it
abbrev pub profile_counted : Contents → ℕ → Tree → List ℕ → Course Said
profile_counted contents place term name =
    and_then (read_as profiles_or_faults name (contents place name)) (count_said term name)

-- profiles, one after another, each counted before the next one is read
abbrev pub all_counted : Contents → ℕ → Tree → List (List ℕ) → Course (List Said)
all_counted contents place term [] = gives []
all_counted contents place term (name ∷ rest) =
    and_then (profile_counted contents place term name) (λ one.
    and_then (all_counted contents (place + 1) term rest) (λ more. gives (one ∷ more)))

-- the text of all of them
abbrev pub served_course : Contents → Tree → List (List ℕ) → Course Wording
served_course contents term names =
    and_then (all_counted contents 2 term names) (λ said. gives (exactly (batch_text term said)))

-- that, unless a counter is missing for a module: then no profile is read
abbrev pub batch_unless : Option Leaf → Contents → Tree → List (List ℕ) → Course Wording
batch_unless None contents term names = served_course contents term names
batch_unless (Some leaf) contents term names = stops (stop.NoCounter (leaf_text leaf))

-- `batch`: what the rule comes to on each profile of the manifest
abbrev pub batch_course : List (List LeafKind) → Contents → Tree → List (List ℕ) → Course Wording
batch_course kinds contents term names = batch_unless (first_unserved kinds term) contents term names

-- and by its files: a rule file, a manifest once that is accepted, and then the profiles
abbrev pub batch_of_files_course : List (List LeafKind) → Contents → List ℕ → List ℕ → Course Wording
batch_of_files_course kinds contents rule manifest =
    and_then (rule_at contents 0 rule) (λ term.
    and_then (manifest_at contents 1 manifest) (λ names. batch_course kinds contents term names))
