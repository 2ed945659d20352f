-- A rule file and a manifest, and then what they come to.
use Rattle.std.proofs.Common.{◌≡◌, ℕ, ◌<◌, List, Option, Result, Ok, Err, ap, sym, subst, ◌∙◌, arith}
use Rattle.vir_course.specs.Courses.{Course, and_then}
use Rattle.vir_course.specs.Wordings.{Tells, Wording}
use Rattle.vir_course.specs.declared.answer.Answer.{Answer}
use Rattle.vir_course.specs.declared.stop.Stop.{Stop}
use Rattle.vir_files.specs.Contents.{Contents}
use Rattle.vir_files.specs.Files.{Kind, read_as, rules}
use Rattle.vir_files.specs.Performs.{Performs}
use Rattle.vir_files.specs.Readings.{rule_at}
use Rattle.vir_files.proofs.RuleLemmas.{SeesTree}
use Rattle.vir_files.proofs.ThenLemmas.{IsBelow, IsFrom, performs_stops, performs_then}
use Rattle.vir_machine.specs.Runs.{BenchView, served_by}
use Rattle.vir_outside.specs.Shelf.{ShelfView}
use Rattle.vir_term.specs.declared.term.Term.{Term}
use Rattle.vir_term.specs.declared.leaf.LeafKind.{LeafKind}
use Rattle.vir_term.specs.Tree.{Tree, tree}
use Rattle.vir_batch.specs.Batches.{batch_course, batch_of_files_course, manifest_at}
use Rattle.vir_batch.specs.Kinds.{manifests}
use Rattle.vir_batch.proofs.BatchLemmas.{batch_from}
use Rattle.vir_batch.proofs.ManifestLemmas.{SeesNames}

-- ---- by which contents they go
-- a file at a place goes by what stands under names there
file_below : {A F : Type 0} (kind : Kind A F) (name : List ℕ) (place n : ℕ) → place < n
    → IsBelow n (λ (contents : Contents). read_as kind name (contents place name))
file_below kind name place n is = λ c d same.
    ap (λ (under : List ℕ → Option (List ℕ)). read_as kind name (under name)) (same place is)

-- behind a rule, a batch goes by the manifest and the profiles
behind_rule : (kinds : List (List LeafKind)) (manifest : List ℕ) (term : Tree)
    → IsFrom 1 (λ (contents : Contents). and_then (manifest_at contents 1 manifest)
    (λ names. batch_course kinds contents term names))
behind_rule kinds manifest term = λ c d same.
    let one : c 1 ≡ d 1 = same 1 (omega arith) in
    let rest : (names : List (List ℕ)) → batch_course kinds c term names ≡ batch_course kinds d term names =
    λ names. batch_from kinds term names c d (λ place is. same place (omega arith)) in
    let next : (λ (names : List (List ℕ)). batch_course kinds c term names)
    ≡ (λ names. batch_course kinds d term names) = λ j names. rest names j in
    ap (λ (under : List ℕ → Option (List ℕ)). and_then (read_as manifests manifest (under manifest))
    (λ names. batch_course kinds c term names)) one
    ∙ ap (λ (n : List (List ℕ) → Course Wording). and_then (manifest_at d 1 manifest) n) next

module _ {S : Type 0} (rule manifest : List ℕ) (seen : S → ShelfView) (bench : BenchView) where
  -- the rule file stops all
  pub rule_stops : (before after : S) (reason : Stop)
      → Performs (λ (contents : Contents). rule_at contents 0 rule) SeesTree seen before after bench bench (Err reason)
      → Performs (λ contents. batch_of_files_course (served_by bench) contents rule manifest) Tells seen before after
      bench bench (Err reason)
  rule_stops before after reason r =
      performs_stops (λ contents. rule_at contents 0 rule) SeesTree Tells seen before after bench bench
      (λ contents term. and_then (manifest_at contents 1 manifest)
      (λ names. batch_course (served_by bench) contents term names)) reason r

  module _ (before ruled : S) (x : Term)
      (r : Performs (λ (contents : Contents). rule_at contents 0 rule) SeesTree seen before ruled bench bench (Ok x))
    where
      -- what is performed behind the rule
      behind : (after : S) (new : BenchView) (answer : Result Answer Stop)
          → ((term : Tree) → SeesTree term x
          → Performs (λ contents. and_then (manifest_at contents 1 manifest)
          (λ names. batch_course (served_by bench) contents term names)) Tells seen ruled after bench new answer)
          → Performs (λ contents. batch_of_files_course (served_by bench) contents rule manifest) Tells seen before
          after
          bench new answer
      behind after new answer next =
          performs_then 1 (λ contents. rule_at contents 0 rule)
          (λ term contents. and_then (manifest_at contents 1 manifest)
          (λ names. batch_course (served_by bench) contents term names)) SeesTree Tells
          (file_below rules rule 0 1 (let is : 0 < 1 = omega arith in is))
          (λ term. behind_rule (served_by bench) manifest term) seen before ruled after bench bench new x answer r next

      -- the manifest stops all
      pub manifest_stops : (listed : S) (reason : Stop)
          → Performs (λ (contents : Contents). manifest_at contents 1 manifest) SeesNames seen ruled listed bench bench
          (Err reason)
          → Performs (λ contents. batch_of_files_course (served_by bench) contents rule manifest) Tells seen before
          listed
          bench bench (Err reason)
      manifest_stops listed reason m =
          behind listed bench (Err reason) (λ term is.
          performs_stops (λ contents. manifest_at contents 1 manifest) SeesNames Tells seen ruled listed bench bench
          (λ contents names. batch_course (served_by bench) contents term names) reason m)

      -- the profiles of the manifest are counted
      pub files_answer : (listed after : S) (new : BenchView) (names : List (List ℕ)) (answer : Result Answer Stop)
          → Performs (λ (contents : Contents). manifest_at contents 1 manifest) SeesNames seen ruled listed bench bench
          (Ok names)
          → Performs (λ contents. batch_course (served_by bench) contents (tree x) names) Tells seen listed after bench
          new answer
          → Performs (λ contents. batch_of_files_course (served_by bench) contents rule manifest) Tells seen before
          after
          bench new answer
      files_answer listed after new names answer m b =
          behind after new answer (λ term is.
          performs_then 2 (λ contents. manifest_at contents 1 manifest)
          (λ ns contents. batch_course (served_by bench) contents term ns) SeesNames Tells
          (file_below manifests manifest 1 2 (let below : 1 < 2 = omega arith in below))
          (λ ns. batch_from (served_by bench) term ns) seen ruled listed after bench bench new names answer m (λ ns are.
          subst (λ (t : Tree). Performs (λ contents. batch_course (served_by bench) contents t ns) Tells seen listed
          after
          bench new answer) (sym is)
          (subst (λ (n : List (List ℕ)). Performs (λ contents. batch_course (served_by bench) contents (tree x) n) Tells
          seen listed after bench new answer) (sym are) b)))
