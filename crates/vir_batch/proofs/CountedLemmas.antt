-- Courses behind courses; and the course of many profiles, in parts.
use Rattle.std.proofs.Common.{◌≡◌, ℕ, ◌+◌, ◌<◌, ◌≤◌, List, [], ◌∷◌, ◌++◌, length, Option, Result, Ok, Err}
use Rattle.std.proofs.Common.{refl, sym, ap, ◌∙◌, arith, append_assoc, append-nil}
use Rattle.vir_course.specs.Courses.{Course, and_then, behind, gives, go_on}
use Rattle.vir_course.specs.Steps.{Step}
use Rattle.vir_course.specs.Wordings.{exactly}
use Rattle.vir_course.specs.declared.stop.Stop.{Stop}
use Rattle.vir_files.specs.Contents.{Contents}
use Rattle.vir_files.specs.Files.{read_as}
use Rattle.vir_files.proofs.ThenLemmas.{IsBelow, IsFrom}
use Rattle.vir_term.specs.Tree.{Tree}
use Rattle.vir_batch.specs.BatchTexts.{Said, batch_text}
use Rattle.vir_batch.specs.Batches.{all_counted, count_said, profile_counted, served_course}
use Rattle.vir_batch.specs.Kinds.{profiles_or_faults}

-- ---- courses
-- what is behind steps
behind_go : {B C : Type 0} (steps more : List Step) (end : Result B Stop) (next : B → Course C)
    → go_on (steps ++ more) end next ≡ behind steps (go_on more end next)
behind_go {C = C} steps more (Ok b) next =
    ap (λ s. let c : Course C = record { steps = s; end = (next b).end } in c) (append_assoc steps more (next b).steps)
behind_go steps more (Err reason) next = refl

assoc_by : {A B C : Type 0} (steps : List Step) (end : Result A Stop) (next : A → Course B) (last : B → Course C)
    → and_then (go_on steps end next) last ≡ go_on steps end (λ a. and_then (next a) last)
assoc_by steps (Ok a) next last = behind_go steps (next a).steps (next a).end last
assoc_by steps (Err reason) next last = refl

-- three courses, one behind the other
pub and_then_assoc : {A B C : Type 0} (first : Course A) (next : A → Course B) (last : B → Course C)
    → and_then (and_then first next) last ≡ and_then first (λ a. and_then (next a) last)
and_then_assoc first next last = assoc_by first.steps first.end next last

gives_by : {A : Type 0} (steps : List Step) (end : Result A Stop)
    → go_on steps end (λ a. gives a) ≡ record { steps = steps; end = end }
gives_by {A = A} steps (Ok a) =
    ap (λ s. let c : Course A = record { steps = s; end = Ok a } in c) (append-nil steps)
gives_by steps (Err reason) = refl

-- a course, and its value
and_then_gives : {A : Type 0} (course : Course A) → and_then course (λ a. gives a) ≡ course
and_then_gives course = gives_by course.steps course.end

-- a course, and the same with its value
and_then_same : {A B : Type 0} (course : Course A) (one other : A → Course B) → ((a : A) → one a ≡ other a)
    → and_then course one ≡ and_then course other
and_then_same {A = A} {B = B} course one other same =
    let next : one ≡ other = λ j a. same a j in ap (λ (n : A → Course B). and_then course n) next

-- ---- many profiles
-- those behind others
abbrev pub behind_others : Contents → ℕ → Tree → List (List ℕ) → List Said → Course (List Said)
behind_others contents place term names before =
    and_then (all_counted contents place term names) (λ more. gives (before ++ more))

-- in two parts
pub all_in_parts : (contents : Contents) (term : Tree) (names more : List (List ℕ)) (place : ℕ)
    → all_counted contents place term (names ++ more)
    ≡ and_then (all_counted contents place term names) (behind_others contents (place + length names) term more)
all_in_parts contents term [] more place =
    let here : place ≡ place + 0 = omega arith in
    ap (λ p. all_counted contents p term more) here
    ∙ sym (and_then_gives (all_counted contents (place + 0) term more))
all_in_parts contents term (name ∷ names) more place =
    let first : Course Said = profile_counted contents place term name in
    let rest : Course (List Said) = all_counted contents (place + 1) term names in
    let last : ℕ → Course (List Said) = λ p. all_counted contents p term more in
    let next : place + 1 + length names ≡ place + length (name ∷ names) = omega arith in
    let put : Said → Course (List Said) → Course (List Said) = λ one c. and_then c (λ said. gives (one ∷ said)) in
    let both : ℕ → Said → Course (List Said) =
    λ p one. and_then rest (λ said. and_then (last p) (λ after. gives (one ∷ (said ++ after)))) in
    ap (λ (c : Course (List Said)). and_then first (λ one. put one c))
    (all_in_parts contents term names more (place + 1))
    ∙ and_then_same first _ (both (place + 1 + length names)) (λ one.
    and_then_assoc rest _ (λ said. gives (one ∷ said))
    ∙ and_then_same rest _ (λ said. and_then (last (place + 1 + length names)) (λ after. gives (one ∷ (said ++ after))))
    (λ said. and_then_assoc (last (place + 1 + length names)) _ (λ all. gives (one ∷ all))))
    ∙ ap (λ p. and_then first (both p)) next
    ∙ sym (and_then_assoc first _ (behind_others contents (place + length (name ∷ names)) term more)
    ∙ and_then_same first _ (both (place + length (name ∷ names))) (λ one.
    and_then_assoc rest _ (behind_others contents (place + length (name ∷ names)) term more)))

-- ---- by which contents they go
-- one profile goes by what stands under names at its place
counted_by : (c d : Contents) (term : Tree) (name : List ℕ) (place : ℕ) → c place ≡ d place
    → profile_counted c place term name ≡ profile_counted d place term name
counted_by c d term name place same =
    ap (λ (under : List ℕ → Option (List ℕ)). and_then (read_as profiles_or_faults name (under name))
    (count_said term name)) same

-- and many by what stands under them at theirs
all_by : (c d : Contents) (term : Tree) (names : List (List ℕ)) (place : ℕ)
    → ((at : ℕ) → place ≤ at → at < place + length names → c at ≡ d at)
    → all_counted c place term names ≡ all_counted d place term names
all_by c d term [] place same = refl
all_by c d term (name ∷ names) place same =
    let here : c place ≡ d place = same place (omega arith) (omega arith) in
    ap (λ (first : Course Said). and_then first (λ one. and_then (all_counted c (place + 1) term names)
    (λ more. gives (one ∷ more)))) (counted_by c d term name place here)
    ∙ ap (λ (rest : Course (List Said)). and_then (profile_counted d place term name) (λ one. and_then rest
    (λ more. gives (one ∷ more))))
    (all_by c d term names (place + 1) (λ at above below. same at (omega arith) (omega arith)))

pub all_below : (term : Tree) (names : List (List ℕ)) (place n : ℕ) → place + length names ≤ n
    → IsBelow n (λ contents. all_counted contents place term names)
all_below term names place n within = λ c d same.
    all_by c d term names place (λ at above below. same at (omega arith))

pub all_from : (term : Tree) (names : List (List ℕ)) (place n : ℕ) → n ≤ place
    → IsFrom n (λ contents. all_counted contents place term names)
all_from term names place n behind = λ c d same.
    all_by c d term names place (λ at above below. same at (omega arith))

pub others_from : (term : Tree) (names : List (List ℕ)) (before : List Said) (n : ℕ)
    → IsFrom n (λ contents. behind_others contents n term names before)
others_from term names before n = λ c d same.
    ap (λ (all : Course (List Said)). and_then all (λ more. gives (before ++ more)))
    (all_from term names n n (omega arith) c d same)

-- the profiles of a batch are asked for from place 2 on
pub served_from : (term : Tree) (names : List (List ℕ)) → IsFrom 2 (λ contents. served_course contents term names)
served_from term names = λ c d same.
    ap (λ (all : Course (List Said)). and_then all (λ said. gives (exactly (batch_text term said))))
    (all_from term names 2 2 (omega arith) c d same)
