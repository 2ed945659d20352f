-- One profile behind others.
use Rattle.std.proofs.Common.{◌≡◌, ℕ, ◌+◌, ◌≤◌, List, [], ◌∷◌, ◌++◌, length}
use Rattle.std.proofs.Common.{cond, count_by, if◌then◌else◌, Result, Ok, Err, sym, ap, subst, ◌∙◌, arith, length-append}
use Rattle.std.proofs.Common.{append-nil}
use Rattle.std.specs.List.{flat_map}
use Rattle.std.proofs.lemmas.Grind.{flat_map-append}
use Rattle.std.proofs.lemmas.List.Sums.{sum_by-append}
use Rattle.vir_course.specs.Courses.{Course, and_then, gives}
use Rattle.vir_course.specs.Works.{Works}
use Rattle.vir_course.specs.declared.stop.Stop.{Stop}
use Rattle.vir_files.specs.Contents.{Contents}
use Rattle.vir_files.specs.Performs.{Performs}
use Rattle.vir_files.specs.Files.{read_as}
use Rattle.vir_files.proofs.CallLemmas.{performs_stop, performs_work}
use Rattle.vir_files.proofs.ThenLemmas.{performs_makes, performs_stops, performs_then}
use Rattle.vir_machine.specs.Runs.{BenchView}
use Rattle.vir_outside.specs.Shelf.{ShelfView}
use Rattle.vir_profile.specs.SocFiles.{File}
use Rattle.vir_soc.specs.declared.fault.SocFault.{SocFault}
use Rattle.vir_term.specs.Tree.{Tree}
use Rattle.vir_batch.specs.BatchTexts.{Said, is_refused, line_of}
use Rattle.vir_batch.specs.Batches.{all_counted, count_said, profile_counted}
use Rattle.vir_batch.specs.Kinds.{profiles_or_faults}
use Rattle.vir_batch.specs.Stages.{AreLinesOf, IsLineAdded}
use Rattle.vir_batch.specs.declared.lines.Lines.{Lines}
use Rattle.vir_batch.proofs.KindLemmas.{SeesSaid}
use Rattle.vir_batch.proofs.CountedLemmas.{all_below, all_in_parts, and_then_assoc, behind_others, others_from}

-- ---- lines
refused_more : (said : List Said) (one : Said)
    → count_by is_refused (said ++ one ∷ []) ≡ count_by is_refused said + (if is_refused one then 1 else 0)
refused_more said one =
    let whole = sum_by-append (λ (s : Said). cond (is_refused s) 1 0) said (one ∷ []) in
    let last : 0 + cond (is_refused one) 1 0 ≡ cond (is_refused one) 1 0 = omega arith in
    whole ∙ ap (λ n. count_by is_refused said + n) last

-- a line more
pub line_more : (term : Tree) (said : List Said) (one : Said) (old new : Lines) → AreLinesOf term said old
    → IsLineAdded term one old new → AreLinesOf term (said ++ one ∷ []) new
line_more term said one old new so_far added =
    record {
      text = added.text ∙ ap (λ text. text ++ line_of term one) so_far.text
          ∙ ap (λ line. flat_map (line_of term) said ++ line) (sym (append-nil (line_of term one)))
          ∙ sym (flat_map-append (line_of term) said (one ∷ []));
      profiles =
          let long = length-append said (one ∷ []) in
          let before = so_far.profiles in
          let more = added.profiles in
          omega arith;
      refused =
          added.refused ∙ ap (λ n. n + (if is_refused one then 1 else 0)) so_far.refused ∙ sym (refused_more said one);
    }

-- ---- one profile
module _ {S : Type 0} (term : Tree) (name : List ℕ) (lines lines_now : Lines) (seen : S → ShelfView)
    (before after : S) (old : BenchView) (place : ℕ) where
  abbrev SeesLine : Said → Unit {0} → Type 0
  SeesLine one done = IsLineAdded term one lines lines_now

  -- the reading of it
  abbrev reads_it : Contents → Course (Result File SocFault)
  reads_it contents = read_as profiles_or_faults name (contents place name)

  -- it is read, and done is what is to be done for it
  pub performs_counted : (new : BenchView) (said : Result File SocFault) (answer : Result (Unit {0}) Stop)
      → Performs reads_it SeesSaid seen before after old old (Ok said)
      → Works (count_said term name said) SeesLine old new answer
      → Performs (λ contents. profile_counted contents place term name) SeesLine seen before after old new answer
  performs_counted new said answer r works =
      performs_work reads_it (count_said term name) SeesSaid SeesLine seen before after old said new answer r
      (λ s is. subst (λ (x : Result File SocFault). Works (count_said term name x) SeesLine old new answer) (sym is)
      works)

  -- it isn't read
  pub performs_uncounted : (reason : Stop) → Performs reads_it SeesSaid seen before after old old (Err reason)
      → Performs (λ contents. profile_counted contents place term name) SeesLine seen before after old old (Err reason)
  performs_uncounted reason r =
      performs_stop reads_it (count_said term name) SeesSaid SeesLine seen before after old reason r

-- ---- courses
module _ {S : Type 0} (term : Tree) (done : List (List ℕ)) (seen : S → ShelfView) (before middle after : S)
    (old mid new : BenchView) (lines : Lines)
    (so_far : Performs (λ contents. all_counted contents 2 term done) (AreLinesOf term) seen before middle old mid
    (Ok lines)) where
  -- the place of the next one
  abbrev place : ℕ
  place = 2 + length done

  -- what is performed behind them
  performs_behind : {Y : Type 0} (names : List (List ℕ)) (Sees : List Said → Y → Type 0) (answer : Result Y Stop)
      → ((said : List Said) → AreLinesOf term said lines
      → Performs (λ contents. behind_others contents place term names said) Sees seen middle after mid new answer)
      → Performs (λ contents. all_counted contents 2 term (done ++ names)) Sees seen before after old new answer
  performs_behind names Sees answer next =
      let within : 2 + length done ≤ place = omega arith in
      let course : (λ (contents : Contents). and_then (all_counted contents 2 term done)
      (behind_others contents place term names)) ≡ (λ contents. all_counted contents 2 term (done ++ names)) =
      λ j contents. sym (all_in_parts contents term done names 2) j in
      subst (λ (c : Contents → Course (List Said)). Performs c Sees seen before after old new answer) course
      (performs_then place (λ contents. all_counted contents 2 term done)
      (λ said contents. behind_others contents place term names said) (AreLinesOf term) Sees
      (all_below term done 2 place within) (λ said. others_from term names said place) seen before middle after old mid
      new lines answer so_far next)

  -- the next one is counted, or refused
  pub performs_more : (name : List ℕ) (lines_now : Lines)
      → Performs (λ contents. profile_counted contents place term name)
      (λ one (u : Unit {0}). IsLineAdded term one lines lines_now) seen middle after mid new (Ok tt)
      → Performs (λ contents. all_counted contents 2 term (done ++ name ∷ [])) (AreLinesOf term) seen before after old
      new (Ok lines_now)
  performs_more name lines_now turn =
      performs_behind (name ∷ []) (AreLinesOf term) (Ok lines_now) (λ said are.
      let first : Contents → Course Said = λ contents. profile_counted contents place term name in
      let course : (λ (contents : Contents). and_then (first contents) (λ one. gives (said ++ one ∷ [])))
      ≡ (λ contents. behind_others contents place term (name ∷ []) said) =
      λ j contents. one_behind contents name said j in
      subst (λ (c : Contents → Course (List Said)). Performs c (AreLinesOf term) seen middle after mid new
      (Ok lines_now)) course
      (performs_makes first (λ one (u : Unit {0}). IsLineAdded term one lines lines_now) (AreLinesOf term) seen middle
      after mid new (λ one. said ++ one ∷ []) tt turn lines_now
      (λ one added. line_more term said one lines lines_now are added)))
    where
      one_behind : (contents : Contents) (name : List ℕ) (said : List Said)
          → and_then (profile_counted contents place term name) (λ one. gives (said ++ one ∷ []))
          ≡ behind_others contents place term (name ∷ []) said
      one_behind contents name said =
          sym (and_then_assoc (profile_counted contents place term name) (λ one. gives (one ∷ []))
          (λ more. gives (said ++ more)))

  -- it isn't read, or memory is wanting
  pub performs_no_more : {Y : Type 0} (Sees : List Said → Y → Type 0) (name : List ℕ) (names : List (List ℕ))
      (lines_now : Lines) (reason : Stop) → Performs (λ contents. profile_counted contents place term name)
      (λ one (u : Unit {0}). IsLineAdded term one lines lines_now) seen middle after mid new (Err reason)
      → Performs (λ contents. all_counted contents 2 term (done ++ name ∷ names)) Sees seen before after old new
      (Err reason)
  performs_no_more Sees name names lines_now reason turn =
      let SeesOne : Said → Unit {0} → Type 0 = λ one u. IsLineAdded term one lines lines_now in
      let SeesNone : List Said → Unit {0} → Type 0 = λ said u. Unit {0} in
      performs_behind (name ∷ names) Sees (Err reason) (λ said are.
      performs_stops (λ contents. all_counted contents place term (name ∷ names)) SeesNone Sees seen middle after mid
      new (λ contents more. gives (said ++ more)) reason
      (performs_stops (λ contents. profile_counted contents place term name) SeesOne SeesNone seen middle after mid new
      (λ contents one. and_then (all_counted contents (place + 1) term names) (λ more. gives (one ∷ more))) reason
      turn))
