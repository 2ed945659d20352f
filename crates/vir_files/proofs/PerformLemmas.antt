-- Files, read one after another.
use Rattle.std.proofs.Common.{Bool}
use Rattle.std.proofs.Common.{◌≡◌, ◌⊎◌, ℕ, zero, suc, ◌+◌, ◌<◌, ◌≤◌, List, [], ◌∷◌, ◌++◌, Option, None, Some}
use Rattle.std.proofs.Common.{IsTrue, IsSome, Result, Ok, Err, refl, sym, ap, subst, ◌∙◌, inl, inr, arith, length}
use Rattle.std.specs.Io.KnownBytes.{prepend_known}
use Rattle.vir_course.specs.Courses.{Course, Follows, Reaches, and_then, gives}
use Rattle.vir_machine.specs.Runs.{BenchView, Run}
use Rattle.vir_course.specs.Steps.{Asked, Step, last_read, makes, reads, steps_of_runs}
use Rattle.vir_course.specs.declared.stop.Stop.{Stop}
use Rattle.vir_course.specs.declared.stop.Stop.TheVariants as stop
use Rattle.vir_course.proofs.CourseLemmas.{follows_rose, follows_stop, follows_then}
use Rattle.vir_course.proofs.StepLemmas.{after_steps-append, last_read-append}
use Rattle.vir_files.specs.Contents.{CanBe, Contents}
use Rattle.vir_files.specs.Files.{Kind, asked_file, read_as}
use Rattle.vir_files.specs.Performs.{AreAsked, AsksFirst, Left, LeftBehind, Performs, ReadsFile, RoseAtLast}
use Rattle.vir_files.specs.Performs.{Took, counted_before, names_read}
use Rattle.vir_files.proofs.ContentLemmas.{are_by_places, are_extended, at_place, by_places, extended, extended_at}
use Rattle.vir_files.proofs.ContentLemmas.{extended_before, none_can, some_content}
use Rattle.vir_outside.specs.Shelf.{AsksFor, Faulted, Files, IsLater, Lacks, Request, ShelfView, TakesAtMost}
use Rattle.vir_outside.specs.Shelf.{before_reads, to_read, to_select, to_write, told_content, up_to_select}

-- ---- a shelf, and later on
pub later_same : (shelf : ShelfView) → IsLater shelf shelf
later_same shelf = record { files = refl; faults = omega arith }

pub later_then : (old mid new : ShelfView) → IsLater old mid → IsLater mid new → IsLater old new
later_then old mid new first next =
    let early : old.faults ≤ mid.faults = first.faults in
    let late : mid.faults ≤ new.faults = next.faults in
    record { files = next.files ∙ first.files; faults = omega arith }

-- a count that rose behind a later shelf
pub faulted_behind : (old mid new : ShelfView) → IsLater old mid → Faulted mid new → Faulted old new
faulted_behind old mid new first rose =
    let early : old.faults ≤ mid.faults = first.faults in
    omega arith

-- ---- how many faults were counted before the file that was selected last
counted-before_reads : (asked : List Request) → counted_before (before_reads asked) ≡ counted_before asked
counted-before_reads [] = refl
counted-before_reads (to_select name faults ∷ before) = refl
counted-before_reads (to_read zero ∷ before) = refl
counted-before_reads (to_read (suc n) ∷ before) = counted-before_reads before
counted-before_reads (to_write handed taken ∷ before) = refl

counted-up_to_select : (asked : List Request) → counted_before (up_to_select asked) ≡ counted_before asked
counted-up_to_select [] = refl
counted-up_to_select (to_select name faults ∷ before) = refl
counted-up_to_select (to_read n ∷ before) = counted-before_reads before
counted-up_to_select (to_write handed taken ∷ before) = refl

-- behind a file, those that there were
counted_so : (old new : ShelfView) (name : List ℕ) → AsksFor old new name → counted_before new.asked ≡ old.faults
counted_so old new name asks = sym (counted-up_to_select new.asked) ∙ ap counted_before asks

-- a count that rose at a file rose since the last file was selected, also in a call that began before
pub rose_at : (old mid new : ShelfView) (name : List ℕ) → IsLater old mid → AsksFor mid new name
    → Faulted mid new → RoseAtLast old new
rose_at old mid new name later asks rose =
    let counted : counted_before new.asked ≡ mid.faults = counted_so mid new name asks in
    let early : old.faults ≤ mid.faults = later.faults in
    omega arith

pub rose_since : (old mid new : ShelfView) → IsLater old mid → RoseAtLast mid new → RoseAtLast old new
rose_since old mid new later rose = let early : old.faults ≤ mid.faults = later.faults in omega arith

-- what is taken of a file that was told before
pub takes_later : (old new : ShelfView) (name : List ℕ) (most : ℕ) → IsLater old new
    → (IsSome old.files → IsTrue new.selected → (taken : List ℕ) × (length taken ≤ most)
    × (told_content old.files name ≡ prepend_known taken new.rest)) → TakesAtMost new name most
takes_later old new name most later takes =
    subst (λ (fs : Option Files). IsSome fs → IsTrue new.selected → (taken : List ℕ) × (length taken ≤ most)
    × (told_content fs name ≡ prepend_known taken new.rest)) (sym later.files) takes

-- ---- the names that a shelf is asked for
names_read-append : (first next : List Step) → names_read (first ++ next) ≡ names_read first ++ names_read next
names_read-append [] next = refl
names_read-append (reads file ∷ rest) next = ap (λ names. file.name ∷ names) (names_read-append rest next)
names_read-append (makes run ∷ rest) next = names_read-append rest next

pub names_read-steps_of_runs : (runs : List Run) → names_read (steps_of_runs runs) ≡ []
names_read-steps_of_runs [] = refl
names_read-steps_of_runs (run ∷ rest) = names_read-steps_of_runs rest

-- those of some names, and then of more
asked_more : (names more : List (List ℕ)) (old mid new : List Request) → AreAsked names old mid
    → AreAsked more mid new → AreAsked (names ++ more) old new
asked_more [] more old mid new first next = subst (λ (requests : List Request). AreAsked more requests new) first next
asked_more (name ∷ names) more old mid new first next =
    (first.0, first.1, first.2, asked_more names more first.1 mid new first.3 next)

-- those of steps, and then of more
pub asked_then : (old mid new : List Request) (made more : List Step) → AreAsked (names_read made) old mid
    → AreAsked (names_read more) mid new → AreAsked (names_read (made ++ more)) old new
asked_then old mid new made more first next =
    subst (λ (names : List (List ℕ)). AreAsked names old new) (sym (names_read-append made more))
    (asked_more (names_read made) (names_read more) old mid new first next)

-- one alone
pub asks_alone : (old new : ShelfView) (name : List ℕ) → AsksFor old new name
    → AreAsked (name ∷ []) old.asked new.asked
asks_alone old new name asks = (old.faults, new.asked, asks, refl)

-- one first
pub asks_first : (old new : ShelfView) (name : List ℕ) → AsksFor old new name → AsksFirst old new name
asks_first old new name asks = ([], asks_alone old new name asks)

-- and then another
pub asks_more : (old mid new : ShelfView) (name other : List ℕ) → AsksFirst old mid name → AsksFor mid new other
    → AsksFirst old new name
asks_more old mid new name other first next = (
  first.0 ++ other ∷ [],
  asked_more (name ∷ first.0) (other ∷ []) old.asked mid.asked new.asked first.1
      (asks_alone mid new other next),
)

-- ---- a file that isn't read to its end
-- where its reading failed, or it is missing
pub reads_fault : {A F X : Type 0} (kind : Kind A F) (Sees : A → X → Type 0) (name : List ℕ) (old new : ShelfView)
    (answer : Result X Stop) → Took old new (asked_file kind name) (answer ≡ Err stop.ReadFault)
    → Faulted old new ⊎ Lacks old.files name → answer ≡ Err stop.ReadFault → ReadsFile kind Sees name old new answer
reads_fault kind Sees name old new answer took (inl up) is =
    let some = some_content old.files name in
    let follows : Follows Sees (Faulted old new) (read_as kind name some.0) (reads (asked_file kind name) ∷ [])
    (Err stop.ReadFault)
    = inl (up, record { before = []; file = asked_file kind name; rest = []; made_is = refl; steps_are = refl }) in
    record { content = some.0; can_be = some.1; follows = rw is follows; took = took }
reads_fault kind Sees name old new answer took (inr lacks) is =
    let follows : Follows Sees (Faulted old new) (read_as kind name None) (reads (asked_file kind name) ∷ [])
    (Err stop.ReadFault) = inr (record { all_made = refl; end_is = refl }) in
    record { content = None; can_be = none_can old.files name lacks; follows = rw is follows; took = took }

-- where memory is wanting
pub reads_wanting : {A F X : Type 0} (kind : Kind A F) (Sees : A → X → Type 0) (name : List ℕ) (old new : ShelfView)
    (answer : Result X Stop) → Took old new (asked_file kind name) (answer ≡ Err stop.ReadFault)
    → answer ≡ Err stop.Memory → ReadsFile kind Sees name old new answer
reads_wanting kind Sees name old new answer took is =
    let some = some_content old.files name in
    let follows : Follows Sees (Faulted old new) (read_as kind name some.0) (reads (asked_file kind name) ∷ [])
    (Err stop.Memory) = record { rest = []; steps_are = refl } in
    record { content = some.0; can_be = some.1; follows = rw is follows; took = took }

-- ---- one file
-- what follows a file by what stands under its name follows it by contents that have that in this place
placed : {A F X : Type 0} (kind : Kind A F) (Sees : A → X → Type 0) (name : List ℕ) (files : Option Files)
    (rose : Type 0) (at : ℕ → Option (List ℕ)) (place : ℕ) (answer : Result X Stop) → CanBe files name (at place)
    → Follows Sees rose (read_as kind name (at place)) (reads (asked_file kind name) ∷ []) answer
    → Follows Sees rose (read_as kind name (by_places files at place name)) (reads (asked_file kind name) ∷ [])
    answer
placed kind Sees name files rose at place answer can follows =
    subst (λ (o : Option (List ℕ)). Follows Sees rose (read_as kind name o) (reads (asked_file kind name) ∷ []) answer)
    (at_place files at place name can) follows

pub performs_one : {S A F X : Type 0} (kind : Kind A F) (Sees : A → X → Type 0) (name : List ℕ) (seen : S → ShelfView)
    (old new : S) (answer : Result X Stop) → ReadsFile kind Sees name (seen old) (seen new) answer
    → (bench : BenchView)
    → Performs (λ (contents : Contents). read_as kind name (contents 0 name)) Sees seen old new bench bench answer
performs_one kind Sees name seen old new answer r bench =
    let at : ℕ → Option (List ℕ) = λ place. r.content in
    record {
      contents = by_places (seen old).files at;
      are_contents = are_by_places (seen old).files at (λ place. (name, r.can_be));
      made = reads (asked_file kind name) ∷ [];
      follows =
          follows_rose Sees (Faulted (seen old) (seen new)) (RoseAtLast (seen old) (seen new))
          (read_as kind name (by_places (seen old).files at 0 name)) (reads (asked_file kind name) ∷ []) answer
          (rose_at (seen old) (seen old) (seen new) name (later_same (seen old)) r.took.asked)
          (placed kind Sees name (seen old).files (Faulted (seen old) (seen new)) at 0 answer r.can_be r.follows);
      bench = refl;
      asked = asks_alone (seen old) (seen new) name r.took.asked;
      left = r.took.left;
      later = r.took.later;
    }

-- ---- how it was left
-- a call that stops for the reason of another one fails where that does
pub same_reason : {X Z : Type 0} (reason : Stop)
    → (let r : Result X Stop = Err reason in r ≡ Err stop.ReadFault)
    → (let r : Result Z Stop = Err reason in r ≡ Err stop.ReadFault)
same_reason reason e = let same : reason ≡ stop.ReadFault = cc in ap Err same

-- whatever failing is now
pub left_so : (shelf : ShelfView) (file : Asked) (failed other : Type 0) → (failed → other) → Left shelf file failed
    → Left shelf file other
left_so shelf file failed other so left = record { takes = left.takes; is_selected = weaker left.is_selected }
  where
    weaker : failed ⊎ IsTrue shelf.selected → other ⊎ IsTrue shelf.selected
    weaker (inl e) = inl (so e)
    weaker (inr e) = inr e

pub took_so : (old new : ShelfView) (file : Asked) (failed other : Type 0) → (failed → other)
    → Took old new file failed → Took old new file other
took_so old new file failed other so took =
    record { asked = took.asked; later = took.later; left = left_so new file failed other so took.left }

pub left_behind : {S : Type 0} (seen : S → ShelfView) (old new : S) (last : Option Asked) (failed other : Type 0)
    → (failed → other) → LeftBehind seen old new last failed → LeftBehind seen old new last other
left_behind seen old new None failed other so left = left
left_behind seen old new (Some file) failed other so left = left_so (seen new) file failed other so left

-- ---- a further file
-- a course that comes to files before a place alone
abbrev pub AsksBefore : {A : Type 0} → ℕ → (Contents → Course A) → Type 0
AsksBefore place course =
    (c d : Contents) → ((at : ℕ) (name : List ℕ) → at < place → c at name ≡ d at name) → course c ≡ course d

-- one file
pub asks_one : {A F : Type 0} (kind : Kind A F) (name : List ℕ)
    → AsksBefore 1 (λ (contents : Contents). read_as kind name (contents 0 name))
asks_one kind name c d same = let first : 0 < 1 = omega arith in ap (read_as kind name) (same 0 name first)

-- the reading of a file behind a value, by the contents
abbrev pub read_behind : {A B C G : Type 0} → Kind B G → (A → B → C) → ℕ → List ℕ → Contents → A → Course C
read_behind last join place name contents a =
    and_then (read_as last name (contents place name)) (λ b. gives (join a b))

-- a file behind others
pub asks_further : {A B C G : Type 0} (first : Contents → Course A) (place : ℕ) (last : Kind B G) (join : A → B → C)
    (name : List ℕ) → AsksBefore place first
    → AsksBefore (place + 1) (λ contents. and_then (first contents) (read_behind last join place name contents))
asks_further first place last join name asks c d same =
    let before : (at : ℕ) (other : List ℕ) → at < place → c at other ≡ d at other =
    λ at other is. same at other (omega arith) in
    let here : place < place + 1 = omega arith in
    ap (λ course. and_then course (read_behind last join place name c)) (asks c d before)
    ∙ ap (λ content. and_then (first d) (λ a. and_then (read_as last name content) (λ b. gives (join a b))))
    (same place name here)

module _ {S A B C G X Y Z : Type 0} (first : Contents → Course A) (place : ℕ) (asks : AsksBefore place first)
    (last : Kind B G) (join : A → B → C) (SeesFirst : A → X → Type 0) (SeesLast : B → Y → Type 0)
    (SeesAll : C → Z → Type 0) (other : List ℕ) (seen : S → ShelfView) (bench : BenchView) where
  -- the further file by the contents, behind the first course's value
  abbrev further : Contents → A → Course C
  further = read_behind last join place other

  -- and all of them
  abbrev all_of : Contents → Course C
  all_of contents = and_then (first contents) (further contents)

  abbrev step : List Step
  step = reads (asked_file last other) ∷ []

  -- the first course stops
  pub further_first : (old new : S) (reason : Stop) → Performs first SeesFirst seen old new bench bench (Err reason)
      → Performs all_of SeesAll seen old new bench bench (Err reason)
  further_first old new reason r =
      record {
        contents = r.contents;
        are_contents = r.are_contents;
        made = r.made;
        follows =
            follows_stop SeesFirst SeesAll (RoseAtLast (seen old) (seen new)) (first r.contents) (further r.contents)
            r.made reason r.follows;
        bench = r.bench;
        asked = r.asked;
        left = left_behind seen old new (last_read None r.made) _ _ (λ e. same_reason reason e) r.left;
        later = r.later;
      }

  module _ (old mid new : S) (x : X) (r : Performs first SeesFirst seen old mid bench bench (Ok x)) where
    abbrev contents_with : Option (List ℕ) → Contents
    contents_with content = extended (seen old).files r.contents place content

    abbrev rose : Type 0
    rose = RoseAtLast (seen old) (seen new)

    can_last : (content : Option (List ℕ)) → CanBe (seen mid).files other content → CanBe (seen old).files other content
    can_last content can = subst (λ (fs : Option Files). CanBe fs other content) r.later.files can

    -- the first course leads to its value by them too
    reached : (content : Option (List ℕ)) → Reaches SeesFirst (first (contents_with content)) r.made x
    reached content =
        subst (λ (c : Course A). Reaches SeesFirst c r.made x)
        (asks r.contents (contents_with content) (extended_before (seen old).files r.contents place content)) r.follows

    -- and so does the reading of the further file
    last_follows : (answer : Result Y Stop) (s : ReadsFile last SeesLast other (seen mid) (seen new) answer)
        → Follows SeesLast rose (read_as last other (contents_with s.content place other)) step answer
    last_follows answer s =
        subst (λ (o : Option (List ℕ)). Follows SeesLast rose (read_as last other o) step answer)
        (extended_at (seen old).files r.contents place other s.content r.are_contents (can_last s.content s.can_be))
        (follows_rose SeesLast (Faulted (seen mid) (seen new)) rose (read_as last other s.content) step answer
        (rose_at (seen old) (seen mid) (seen new) other r.later s.took.asked) s.follows)

    -- what is answered behind both
    further_behind : (answer : Result Y Stop) (joined : Result Z Stop)
        (s : ReadsFile last SeesLast other (seen mid) (seen new) answer)
        → (answer ≡ Err stop.ReadFault → joined ≡ Err stop.ReadFault)
        → Follows SeesAll rose (further (contents_with s.content) (reached s.content).value) step joined
        → Performs all_of SeesAll seen old new bench bench joined
    further_behind answer joined s fails follows =
        let contents = contents_with s.content in
        record {
          contents = contents;
          are_contents = are_extended (seen old).files r.contents place other s.content r.are_contents
              (can_last s.content s.can_be);
          made = r.made ++ step;
          follows =
              follows_then SeesFirst SeesAll (first contents) (further contents) r.made x (reached s.content) rose step
              joined follows;
          bench = r.bench ∙ sym (after_steps-append r.made step bench);
          asked =
              asked_then (seen old).asked (seen mid).asked (seen new).asked r.made step r.asked
              (asks_alone (seen mid) (seen new) other s.took.asked);
          left =
              subst (λ (l : Option Asked). LeftBehind seen old new l (joined ≡ Err stop.ReadFault))
              (sym (last_read-append None r.made step))
              (left_so (seen new) (asked_file last other) _ _ fails s.took.left);
          later = later_then (seen old) (seen mid) (seen new) r.later s.took.later;
        }

    -- the further file isn't read
    pub further_last : (reason : Stop) → ReadsFile last SeesLast other (seen mid) (seen new) (Err reason)
        → Performs all_of SeesAll seen old new bench bench (Err reason)
    further_last reason s =
        further_behind (Err reason) (Err reason) s (λ e. same_reason reason e)
        (follows_stop SeesLast SeesAll rose (read_as last other (contents_with s.content place other))
        (λ b. gives (join (reached s.content).value b)) step reason (last_follows (Err reason) s))

    -- all are read
    pub further_all : (y : Y) (z : Z) → ((a : A) (b : B) → SeesFirst a x → SeesLast b y → SeesAll (join a b) z)
        → ReadsFile last SeesLast other (seen mid) (seen new) (Ok y)
        → Performs all_of SeesAll seen old new bench bench (Ok z)
    further_all y z sees s =
        let early = reached s.content in
        let late : Reaches SeesLast (read_as last other (contents_with s.content place other)) step y =
        last_follows (Ok y) s in
        further_behind (Ok y) (Ok z) s (λ e. absurd cc)
        (follows_then SeesLast SeesAll (read_as last other (contents_with s.content place other))
        (λ b. gives (join early.value b)) step y late rose [] (Ok z)
        (record {
          all_made = refl;
          value = join early.value late.value;
          end_is = refl;
          sees = sees early.value late.value early.sees late.sees;
        }))

-- ---- two files
module _ {S A B C F G X Y Z : Type 0} (first : Kind A F) (last : Kind B G) (join : A → B → C)
    (SeesFirst : A → X → Type 0) (SeesLast : B → Y → Type 0) (SeesBoth : C → Z → Type 0)
    (name other : List ℕ) (seen : S → ShelfView) (bench : BenchView) where
  -- the reading of the first by the contents
  abbrev first_of : Contents → Course A
  first_of contents = read_as first name (contents 0 name)

  -- and of both
  abbrev both_of : Contents → Course C
  both_of contents = and_then (first_of contents) (read_behind last join 1 other contents)

  -- the first isn't read
  pub performs_first : (old new : S) (reason : Stop)
      → ReadsFile first SeesFirst name (seen old) (seen new) (Err reason)
      → Performs both_of SeesBoth seen old new bench bench (Err reason)
  performs_first old new reason r =
      further_first first_of 1 (asks_one first name) last join SeesFirst SeesLast SeesBoth other seen bench old new
      reason (performs_one first SeesFirst name seen old new (Err reason) r bench)

  module _ (old mid new : S) (x : X) (r : ReadsFile first SeesFirst name (seen old) (seen mid) (Ok x)) where
    performs_ok : Performs first_of SeesFirst seen old mid bench bench (Ok x)
    performs_ok = performs_one first SeesFirst name seen old mid (Ok x) r bench

    -- the first is read, and the second isn't
    pub performs_last : (reason : Stop) → ReadsFile last SeesLast other (seen mid) (seen new) (Err reason)
        → Performs both_of SeesBoth seen old new bench bench (Err reason)
    performs_last =
        further_last first_of 1 (asks_one first name) last join SeesFirst SeesLast SeesBoth other seen bench old mid new
        x performs_ok

    -- both are read
    pub performs_both : (y : Y) (z : Z) → ((a : A) (b : B) → SeesFirst a x → SeesLast b y → SeesBoth (join a b) z)
        → ReadsFile last SeesLast other (seen mid) (seen new) (Ok y)
        → Performs both_of SeesBoth seen old new bench bench (Ok z)
    performs_both =
        further_all first_of 1 (asks_one first name) last join SeesFirst SeesLast SeesBoth other seen bench old mid new
        x performs_ok

-- ---- what is selected
-- behind a file that was read, it is selected
pub selected_ok : {X E : Type 0} (x : X) (e : E) (failed : Type 0) (selected : Bool)
    → (let r : Result X E = Ok x in r ≡ Err e) ⊎ IsTrue selected → failed ⊎ IsTrue selected
selected_ok x e failed selected (inl is) = absurd cc
selected_ok x e failed selected (inr is) = inr is

-- and behind one that wasn't for another reason
pub selected_err : {X E : Type 0} (d e : E) (failed : Type 0) (selected : Bool) → (d ≡ e → ⊥)
    → (let r : Result X E = Err d in r ≡ Err e) ⊎ IsTrue selected → failed ⊎ IsTrue selected
selected_err d e failed selected other (inl is) = absurd (other cc)
selected_err d e failed selected other (inr is) = inr is
