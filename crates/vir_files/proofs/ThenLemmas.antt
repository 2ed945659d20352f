-- One performance behind another, each of files at its own places.
use Rattle.std.proofs.Common.{◌≡◌, ◌⊎◌, ℕ, ◌<◌, ◌≤◌, true, false, Bool, List, [], ◌∷◌, ◌++◌, nat_lt, Option, None, Some}
use Rattle.std.proofs.Common.{Result, Ok, Err, if◌then◌else◌, refl, sym, ap, subst, ◌∙◌, inl, inr, arith}
use Rattle.std.proofs.Common.{append-nil}
use Rattle.std.proofs.lemmas.Bool.Decides.{nat_tests}
use Rattle.vir_course.specs.Courses.{Course, Follows, Reaches, and_then, gives, go_on}
use Rattle.vir_course.specs.Steps.{Asked, Step, after_steps, last_read, makes, reads}
use Rattle.vir_course.specs.declared.stop.Stop.{Stop}
use Rattle.vir_course.specs.declared.stop.Stop.TheVariants as stop
use Rattle.vir_course.proofs.CourseLemmas.{follows_rose, follows_stop, follows_then}
use Rattle.vir_course.proofs.StepLemmas.{after_steps-append, last_read-append}
use Rattle.vir_files.specs.Contents.{AreContents, CanBe, Contents}
use Rattle.vir_files.specs.Performs.{Left, LeftBehind, Performs, ReadsFile, RoseAtLast}
use Rattle.vir_files.specs.Files.{Kind, read_as}
use Rattle.vir_files.proofs.PerformLemmas.{asked_then, later_then, left_behind, left_so, performs_one}
use Rattle.vir_files.proofs.PerformLemmas.{rose_since, same_reason}
use Rattle.vir_machine.specs.Runs.{BenchView}
use Rattle.vir_outside.specs.Shelf.{Files, ShelfView}

-- ---- joined contents
-- the one contents at the places below a number, and the other ones from it on
pub joined : ℕ → Contents → Contents → Contents
joined n below from = λ place name. if nat_lt place n then below place name else from place name

is_below : (place n : ℕ) → place < n → nat_lt place n ≡ true
is_below place n is = grind (arith, nat_tests)

is_from : (place n : ℕ) → n ≤ place → nat_lt place n ≡ false
is_from place n is = grind (arith, nat_tests)

joined_below : (n : ℕ) (below from : Contents) (place : ℕ) → place < n → below place ≡ joined n below from place
unfolding joined
joined_below n below from place is =
    ap (λ b. (λ (name : List ℕ). if b then below place name else from place name)) (sym (is_below place n is))

joined_from : (n : ℕ) (below from : Contents) (place : ℕ) → n ≤ place → from place ≡ joined n below from place
unfolding joined
joined_from n below from place is =
    ap (λ b. (λ (name : List ℕ). if b then below place name else from place name)) (sym (is_from place n is))

are_joined : (files : Option Files) (n : ℕ) (below from : Contents) → AreContents files below → AreContents files from
    → AreContents files (joined n below from)
unfolding joined
are_joined files n below from are_below are_from = λ place name. by (nat_lt place n) place name
  where
    by : (b : Bool) (place : ℕ) (name : List ℕ) → CanBe files name (if b then below place name else from place name)
    by true place name = are_below place name
    by false place name = are_from place name

-- A course goes by the contents at the places below a number; or by those from it on.
abbrev pub IsBelow : {A : Type 0} → ℕ → (Contents → Course A) → Type 0
IsBelow n course = (c d : Contents) → ((place : ℕ) → place < n → c place ≡ d place) → course c ≡ course d

abbrev pub IsFrom : {A : Type 0} → ℕ → (Contents → Course A) → Type 0
IsFrom n course = (c d : Contents) → ((place : ℕ) → n ≤ place → c place ≡ d place) → course c ≡ course d

-- ---- the file that is read last
-- behind a file, it is some file
last_some : (file : Asked) (steps : List Step) → (last : Asked) × (last_read (Some file) steps ≡ Some last)
last_some file [] = (file, refl)
last_some file (reads next ∷ rest) = last_some next rest
last_some file (makes run ∷ rest) = last_some file rest

-- Steps read no file, and so it is the one before; or they read some, and it is one of theirs.
abbrev IsLast : Option Asked → List Step → Option Asked → Type 0
IsLast before steps after = ((last_read None steps ≡ None) × (after ≡ before))
    ⊎ ((last : Asked) × (last_read None steps ≡ Some last) × (after ≡ Some last))

last_of : (before : Option Asked) (steps : List Step) → IsLast before steps (last_read before steps)
last_of before [] = inl (refl, refl)
last_of before (reads file ∷ rest) = let some = last_some file rest in inr (some.0, some.1, some.1)
last_of before (makes run ∷ rest) = last_of before rest

-- ---- one behind the other
module _ {S A B X Y : Type 0} (n : ℕ) (first : Contents → Course A) (next : A → Contents → Course B)
    (Sees : A → X → Type 0) (SeesNext : B → Y → Type 0) (is_below_n : IsBelow n first)
    (is_from_n : (a : A) → IsFrom n (next a)) (seen : S → ShelfView) (before middle after : S)
    (old mid new : BenchView) (x : X) (answer : Result Y Stop) where
  abbrev failed : Type 0
  failed = answer ≡ Err stop.ReadFault

  abbrev rose : Type 0
  rose = RoseAtLast (seen before) (seen after)

  -- the second leaves the shelf as the first did
  stay_left : (last : Option Asked) → after ≡ middle
      → LeftBehind seen before middle last (Ok x ≡ Err stop.ReadFault) → LeftBehind seen before after last failed
  stay_left None is left = is ∙ left
  stay_left (Some file) is left =
      left_so (seen after) file (Ok x ≡ Err stop.ReadFault) failed (λ e. absurd cc)
      (subst (λ (s : S). Left (seen s) file (Ok x ≡ Err stop.ReadFault)) (sym is) left)

  left_by : (early late : Option Asked) (made : List Step) → IsLast early made late
      → LeftBehind seen before middle early (Ok x ≡ Err stop.ReadFault)
      → LeftBehind seen middle after (last_read None made) failed → LeftBehind seen before after late failed
  left_by early late made (inl (none, is)) first_left next_left =
      let stay : after ≡ middle =
      subst (λ (o : Option Asked). LeftBehind seen middle after o failed) none next_left in
      subst (λ (o : Option Asked). LeftBehind seen before after o failed) (sym is) (stay_left early stay first_left)
  left_by early late made (inr (last, some, is)) first_left next_left =
      let there : Left (seen after) last failed =
      subst (λ (o : Option Asked). LeftBehind seen middle after o failed) some next_left in
      subst (λ (o : Option Asked). LeftBehind seen before after o failed) (sym is) there

  pub performs_then : Performs first Sees seen before middle old mid (Ok x)
      → ((a : A) → Sees a x → Performs (next a) SeesNext seen middle after mid new answer)
      → Performs (λ contents. and_then (first contents) (λ a. next a contents)) SeesNext seen before after old new
      answer
  performs_then r nexts =
      let value = r.follows.value in
      let p = nexts value r.follows.sees in
      let contents = joined n r.contents p.contents in
      let one : first r.contents ≡ first contents = is_below_n r.contents contents
      (joined_below n r.contents p.contents) in
      let two : next value p.contents ≡ next value contents = is_from_n value p.contents contents
      (joined_from n r.contents p.contents) in
      let reached : Reaches Sees (first contents) r.made x =
      record {
        all_made = r.follows.all_made ∙ ap (λ (c : Course A). c.steps) one;
        value = value;
        end_is = sym (ap (λ (c : Course A). c.end) one) ∙ r.follows.end_is;
        sees = r.follows.sees;
      } in
      let last : Follows SeesNext rose (next value contents) p.made answer =
      subst (λ (c : Course B). Follows SeesNext rose c p.made answer) two
      (follows_rose SeesNext (RoseAtLast (seen middle) (seen after)) rose (next value p.contents) p.made answer
      (rose_since (seen before) (seen middle) (seen after) r.later) p.follows) in
      record {
        contents = contents;
        are_contents = are_joined (seen before).files n r.contents p.contents r.are_contents
            (subst (λ (fs : Option Files). AreContents fs p.contents) r.later.files p.are_contents);
        made = r.made ++ p.made;
        follows = follows_then Sees SeesNext (first contents) (λ a. next a contents) r.made x reached rose p.made answer
            last;
        bench = p.bench ∙ ap (after_steps p.made) r.bench ∙ sym (after_steps-append r.made p.made old);
        asked = asked_then (seen before).asked (seen middle).asked (seen after).asked r.made p.made r.asked p.asked;
        left =
            left_by (last_read None r.made) (last_read None (r.made ++ p.made)) p.made
            (subst (λ (o : Option Asked). IsLast (last_read None r.made) p.made o)
            (sym (last_read-append None r.made p.made)) (last_of (last_read None r.made) p.made)) r.left p.left;
        later = later_then (seen before) (seen middle) (seen after) r.later p.later;
      }

module _ {S A B X Y : Type 0} (first : Contents → Course A) (Sees : A → X → Type 0) (SeesNext : B → Y → Type 0)
    (seen : S → ShelfView) (before after : S) (old new : BenchView) where
  -- ---- where the first stops
  pub performs_stops : (next : Contents → A → Course B) (reason : Stop)
      → Performs first Sees seen before after old new (Err reason)
      → Performs (λ contents. and_then (first contents) (next contents)) SeesNext seen before after old new
      (Err reason)
  performs_stops next reason r =
      record {
        contents = r.contents;
        are_contents = r.are_contents;
        made = r.made;
        follows =
            follows_stop Sees SeesNext (RoseAtLast (seen before) (seen after)) (first r.contents) (next r.contents)
            r.made reason r.follows;
        bench = r.bench;
        asked = r.asked;
        left = left_behind seen before after (last_read None r.made) _ _ (λ e. same_reason reason e) r.left;
        later = r.later;
      }

  -- ---- what is made of the value that the first leads to
  module _ (make : A → B) (x : X) where
    abbrev made_of : Contents → Course B
    made_of contents = and_then (first contents) (λ a. gives (make a))

    module _ (r : Performs first Sees seen before after old new (Ok x)) where
      whole : made_of r.contents ≡ record { steps = r.made ++ []; end = Ok (make r.follows.value) }
      whole = ap (λ e. go_on (first r.contents).steps e (λ a. gives (make a))) r.follows.end_is
          ∙ ap (λ steps. let c : Course B = record { steps = steps ++ []; end = Ok (make r.follows.value) } in c)
          (sym r.follows.all_made)

      -- it is seen
      pub performs_makes : (y : Y) → ((a : A) → Sees a x → SeesNext (make a) y)
          → Performs made_of SeesNext seen before after old new (Ok y)
      performs_makes y sees =
          record {
            contents = r.contents;
            are_contents = r.are_contents;
            made = r.made;
            follows =
                record {
                  all_made = sym (append-nil r.made) ∙ sym (ap (λ (c : Course B). c.steps) whole);
                  value = make r.follows.value;
                  end_is = ap (λ (c : Course B). c.end) whole;
                  sees = sees r.follows.value r.follows.sees;
                };
            bench = r.bench;
            asked = r.asked;
            left = left_behind seen before after (last_read None r.made) _ _ (λ e. absurd cc) r.left;
            later = r.later;
          }

      -- memory is wanting for it
      pub performs_wanting : Performs made_of SeesNext seen before after old new (Err stop.Memory)
      performs_wanting =
          record {
            contents = r.contents;
            are_contents = r.are_contents;
            made = r.made;
            follows = record { rest = []; steps_are = ap (λ (c : Course B). c.steps) whole };
            bench = r.bench;
            asked = r.asked;
            left = left_behind seen before after (last_read None r.made) _ _ (λ e. absurd cc) r.left;
            later = r.later;
          }

-- ---- one performance
-- a file, asked for at any place
pub performs_at : {S A F X : Type 0} (kind : Kind A F) (Sees : A → X → Type 0) (name : List ℕ) (seen : S → ShelfView)
    (before after : S) (answer : Result X Stop) (place : ℕ) (bench : BenchView)
    → ReadsFile kind Sees name (seen before) (seen after) answer
    → Performs (λ (contents : Contents). read_as kind name (contents place name)) Sees seen before after bench bench
    answer
performs_at kind Sees name seen before after answer place bench r =
    let p = performs_one kind Sees name seen before after answer r bench in
    record {
      contents = λ at other. p.contents 0 other;
      are_contents = λ at other. p.are_contents 0 other;
      made = p.made;
      follows = p.follows;
      bench = p.bench;
      asked = p.asked;
      left = p.left;
      later = p.later;
    }
