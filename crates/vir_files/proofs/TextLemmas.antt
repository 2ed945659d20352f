-- What is answered of a file whose text is read whole and then judged.
use Rattle.std.proofs.Common.{Option}
use Rattle.std.proofs.Common.{◌≡◌, ℕ, ◌<◌, ◌≤◌, Bool, true, false, List, [], ◌∷◌, length, None, Some}
use Rattle.std.proofs.Common.{Result, Ok, Err, nat_lt, refl, sym, ap, subst, arith, if◌then◌else◌}
use Rattle.std.specs.declared.alloc.Global.{Global}
use Rattle.std.specs.declared.vec.Vec.{Vec}
use Rattle.std.proofs.lemmas.Bool.Decides.{nat_tests}
use Rattle.vir_course.specs.Courses.{Course, Follows, and_then, go_on}
use Rattle.vir_course.specs.Steps.{Step, reads}
use Rattle.vir_course.specs.declared.stop.Stop.{Stop}
use Rattle.vir_course.specs.declared.stop.Stop.TheVariants as stop
use Rattle.vir_course.proofs.CourseLemmas.{follows_stop, follows_then}
use Rattle.vir_files.specs.Files.{Kind, accept, asked_file, read_as}
use Rattle.vir_files.specs.Judges.{Judges, texts}
use Rattle.vir_files.specs.Performs.{ReadsFile, Took}
use Rattle.vir_files.specs.Values.{SeesText}
use Rattle.vir_files.proofs.ContentLemmas.{content_can, longer_can}
use Rattle.vir_files.proofs.PerformLemmas.{same_reason, took_so}
use Rattle.vir_outside.specs.Shelf.{Faulted, IsContent, IsLonger, ShelfView}
use Rattle.vir_read.specs.Faults.{fault}
use Rattle.vir_read.specs.declared.text_fault.TextFault.{TextFault}
use Rattle.vir_read.specs.declared.text_fault.TextKind.TheVariants.{TextTooLong}

-- a value of the code is seen as this
abbrev pub SeesAs : {A X : Type 0} → (X → A) → A → X → Type 0
SeesAs seen a x = a ≡ seen x

-- why a call stops at a fault of a text
abbrev pub refused : TextFault → Stop
refused f = stop.TextRefused f

above : (limit n : ℕ) → limit < n → nat_lt limit n ≡ true
above limit n is = grind (arith, nat_tests)

not_above : (limit n : ℕ) → n ≤ limit → nat_lt limit n ≡ false
not_above limit n is = grind (arith, nat_tests)

-- ---- the text
module _ (limit : ℕ) (name : List ℕ) (old new : ShelfView) where
  -- what it says, by whether it is too long
  abbrev says_by : List ℕ → Bool → Result (List ℕ) Stop
  says_by bytes b = accept refused (if b then Err (fault TextTooLong limit) else Ok bytes)

  -- it was read whole
  pub reads_text : (text : Vec ℕ Global) (answer : Result (Vec ℕ Global) Stop)
      → Took old new (asked_file (texts limit) name) (answer ≡ Err stop.ReadFault)
      → IsContent old.files name text.items → length text.items ≤ limit → answer ≡ Ok text
      → ReadsFile (texts limit) SeesText name old new answer
  reads_text text answer took content within is =
      let follows : Follows SeesText (Faulted old new) (read_as (texts limit) name (Some text.items))
      (reads (asked_file (texts limit) name) ∷ []) (Ok text) =
      record {
        all_made = refl;
        value = text.items;
        end_is = ap (says_by text.items) (not_above limit (length text.items) within);
        sees = refl;
      } in
      record {
        content = Some text.items;
        can_be = content_can old.files name text.items content;
        follows = rw is follows;
        took = took;
      }

  -- it is longer
  pub reads_too_long : (answer : Result (Vec ℕ Global) Stop)
      → Took old new (asked_file (texts limit) name) (answer ≡ Err stop.ReadFault)
      → IsLonger old.files name limit → answer ≡ Err (refused (fault TextTooLong limit))
      → ReadsFile (texts limit) SeesText name old new answer
  reads_too_long answer took longer is =
      let (bytes, long, can) = longer_can old.files name limit longer in
      let follows : Follows SeesText (Faulted old new) (read_as (texts limit) name (Some bytes))
      (reads (asked_file (texts limit) name) ∷ []) (Err (refused (fault TextTooLong limit))) =
      record { all_made = refl; end_is = ap (says_by bytes) (above limit (length bytes) long) } in
      record { content = Some bytes; can_be = can; follows = rw is follows; took = took }

-- ---- what is judged of it
module _ {A X : Type 0} (limit : ℕ) (says : List ℕ → Result A TextFault) (seen : X → A)
    (too_long : (bytes : List ℕ) → nat_lt limit (length bytes) ≡ true → says bytes ≡ Err (fault TextTooLong limit))
    (name : List ℕ) (old new : ShelfView) where
  abbrev rose : Type 0
  rose = Faulted old new

  -- files whose texts say this
  abbrev kind : Kind A TextFault
  kind = record { limit = limit; says = says; refused = λ f. stop.TextRefused f }

  abbrev made : List Step
  made = reads (asked_file kind name) ∷ []

  -- the course of a text that is read
  abbrev judged : List ℕ → Course A
  judged bytes = record { steps = []; end = accept refused (says bytes) }

  -- what is judged of it follows that
  judged_follows : (bytes : List ℕ) (answer : Result X Stop) → Judges seen (says bytes) answer
      → Follows (SeesAs seen) rose (judged bytes) [] answer
  judged_follows bytes (Ok x) j =
      record { all_made = refl; value = seen x; end_is = ap (accept refused) j; sees = refl }
  judged_follows bytes (Err stop.Usage) j = absurd j
  judged_follows bytes (Err stop.ReadFault) j = absurd j
  judged_follows bytes (Err (stop.TextRefused f)) j = record { all_made = refl; end_is = ap (accept refused) j }
  judged_follows bytes (Err (stop.ProfileRefused f)) j = absurd j
  judged_follows bytes (Err stop.WriteFault) j = absurd j
  judged_follows bytes (Err stop.Memory) j = record { rest = []; steps_are = refl }
  judged_follows bytes (Err (stop.NoCounter text)) j = absurd j

  -- a file is read where its text is, and that is judged
  by_text : (bytes : List ℕ) (b : Bool) → nat_lt limit (length bytes) ≡ b
      → go_on made (accept refused (if b then Err (fault TextTooLong limit) else Ok bytes)) judged
      ≡ read_as kind name (Some bytes)
  by_text bytes true long =
      ap (λ (r : Result A TextFault). let c : Course A = record { steps = made; end = accept refused r } in c)
      (sym (too_long bytes long))
  by_text bytes false short = refl

  by_content : (content : Option (List ℕ)) → and_then (read_as (texts limit) name content) judged
      ≡ read_as kind name content
  by_content None = refl
  by_content (Some bytes) = by_text bytes (nat_lt limit (length bytes)) refl

  -- its text isn't read
  pub reads_stopped : (reason : Stop) → ReadsFile (texts limit) SeesText name old new (Err reason)
      → ReadsFile kind (SeesAs seen) name old new (Err reason)
  reads_stopped reason r =
      record {
        content = r.content;
        can_be = r.can_be;
        follows =
            subst (λ (c : Course A). Follows (SeesAs seen) rose c made (Err reason)) (by_content r.content)
            (follows_stop SeesText (SeesAs seen) rose (read_as (texts limit) name r.content) judged made reason
            r.follows);
        took = took_so old new (asked_file kind name) _ _ (λ e. same_reason reason e) r.took;
      }

  -- it is read, and judged
  pub reads_judged : (text : Vec ℕ Global) (answer : Result X Stop)
      → ReadsFile (texts limit) SeesText name old new (Ok text) → Judges seen (says text.items) answer
      → ReadsFile kind (SeesAs seen) name old new answer
  reads_judged text answer r j =
      let judges : Judges seen (says r.follows.value) answer =
      subst (λ (bytes : List ℕ). Judges seen (says bytes) answer) (sym r.follows.sees) j in
      record {
        content = r.content;
        can_be = r.can_be;
        follows =
            subst (λ (c : Course A). Follows (SeesAs seen) rose c made answer) (by_content r.content)
            (follows_then SeesText (SeesAs seen) (read_as (texts limit) name r.content) judged made text r.follows rose
            [] answer (judged_follows r.follows.value answer judges));
        took = took_so old new (asked_file kind name) _ _ (λ e. absurd cc) r.took;
      }
