-- How the bytes fed so far and what is left of a file make up what there was.
use Rattle.std.proofs.Common.{◌≡◌, ℕ, ◌+◌, ◌≤◌, true, false, cond, List, [], ◌++◌, length, take, nat_le}
use Rattle.std.proofs.Common.{Option, None, Some, Result, Ok, Err, IfSome, IsTrue, refl, sym, ap}
use Rattle.std.proofs.Common.{◌∙◌, arith, inl, IsSome, append-nil, length-append, length-take, subst}
use Rattle.std.specs.Io.KnownBytes.{Consumes, IsAtEnd, Keeps, prepend_known}
use Rattle.std.proofs.lemmas.Bool.Decides.{nat_tests}
use Rattle.vir_outside.specs.Shelf.{Faulted, Files, IsLater, Selects, ShelfView, before_reads, told_content}
use Rattle.vir_outside.proofs.Rests.{consumes_more}
use Rattle.vir_profile.specs.SocFiles.{File}
use Rattle.vir_soc.specs.declared.fault.SocFault.{SocFault}
use Rattle.vir_soc.specs.declared.soc_reader.SocReader.{SocReader}
use Rattle.vir_soc.specs.declared.fault.SocError.{SocError}
use Rattle.vir_soc.specs.declared.fault.SocError.TheVariants.{Fault, Memory}
use Rattle.vir_soc.specs.Reader.Answers.{Shows}
use Rattle.vir_soc.specs.Checks.{◌>>=◌, fault_of}
use Rattle.vir_soc.specs.Content.{Content}
use Rattle.vir_soc.specs.Soc.{ended_content, settled, too_long}
use Rattle.vir_soc.specs.declared.soc_reader.TheConstants.{PROFILE_SIZE_LIMIT}
use Rattle.vir_soc.specs.Reader.Stands.{stands}
use Rattle.vir_soc.proofs.FeedLemmas.{settled_is, standing_start}
use Rattle.vir_soc.proofs.StandLemmas.{fault_stays}
use Rattle.vir_course.specs.declared.stop.Stop.{Stop}
use Rattle.vir_course.specs.declared.stop.Stop.TheVariants as stop
use Rattle.vir_files.specs.Contents.{CanBe}
use Rattle.vir_files.specs.Feeding.{AnswersRest, Finishes, RestSays, StandsForRest, StopsAtFault, TakesPieces}
use Rattle.vir_files.specs.Feeding.{stop_of}
use Rattle.vir_files.specs.Files.{accept, asked_file, profiles}
use Rattle.vir_files.specs.Performs.{ReadsFile, Took}
use Rattle.vir_files.proofs.ContentLemmas.{some_content}
use Rattle.vir_files.proofs.PerformLemmas.{faulted_behind}

-- A loop has fed so many bytes of what was left of the selected file to a reader.
pub record IsFeeding (old now : ShelfView) (taken : ℕ) (reader : SocReader) : Type 0 where
  pub reads_on : before_reads now.asked ≡ before_reads old.asked
  pub is_selected : IsTrue now.selected
  pub within : taken ≤ PROFILE_SIZE_LIMIT
  pub later : IsLater old now
  pub fed : List ℕ
  pub stands_for : reader ≡ stands fed
  pub settles_nothing : settled fed ≡ None
  pub long : taken ≡ length fed
  pub parts : Consumes old.rest now.rest fed

-- a fault that the bytes fed settle is that of the rest
pub fault_of_rest : (rest left : Option (List ℕ)) (fed : List ℕ) (fault : SocFault) → Consumes rest left fed
    → settled fed ≡ Some fault → RestSays rest (Err fault)
fault_of_rest None left fed fault parts shown =
    record { bytes = fed ++ []; told = tt; is_said = fault_stays fed [] fault shown }
fault_of_rest (Some xs) None fed fault parts shown = absurd parts
fault_of_rest (Some xs) (Some ys) fed fault parts shown =
    record { bytes = fed ++ ys; told = parts; is_said = fault_stays fed ys fault shown }

-- no byte settles a fault
pub settled-nothing : settled [] ≡ None
settled-nothing = settled_is [] ∙ ap fault_of standing_start

-- ---- what is taken of the rest
-- what is taken of the selected file is the front of what stands under its name
pub told_taken : (files : Option Files) (name : List ℕ) (rest left : Option (List ℕ)) (bytes : List ℕ)
    → Selects files name rest → Consumes rest left bytes → IsSome files
    → told_content files name ≡ prepend_known bytes left
told_taken files name None left bytes selects taken told = absurd (let known = (selects told).0 in cc)
told_taken files name (Some xs) None bytes selects taken told = absurd taken
told_taken files name (Some xs) (Some ys) bytes selects taken told = (selects told).1 ∙ ap Some taken

-- and so it stops at the first fault
pub stops_taken : (old new : ShelfView) (rest : Option (List ℕ)) (name : List ℕ) → IsLater old new
    → Selects old.files name rest → TakesPieces rest new.rest → StopsAtFault new name
stops_taken old new rest name later selects t =
    subst (λ (files : Option Files). IsSome files → IsTrue new.selected → (front : List ℕ) × (piece : List ℕ)
    × (settled front ≡ None) × (length piece ≤ 8192)
    × (told_content files name ≡ prepend_known (front ++ piece) new.rest)) (sym later.files)
    (λ told is_selected. (
      t.front,
      t.piece,
      t.settles_nothing,
      t.is_piece,
      told_taken old.files name rest new.rest (t.front ++ t.piece) selects t.taken told,
    ))

-- ---- a read that gives none
-- one that fails keeps what is left
pub still_taken : (rest left new : Option (List ℕ)) (fed : List ℕ) → Consumes rest left fed → Keeps left new
    → Consumes rest new fed
still_taken None left new fed taken keeps = tt
still_taken (Some xs) None new fed taken keeps = absurd taken
still_taken (Some xs) (Some ys) None fed taken keeps = absurd keeps
still_taken (Some xs) (Some ys) (Some zs) fed taken keeps = taken ∙ ap (λ (ws : List ℕ). fed ++ ws) (sym keeps)

-- and so does one at the end
pub none_taken : (rest left new : Option (List ℕ)) (fed buf : List ℕ) (n : ℕ) → n ≡ 0 → Consumes rest left fed
    → Consumes left new (take n buf) → Consumes rest new fed
none_taken rest left new fed buf n none first second =
    subst (λ (ws : List ℕ). Consumes rest new ws) (ap (λ (k : ℕ). fed ++ take k buf) none ∙ append-nil fed)
    (consumes_more rest left new fed (take n buf) first second)

-- where nothing is left, all was taken
pub all_taken : (rest left : Option (List ℕ)) (fed : List ℕ) → Consumes rest left fed → IsAtEnd left
    → IfSome rest (λ all. all ≡ fed)
all_taken None left fed taken ends = tt
all_taken (Some xs) None fed taken ends = absurd taken
all_taken (Some xs) (Some ys) fed taken ends = taken ∙ ap (λ (ws : List ℕ). fed ++ ws) ends ∙ append-nil fed

-- nothing is taken at the front
pub starts_taken : (rest : Option (List ℕ)) → Consumes rest rest []
starts_taken None = tt
starts_taken (Some xs) = refl

-- ---- what is taken in pieces
-- nothing is, behind what was fed
pub takes_fed : (rest left : Option (List ℕ)) (fed : List ℕ) → settled fed ≡ None
    → length fed ≤ PROFILE_SIZE_LIMIT → Consumes rest left fed → TakesPieces rest left
takes_fed rest left fed settles_nothing within taken =
    let whole : fed ++ [] ≡ fed = append-nil fed in
    let size : length (fed ++ []) ≤ PROFILE_SIZE_LIMIT = rw whole within in
    record {
      front = fed;
      piece = [];
      settles_nothing = settles_nothing;
      is_piece = omega arith;
      within = omega arith;
      taken = rw whole taken;
    }

-- and one more piece is, of at most so many bytes that the limit allows one more
pub takes_piece : (rest left new : Option (List ℕ)) (fed buf : List ℕ) (n : ℕ) → settled fed ≡ None
    → length fed ≤ PROFILE_SIZE_LIMIT → length buf ≤ 8192 → length fed + length buf ≤ PROFILE_SIZE_LIMIT + 1
    → Consumes rest left fed → Consumes left new (take n buf) → TakesPieces rest new
takes_piece rest left new fed buf n settles_nothing within is_piece room first second =
    record {
      front = fed;
      piece = take n buf;
      settles_nothing = settles_nothing;
      is_piece = omega (arith, length-take n buf);
      within = omega (arith, length-append fed (take n buf), length-take n buf);
      taken = consumes_more rest left new fed (take n buf) first second;
    }

never_none : (A : Type 0) (content : Result Content SocFault) (f : SocFault) → fault_of {A = A} {E = SocFault}
    (content >>= λ _. Err f) ≡ None → ⊥
never_none A (Ok s) f none = cc
never_none A (Err g) f none = cc

-- bytes that settle no fault are within the size limit
pub settled-within : (bytes : List ℕ) → settled bytes ≡ None → length bytes ≤ PROFILE_SIZE_LIMIT
settled-within bytes none = elim (nat_le (length bytes) PROFILE_SIZE_LIMIT) as
    (λ b. nat_le (length bytes) PROFILE_SIZE_LIMIT ≡ b
    → length bytes ≤ PROFILE_SIZE_LIMIT) [
      | true ↦ λ e. grind (arith, nat_tests)
      | false ↦ λ e. absurd (never_none Content (ended_content (take PROFILE_SIZE_LIMIT bytes)) _
          (ap (λ b. fault_of (cond b (ended_content bytes) (too_long (take PROFILE_SIZE_LIMIT bytes)))) (sym e) ∙ none))
    ] refl

-- the fault that a reader shows at a piece is that of the rest
pub shown_of_rest : (rest left new : Option (List ℕ)) (fed piece : List ℕ) (rose : Type 0) (error : SocError)
    → Consumes rest left fed → Consumes left new piece
    → Shows error (settled (fed ++ piece)) → AnswersRest rest rose (Err (stop_of error))
shown_of_rest rest left new fed piece rose (Fault fault) first second shown = fault_of_rest rest new (fed ++ piece)
    fault (consumes_more rest left new fed piece first second) shown
shown_of_rest rest left new fed piece rose Memory first second shown = tt

-- how many bytes were fed with it
pub length-piece : (fed buf : List ℕ) (n : ℕ) → n ≤ length buf → length (fed ++ take n buf) ≡ length fed + n
length-piece fed buf n within = omega (arith, length-append fed (take n buf), length-take n buf)

-- what a reader answers that was fed the rest is what that says
pub finishes_rest : (reader : SocReader) (rest : Option (List ℕ)) (rose : Type 0) (answer : Result File Stop)
    → StandsForRest reader rest → ((bytes : List ℕ) → reader ≡ stands bytes → Finishes bytes answer)
    → AnswersRest rest rose answer
finishes_rest reader rest rose answer fed finishes = by answer (finishes fed.bytes fed.stands_for)
  where
    by : (a : Result File Stop) → Finishes fed.bytes a → AnswersRest rest rose a
    by (Ok file) f = record { bytes = fed.bytes; told = fed.told; is_said = f }
    by (Err stop.Usage) f = f
    by (Err stop.ReadFault) f = absurd f
    by (Err (stop.TextRefused fault)) f = f
    by (Err (stop.ProfileRefused fault)) f = record { bytes = fed.bytes; told = fed.told; is_said = f }
    by (Err stop.WriteFault) f = f
    by (Err stop.Memory) f = tt
    by (Err (stop.NoCounter text)) f = f

-- the rest of a file that was selected can stand under its name
rest_can : (files : Option Files) (name : List ℕ) (rest : Option (List ℕ)) (bytes : List ℕ) → Selects files name rest
    → IfSome rest (λ all. all ≡ bytes) → CanBe files name (Some bytes)
rest_can None name rest bytes selects told = cc
rest_can (Some all) name None bytes selects told = absurd (let known = (selects cc).0 in cc)
rest_can (Some all) name (Some xs) bytes selects told = sym ((selects cc).1 ∙ ap Some told)

-- a profile of the code is this one
abbrev pub SeesFile : File → File → Type 0
SeesFile f x = f ≡ x

-- what is answered of the rest follows from the file
pub reads_rest : (name : List ℕ) (old mid new : ShelfView) (answer : Result File Stop) → IsLater old mid
    → Selects old.files name mid.rest → Took old new (asked_file profiles name) (answer ≡ Err stop.ReadFault)
    → AnswersRest mid.rest (Faulted mid new) answer → ReadsFile profiles SeesFile name old new answer
reads_rest name old mid new (Ok f) later selects took a =
    record {
      content = Some a.bytes;
      can_be = rest_can old.files name mid.rest a.bytes selects a.told;
      follows =
          record { all_made = refl; value = f; end_is = ap (accept profiles.refused) a.is_said; sees = refl };
      took = took;
    }
reads_rest name old mid new (Err stop.Usage) later selects took a = absurd a
reads_rest name old mid new (Err stop.ReadFault) later selects took a =
    let some = some_content old.files name in
    record {
      content = some.0;
      can_be = some.1;
      follows =
          inl (
            faulted_behind old mid new later a,
            record {
              before = [];
              file = asked_file profiles name;
              rest = [];
              made_is = refl;
              steps_are = refl;
            },
          );
      took = took;
    }
reads_rest name old mid new (Err (stop.TextRefused fault)) later selects took a =
    absurd a
reads_rest name old mid new (Err (stop.ProfileRefused fault)) later selects took a =
    record {
      content = Some a.bytes;
      can_be = rest_can old.files name mid.rest a.bytes selects a.told;
      follows =
          record { all_made = refl; end_is = ap (accept profiles.refused) a.is_said };
      took = took;
    }
reads_rest name old mid new (Err stop.WriteFault) later selects took a = absurd a
reads_rest name old mid new (Err stop.Memory) later selects took a =
    let some = some_content old.files name in
    record { content = some.0; can_be = some.1; follows = record { rest = []; steps_are = refl }; took = took }
reads_rest name old mid new (Err (stop.NoCounter text)) later selects took a = absurd a
