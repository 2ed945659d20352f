-- What a call does with a shelf and a bench that follows a course of contents.
use Rattle.std.specs.Prelude.{◌≡◌, ◌⊎◌, ℕ, ◌+◌, max, List, [], ◌∷◌, None, Some, IsTrue, IsErrOf, Result}
use Rattle.std.specs.declared.option.Option.{Option}
use Rattle.vir_course.specs.Courses.{Course, Follows}
use Rattle.vir_machine.specs.Runs.{BenchView}
use Rattle.vir_course.specs.Steps.{Asked, Step, after_steps, last_read, makes, reads}
use Rattle.vir_course.specs.declared.stop.Stop.{Stop}
use Rattle.vir_course.specs.declared.stop.Stop.TheVariants.{ReadFault}
use Rattle.vir_files.specs.Contents.{CanBe, Contents, AreContents}
use Rattle.vir_files.specs.Files.{Kind, asked_file, read_as}
use Rattle.vir_outside.specs.Faults.{Rose}
use Rattle.vir_outside.specs.Shelf.{AsksFor, Faulted, IsLater, Request, ShelfView, TakesAtMost, to_read, to_select}
use Rattle.vir_outside.specs.Shelf.{to_write, up_to_select}

-- How a shelf is left behind a file that was read: that file is selected, unless reading it failed, and at most one
-- byte more than its limit is taken of it.
pub record Left (shelf : ShelfView) (file : Asked) (failed : Type 0) : Type 0 where
  pub takes : TakesAtMost shelf file.name (file.limit + 1)
  pub is_selected : failed ⊎ IsTrue shelf.selected

-- A shelf is asked for this file and no other, and left so. Its files stay, and its count never falls.
pub record Took (old new : ShelfView) (file : Asked) (failed : Type 0) : Type 0 where
  pub asked : AsksFor old new file.name
  pub later : IsLater old new
  pub left : Left new file failed

-- A file of a kind is read: what is answered follows from what stands under its name.
pub record ReadsFile {A F X : Type 0} (kind : Kind A F) (Sees : A → X → Type 0) (name : List ℕ) (old new : ShelfView)
    (answer : Result X Stop) : Type 0 where
  pub content : Option (List ℕ)
  pub can_be : CanBe old.files name content
  pub follows : Follows Sees (Faulted old new) (read_as kind name content) (reads (asked_file kind name) ∷ []) answer
  pub took : Took old new (asked_file kind name) (IsErrOf answer ReadFault)

-- the names of the files that steps read, in order
abbrev pub names_read : List Step → List (List ℕ)
names_read [] = []
names_read (reads file ∷ rest) = file.name ∷ names_read rest
names_read (makes run ∷ rest) = names_read rest

-- The files of these names are selected, one after another, and nothing is read but what is selected of them.
abbrev pub AreAsked : List (List ℕ) → List Request → List Request → Type 0
AreAsked [] old new = new ≡ old
AreAsked (name ∷ names) old new =
    (faults : ℕ) × (now : List Request) × (up_to_select now ≡ to_select name faults ∷ old) × AreAsked names now new

-- The shelf was asked for the file of this name first, and maybe for more.
abbrev pub AsksFirst : ShelfView → ShelfView → List ℕ → Type 0
AsksFirst old new name = (more : List (List ℕ)) × AreAsked (name ∷ more) old.asked new.asked

-- how many faults had been counted when a file was selected last
abbrev pub counted_before : List Request → ℕ
counted_before [] = 0
counted_before (to_select name faults ∷ before) = faults
counted_before (to_read n ∷ before) = counted_before before
counted_before (to_write handed taken ∷ before) = counted_before before

-- and in a call: where none was selected, as many as before it
abbrev pub begun : ShelfView → ShelfView → ℕ
begun old new = max old.faults (counted_before new.asked)

-- The count rose at the file that was selected last.
abbrev pub RoseAtLast : ShelfView → ShelfView → Type 0
RoseAtLast old new = Rose (begun old new) new.faults

-- Behind steps that read this file last, or none: then the shelf is untouched.
abbrev pub LeftBehind : {S : Type 0} → (S → ShelfView) → S → S → Option Asked → Type 0 → Type 0
LeftBehind seen old new None failed = new ≡ old
LeftBehind seen old new (Some file) failed = Left (seen new) file failed

-- There are contents whose course is performed: its steps are made on the bench and the shelf, and lead to the answer.
-- The shelf is asked for the files that these steps read and for no others, in their order, each once, and nothing is
-- read of any other; its files stay, and its count never falls. A read fault is due to the file that was selected last:
-- the count rose since.
pub record Performs {S A X : Type 0} (course : Contents → Course A) (Sees : A → X → Type 0) (seen : S → ShelfView)
    (old_shelf new_shelf : S) (old new : BenchView) (answer : Result X Stop) : Type 0 where
  pub contents : Contents
  pub are_contents : AreContents (seen old_shelf).files contents
  pub made : List Step
  pub follows : Follows Sees (RoseAtLast (seen old_shelf) (seen new_shelf)) (course contents) made answer
  pub bench : new ≡ after_steps made old
  pub asked : AreAsked (names_read made) (seen old_shelf).asked (seen new_shelf).asked
  pub left : LeftBehind seen old_shelf new_shelf (last_read None made) (IsErrOf answer ReadFault)
  pub later : IsLater (seen old_shelf) (seen new_shelf)
