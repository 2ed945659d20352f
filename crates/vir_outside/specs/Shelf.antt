-- What a shelf tells of its files, and what a call takes of them.
use Rattle.std.specs.Prelude.{◌≡◌, ℕ, zero, suc, ◌<◌, ◌≤◌, Bool, List, [], ◌∷◌, length, Result, Ok, Err}
use Rattle.std.specs.Prelude.{None, Some, IsSome, IsTrue, option_and_then, if◌then◌else◌}
use Rattle.std.specs.Str.{bytes_eq}
use Rattle.std.specs.Io.KnownBytes.{prepend_known}
use Rattle.std.specs.declared.option.Option.{Option}
use Rattle.vir_outside.specs.Faults.{Rose}

-- files, each a name and its bytes
abbrev pub Files : Type 0
Files = List (List ℕ × List ℕ)

-- What a shelf or a sink is asked for: to select the file of this name, behind so many faults; to read on in the
-- selected one, which gives so many bytes; or to write a piece of so many bytes, of which it takes so many. A call that
-- fails gives and takes none.
pub data Request : Type 0 where
  to_select : List ℕ → ℕ → Request
  to_read : ℕ → Request
  to_write : ℕ → ℕ → Request

-- how many bytes a call gives or takes
abbrev pub moved : {E : Type 0} → Result ℕ E → ℕ
moved (Ok n) = n
moved (Err e) = 0

-- What is seen of a shelf: its files, each a name and its bytes, where it tells them (of two of one name the first is
-- meant); how many faults it has counted, where a count at the greatest `u64` stays there; what it was asked for so
-- far, the latest first; whether a file is selected; and what is left of that, where it is told.
pub record ShelfView : Type 0 where
  pub files : Option Files
  pub faults : ℕ
  pub asked : List Request
  pub selected : Bool
  pub rest : Option (List ℕ)

-- The files stay, and the count of faults never falls.
pub record IsLater (old new : ShelfView) : Type 0 where
  pub files : new.files ≡ old.files
  pub faults : old.faults ≤ new.faults

-- The count of faults rose.
abbrev pub Faulted : ShelfView → ShelfView → Type 0
Faulted old new = Rose old.faults new.faults

-- what was asked for before the last reads that gave some bytes each
abbrev pub before_reads : List Request → List Request
before_reads [] = []
before_reads (to_select name faults ∷ before) = to_select name faults ∷ before
before_reads (to_read zero ∷ before) = to_read zero ∷ before
before_reads (to_read (suc n) ∷ before) = before_reads before
before_reads (to_write handed taken ∷ before) = to_write handed taken ∷ before

-- and before one more read behind these, which may give none
abbrev pub up_to_select : List Request → List Request
up_to_select [] = []
up_to_select (to_select name faults ∷ before) = to_select name faults ∷ before
up_to_select (to_read n ∷ before) = before_reads before
up_to_select (to_write handed taken ∷ before) = to_write handed taken ∷ before

-- The file of this name is selected, and no other one; nothing is read before that, and nothing behind a read that
-- gives none.
abbrev pub AsksFor : ShelfView → ShelfView → List ℕ → Type 0
AsksFor old new name = up_to_select new.asked ≡ to_select name old.faults ∷ old.asked

-- No file is selected, and nothing is read behind a read that gives none.
abbrev pub ReadsOn : ShelfView → ShelfView → Type 0
ReadsOn old new = up_to_select new.asked ≡ before_reads old.asked

-- the content of the first file of that name, where there is one
abbrev pub content_of : Files → List ℕ → Option (List ℕ)
content_of [] name = None
content_of (file ∷ files) name = if bytes_eq file.0 name then Some file.1 else content_of files name

-- the content of the file of that name, where the files are told and one has it
abbrev pub told_content : Option Files → List ℕ → Option (List ℕ)
told_content files name = option_and_then (λ all. content_of all name) files

-- The files are told, and none has this name.
abbrev pub Lacks : Option Files → List ℕ → Type 0
Lacks files name = IsSome files × (told_content files name ≡ None)

-- Where the files are told, one has this name, and the rest is its whole content.
abbrev pub Selects : Option Files → List ℕ → Option (List ℕ) → Type 0
Selects files name rest = IsSome files → IsSome rest × (told_content files name ≡ rest)

-- Where the files are told, these are the bytes of the file of this name.
abbrev pub IsContent : Option Files → List ℕ → List ℕ → Type 0
IsContent files name bytes = IsSome files → told_content files name ≡ Some bytes

-- Where the files are told, the file of this name has more than so many bytes.
abbrev pub IsLonger : Option Files → List ℕ → ℕ → Type 0
IsLonger files name limit =
    IsSome files → (bytes : List ℕ) × (told_content files name ≡ Some bytes) × (limit < length bytes)

-- Where the files are told and one is selected, the rest is what the file of this name has behind
-- at most so many bytes.
abbrev pub TakesAtMost : ShelfView → List ℕ → ℕ → Type 0
TakesAtMost shelf name most =
    IsSome shelf.files → IsTrue shelf.selected → (taken : List ℕ) × (length taken ≤ most)
    × (told_content shelf.files name ≡ prepend_known taken shelf.rest)
