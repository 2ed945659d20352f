-- What a caller hands in: bytes that stand one behind another, and how many there are of each.
-- (The program's promises don't stand on this file.)
use Rattle.std.specs.Prelude.{ℕ, List, [], ◌∷◌, None, take, drop}
use Rattle.vir_c.specs.declared.sizes.FileSizes.{FileSizes}
use Rattle.vir_outside.specs.Memory.{ShelfState}
use Rattle.vir_outside.specs.Shelf.{Files}

-- the pieces of these sizes, one behind another; where the bytes end before, so do the pieces
abbrev pub pieces : List ℕ → List ℕ → List (List ℕ)
pieces [] bytes = []
pieces (size ∷ sizes) bytes = take size bytes ∷ pieces sizes (drop size bytes)

-- the files of these sizes, one behind another, each its name and then its content
abbrev pub files_of : List FileSizes → List ℕ → Files
files_of [] bytes = []
files_of (size ∷ sizes) bytes =
    (take size.name bytes, take size.content (drop size.name bytes))
    ∷ files_of sizes (drop size.content (drop size.name bytes))

-- a shelf with these files, of which nothing was asked for yet
abbrev pub fresh_shelf : Files → ShelfState
fresh_shelf files = record { files = files; failing = []; calls = 0; faults = 0; asked = []; rest = None }
