use Rattle.std.proofs.Common.{◌≡◌, [], ◌++◌, None, drop}
use Rattle.vir_c.specs.Pieces.{files_of}
use Rattle.vir_c.proofs.pieces.shelf_of.Given as goal

-- the files so far, and behind them those that are left
abbrev pub invariant-loop-size : goal.invariant-loop-size
invariant-loop-size l =
    (l.shelf.files ++ files_of (drop l.size-index l.sizes) l.rest ≡ files_of l.sizes l.bytes)
    × (l.shelf ≡ record { files = l.shelf.files; failing = []; calls = 0; faults = 0; asked = []; rest = None })
