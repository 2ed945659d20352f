-- What is kept of a term while it is judged: all of it, or only that it is too large.
-- (The program's promises don't stand on this file.)
use Rattle.std.specs.Prelude.{◌≡◌, ◌<◌, ◌≤◌, Result, Ok, Err}
use Rattle.vir_term.specs.Tree.{Tree, size}
use Rattle.vir_term.specs.Limits.{size_limit}
use Rattle.vir_read.specs.declared.text_fault.TextError.{TextError}
use Rattle.vir_read.specs.declared.built.Built.{Built}
use Rattle.vir_read.specs.declared.built.Built.TheVariants.{Small, Large}
use Rattle.vir_read.specs.Faults.{OrFault, Fails}
use Rattle.vir_read.specs.SharedTerms.{tree}

-- this is kept of that term
abbrev pub IsKeptOf : Built → Tree → Type 0
IsKeptOf (Small term n) t = (t ≡ tree term) × (n ≡ size t) × (n ≤ size_limit)
IsKeptOf Large t = size_limit < size t

-- a call gives what is kept of the term that the language gives
abbrev pub Builds : Result Built TextError → OrFault Tree → Type 0
Builds (Ok built) meant = (t : Tree) × (meant ≡ Ok t) × IsKeptOf built t
Builds (Err e) meant = Fails e meant
