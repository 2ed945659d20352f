-- The entries of a map in the order of the definitions.
-- (The program's promises don't stand on this file.)
use Rattle.std.specs.Prelude.{ℕ, List, map}
use Rattle.std.specs.declared.alloc.Global.{Global}
use Rattle.std.specs.declared.vec.Vec.{Vec}
use Rattle.vir_term.specs.Tree.{Tree}
use Rattle.vir_book.specs.declared.entries.Entries.{Entries}
use Rattle.vir_read.specs.Faults.{OrFault, ◌>>=◌}
use Rattle.vir_book.specs.Books.{Entry, entry, filled, last_term}

-- a name of the map and its term, as an entry
abbrev pub as_entry : {T : Type 0} → (T → Tree) → Vec ℕ Global × T → Entry
as_entry meaning p = entry p.0.items (meaning p.1)

-- all of them
abbrev pub entries : {T : Type 0} → (T → Tree) → Entries T → List Entry
entries meaning e = map (as_entry meaning) e.map.entries

-- the rule of a file with these entries
abbrev pub rule_of_entries : List Entry → OrFault Tree
rule_of_entries list = filled list >>= last_term
