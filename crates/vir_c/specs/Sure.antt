-- A shelf in memory that never fails.
-- (The program's promises don't stand on this file.)
use Rattle.std.specs.Prelude.{Some, is_some}
use Rattle.vir_outside.specs.Memory.{ShelfState}
use Rattle.vir_outside.specs.Shelf.{ShelfView}

-- it tells everything, and counts no fault
abbrev pub sure_seen : ShelfState → ShelfView
sure_seen s =
    record { files = Some s.files; faults = 0; asked = s.asked; selected = is_some s.rest; rest = s.rest }
