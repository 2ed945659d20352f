-- What is told of the shelf and the sink over the standard library's files and writers.
-- (The program's promises don't stand on this file.)
use Rattle.std.specs.Prelude.{ℕ, Bool, List, None}
use Rattle.std.specs.declared.option.Option.{Option}
use Rattle.vir_outside.specs.Shelf.{Request, ShelfView}
use Rattle.vir_outside.specs.Sink.{SinkView}

-- A shelf over the current folder: whether a file is selected, what its reader says is left of it, the faults,
-- and what it was asked for.
pub record FolderState : Type 0 where
  pub selected : Bool
  pub left : Option (List ℕ)
  pub faults : ℕ
  pub asked : List Request

-- it tells neither its files nor what is left of one
abbrev pub folder_seen : FolderState → ShelfView
folder_seen s = record { files = None; faults = s.faults; asked = s.asked; selected = s.selected; rest = None }

-- A sink over a writer: what the writer says it holds, the faults, and what it was asked for.
pub record StreamState : Type 0 where
  pub held : Option (List ℕ)
  pub faults : ℕ
  pub asked : List Request

-- it doesn't tell the bytes
abbrev pub stream_seen : StreamState → SinkView
stream_seen s = record { faults = s.faults; written = None; asked = s.asked }
