-- The memory shelf and the memory sink: what they hold, and what a call does to them.
-- (The program's promises don't stand on this file.)
use Rattle.std.specs.Prelude.{◌==◌, ℕ, Bool, List, ◌∷◌, drop, is_some, None, Some, if◌then◌else◌}
use Rattle.std.specs.Option.{option_map}
use Rattle.std.specs.List.{list_any, slice_get}
use Rattle.std.specs.declared.option.Option.{Option}
use Rattle.vir_outside.specs.Faults.{one_more}
use Rattle.vir_outside.specs.Shelf.{Files, Request, ShelfView, content_of, to_read, to_select}
use Rattle.vir_outside.specs.Sink.{SinkView}

-- A shelf in memory: its files, the numbers of the calls that fail, the calls made, the faults,
-- what it was asked for, and what is left of the selected file.
pub record ShelfState : Type 0 where
  pub files : Files
  pub failing : List ℕ
  pub calls : ℕ
  pub faults : ℕ
  pub asked : List Request
  pub rest : Option (List ℕ)

-- it tells everything
abbrev pub memory_seen : ShelfState → ShelfView
memory_seen s =
    record { files = Some s.files; faults = s.faults; asked = s.asked; selected = is_some s.rest; rest = s.rest }

-- A sink in memory: how much a write takes at most, the numbers of the calls that fail, the calls
-- made, the faults, the bytes written, and what it was asked for.
pub record SinkState : Type 0 where
  pub most : ℕ
  pub failing : List ℕ
  pub calls : ℕ
  pub faults : ℕ
  pub bytes : List ℕ
  pub asked : List Request

abbrev pub sink_seen : SinkState → SinkView
sink_seen s = record { faults = s.faults; written = Some s.bytes; asked = s.asked }

-- whether the call after so many is listed as failing
abbrev pub is_next_listed : List ℕ → ℕ → Bool
is_next_listed failing calls = list_any (λ listed. listed == one_more calls) failing

-- the shelf after a call: a listed one is a fault and leaves the one rest, any other leaves the other
abbrev pub after_call : ShelfState → Option (List ℕ) → Option (List ℕ) → ShelfState
after_call old at_fault rest =
    let counted = record old { calls = one_more old.calls } in
    if is_next_listed old.failing old.calls
    then (record counted { faults = one_more old.faults; rest = at_fault })
    else (record counted { rest = rest })

-- the shelf after `select`: a listed call leaves nothing selected, any other the file of the name,
-- where there is one
abbrev pub after_select : ShelfState → List ℕ → ShelfState
after_select old name =
    after_call (record old { asked = to_select name old.faults ∷ old.asked }) None (content_of old.files name)

-- the shelf after `read` into so many bytes, which gave so many: a listed call takes nothing, any other all that fits
abbrev pub after_read : ShelfState → ℕ → ℕ → ShelfState
after_read old room given =
    after_call (record old { asked = to_read given ∷ old.asked }) old.rest (option_map (drop room) old.rest)

-- what is left of the file at a place, behind so many bytes
abbrev pub rest_at : Files → Option ℕ → ℕ → Option (List ℕ)
rest_at files None taken = None
rest_at files (Some place) taken = option_map (λ (file : List ℕ × List ℕ). drop taken file.1) (slice_get files place)
