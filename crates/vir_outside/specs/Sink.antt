-- What a sink is given.
use Rattle.std.specs.Prelude.{◌≡◌, ℕ, ◌+◌, ◌<◌, ◌≤◌, List, [], ◌∷◌, ◌++◌, length, Result, Ok, Err, IfOk, OnErr, OnOk}
use Rattle.std.specs.Io.KnownBytes.{Appends}
use Rattle.std.specs.declared.option.Option.{Option}
use Rattle.vir_outside.specs.Faults.{Rose}
use Rattle.vir_outside.specs.Shelf.{Request, to_read, to_select, to_write}

-- What is seen of a sink: how many faults it has counted, where a count at the greatest `u64` stays there; the bytes
-- written so far, where it tells them; and what it was asked for so far, the latest first.
pub record SinkView : Type 0 where
  pub faults : ℕ
  pub written : Option (List ℕ)
  pub asked : List Request

-- Known bytes grow by a prefix of text, and not by all of it.
abbrev pub AppendsPrefix : Option (List ℕ) → Option (List ℕ) → List ℕ → Type 0
AppendsPrefix old new text =
    (front : List ℕ) × (back : List ℕ) × (text ≡ front ++ back) × (0 < length back) × Appends old new front

-- A piece that isn't empty is taken in part at least.
abbrev pub TakesSome : {E : Type 0} → Result ℕ E → List ℕ → Type 0
TakesSome result piece = IfOk result (λ n. 0 < length piece → 0 < n)

-- Behind these writes, the latest first, so many bytes of so many are left. Each was handed all that was left before
-- it, and took some.
abbrev pub Leaves : ℕ → List Request → ℕ → Type 0
Leaves size [] left = left ≡ size
Leaves size (to_write handed taken ∷ before) left = (left + taken ≡ handed) × (0 < taken) × Leaves size before handed
Leaves size (to_select name faults ∷ before) left = ⊥
Leaves size (to_read n ∷ before) left = ⊥

-- Of so many bytes each write was handed all that weren't written yet, and was handed some. Where one took none, that
-- was the last.
abbrev pub HandsAll : {T E : Type 0} → Result T E → List Request → List Request → ℕ → Type 0
HandsAll (Ok done) old new size = (calls : List Request) × (new ≡ calls ++ old) × Leaves size calls 0
HandsAll (Err e) old new size =
    (calls : List Request) × (left : ℕ) × (new ≡ to_write left 0 ∷ (calls ++ old)) × (0 < left) × Leaves size calls left

-- Writes alone, none of which was handed an empty piece.
abbrev pub AreSome : List Request → Type 0
AreSome [] = Unit {0}
AreSome (to_write handed taken ∷ before) = (0 < handed) × AreSome before
AreSome (to_select name faults ∷ before) = ⊥
AreSome (to_read n ∷ before) = ⊥

-- Behind what was asked for such writes came, if any.
abbrev pub HandsSome : List Request → List Request → Type 0
HandsSome old new = (calls : List Request) × (new ≡ calls ++ old) × AreSome calls

-- A text is written whole where that is answered, and else the count rose and a prefix of it is written. The count
-- never falls, and no write is handed an empty piece.
pub record Writes {T E : Type 0} (old new : SinkView) (text : List ℕ) (result : Result T E) : Type 0 where
  pub later : old.faults ≤ new.faults
  pub handed : HandsSome old.asked new.asked
  pub whole : OnOk result (Appends old.written new.written text)
  pub failed : OnErr result (Rose old.faults new.faults × AppendsPrefix old.written new.written text)
