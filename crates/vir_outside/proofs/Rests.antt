-- How the bytes read so far and what is left make up what there was.
use Rattle.std.proofs.Common.{◌≡◌, ℕ, zero, suc, ◌+◌, ◌-◌, ◌<◌, ◌≤◌, List, ◌∷◌, ◌++◌, length, take, Option, None, Some}
use Rattle.std.proofs.Common.{IsTrue, refl, sym, ap, ◌∙◌, append_assoc, arith, length-append, length-take}
use Rattle.std.specs.Io.KnownBytes.{Consumes}
use Rattle.vir_outside.specs.Shelf.{IsLater, Request, ShelfView, before_reads, to_read}

-- A loop has read these bytes of what was left of the selected file, some by each read.
pub record IsReading (old now : ShelfView) (limit : ℕ) (whole : List ℕ) : Type 0 where
  pub reads_on : before_reads now.asked ≡ before_reads old.asked
  pub is_selected : IsTrue now.selected
  pub within : length whole ≤ limit
  pub later : IsLater old now
  pub parts : Consumes old.rest now.rest whole

-- Two reads, one after the other, are one.
pub consumes_more : (rest left new : Option (List ℕ)) (whole bytes : List ℕ)
    → Consumes rest left whole → Consumes left new bytes → Consumes rest new (whole ++ bytes)
consumes_more None left new whole bytes first second = tt
consumes_more (Some xs) None new whole bytes first second = absurd first
consumes_more (Some xs) (Some ys) None whole bytes first second = absurd second
consumes_more (Some xs) (Some ys) (Some zs) whole bytes first second =
    first ∙ ap (λ (ws : List ℕ). whole ++ ws) second ∙ sym (append_assoc whole bytes zs)

-- After one more read into a buffer of what is missing to the limit and one byte, at most that was taken.
pub taken_more : (rest left new : Option (List ℕ)) (whole buf : List ℕ) (n limit : ℕ)
    → Consumes rest left whole → Consumes left new (take n buf)
    → length whole ≤ limit → length buf ≤ limit - length whole + 1
    → (x : List ℕ) × (length x ≤ limit + 1) × Consumes rest new x
taken_more rest left new whole buf n limit first second within room = (
  whole ++ take n buf,
  omega (arith, length-append whole (take n buf), length-take n buf),
  consumes_more rest left new whole (take n buf) first second,
)

-- What was asked for before a read that gave some bytes.
pub before_reads-some : (n : ℕ) (before : List Request) → 0 < n → before_reads (to_read n ∷ before)
    ≡ before_reads before
before_reads-some zero before some = absurd (omega arith)
before_reads-some (suc n) before some = refl
