-- How the bytes written so far and what is left make up a text.
use Rattle.std.proofs.Common.{◌≡◌, ℕ, ◌+◌, ◌-◌, ◌<◌, ◌≤◌, List, [], ◌∷◌, ◌++◌, length, take, drop, Option, None, Some}
use Rattle.std.proofs.Common.{sym, ap, ◌∙◌, append_assoc, arith, length-drop}
use Rattle.std.specs.Io.KnownBytes.{Appends}
use Rattle.vir_outside.specs.Shelf.{Request, to_read, to_select, to_write}
use Rattle.vir_outside.specs.Sink.{AreSome, HandsSome, Leaves, SinkView}
use Rattle.std.proofs.lemmas.List.{take_all, take-append-drop}

-- A loop has written the text but for what is left, and each write was handed all that was left before it. Nothing was
-- written of an empty text.
pub record IsWriting (text left : List ℕ) (old now : SinkView) (IsSame : Type 0) : Type 0 where
  pub later : old.faults ≤ now.faults
  pub front : (xs : List ℕ) × (text ≡ xs ++ left) × Appends old.written now.written xs
  pub hands : (calls : List Request) × (now.asked ≡ calls ++ old.asked) × Leaves (length text) calls (length left)
  pub within : length left ≤ length text
  pub no_text : text ≡ [] → IsSame

-- Two appends, one after the other, are one.
pub appends_more : (old mid new : Option (List ℕ)) (xs ys : List ℕ) → Appends old mid xs → Appends mid new ys
    → Appends old new (xs ++ ys)
appends_more None mid new xs ys first second = tt
appends_more (Some a) None new xs ys first second = absurd first
appends_more (Some a) (Some b) None xs ys first second = absurd second
appends_more (Some a) (Some b) (Some c) xs ys first second =
    second ∙ ap (λ (zs : List ℕ). zs ++ ys) first ∙ append_assoc a xs ys

-- What was written and what is left make up the text, after one more write.
pub written_more : (text front left : List ℕ) (n : ℕ) (old mid new : Option (List ℕ)) → text ≡ front ++ left
    → Appends old mid front → Appends mid new (take n left) → (x : List ℕ)
    × (text ≡ x ++ take (length left - n) (drop n left)) × Appends old new x
written_more text front left n old mid new parts first second =
    let whole : take (length left - n) (drop n left) ≡ drop n left = take_all (length left - n) (drop n left)
    (omega (arith, length-drop n left)) in
    let split : front ++ left ≡ (front ++ take n left) ++ drop n left = ap (λ (zs : List ℕ). front ++ zs)
    (sym (take-append-drop n left)) ∙ sym (append_assoc front (take n left) (drop n left)) in (
      front ++ take n left,
      parts ∙ split ∙ ap (λ (zs : List ℕ). (front ++ take n left) ++ zs) (sym whole),
      appends_more
          old mid new front (take n left) first second,
    )

-- One more write was handed all that was left.
pub leaves_more : (size handed taken left : ℕ) (old mid new calls : List Request) → mid ≡ calls ++ old
    → Leaves size calls handed → new ≡ to_write handed taken ∷ mid → left + taken ≡ handed → 0 < taken
    → (more : List Request) × (new ≡ more ++ old) × Leaves size more left
leaves_more size handed taken left old mid new calls behind so_far is more some =
    (to_write handed taken ∷ calls, is ∙ ap (λ rs. to_write handed taken ∷ rs) behind, (more, some, so_far))

-- Such writes are handed some bytes each.
pub leaves_some : (size left : ℕ) (calls : List Request) → Leaves size calls left → AreSome calls
leaves_some size left [] so_far = tt
leaves_some size left (to_write handed taken ∷ before) so_far =
    (omega arith, leaves_some size handed before so_far.2)
leaves_some size left (to_select name faults ∷ before) so_far = absurd so_far
leaves_some size left (to_read n ∷ before) so_far = absurd so_far

-- And so is one more, behind which nothing is.
pub hands_one : (size handed taken : ℕ) (old mid new calls : List Request) → mid ≡ calls ++ old
    → Leaves size calls handed → new ≡ to_write handed taken ∷ mid → 0 < handed → HandsSome old new
hands_one size handed taken old mid new calls behind so_far is some = (
  to_write handed taken ∷ calls,
  is ∙ ap (λ rs. to_write handed taken ∷ rs) behind,
  (some, leaves_some size handed calls so_far),
)
