-- The lines between the line feeds, as a reader meets them.
use Rattle.std.proofs.Common.{◌≡◌, ℕ, ◌+◌, ◌-◌, Bool, true, false, cond, List, [], ◌∷◌, ◌++◌, length, take, get_or, ap}
use Rattle.std.proofs.Common.{sym, ◌∙◌, refl, arith, append_assoc, append-nil}
use Rattle.std.specs.List.{slice_split, list_any}
use Rattle.std.proofs.Math.Seq.{take-append_seam, get_or-append_seam}
use Rattle.std.proofs.lemmas.List.{length-append}
use Rattle.std.proofs.lemmas.List.Splits.{slice_split_at, slice_split_none}
use Rattle.std.proofs.lemmas.List.Folds.{list_any-append}
use Rattle.vir_profile.specs.SocFiles.{is_line_feed}
use Rattle.vir_soc.specs.Lines.{lines, ended_lines, last_line}
use Rattle.vir_soc.specs.Reader.Pieces.{ended, unended}
use Rattle.vir_soc.proofs.AnyLemmas.{All-none}

lines_from : (begun bytes : List ℕ) → list_any is_line_feed begun ≡ false → slice_split is_line_feed (begun ++ bytes)
    ≡ ended begun bytes ++ unended begun bytes ∷ []
unfolding ended unended
lines_from begun [] h = ap (slice_split is_line_feed) (append-nil begun) ∙ slice_split_none is_line_feed begun
    (All-none is_line_feed begun h)
lines_from begun (c ∷ cs) h =
    by_case begun c cs h (lines_from [] cs refl) (λ q. lines_from (begun ++ c ∷ []) cs q) (is_line_feed c) refl where
      by_case : (begun : List ℕ) (c : ℕ) (cs : List ℕ) → list_any is_line_feed begun ≡ false → slice_split is_line_feed
          cs ≡ ended [] cs ++ unended [] cs ∷ [] → (list_any is_line_feed (begun ++ c ∷ []) ≡ false
          → slice_split is_line_feed (begun ++ c ∷ [] ++ cs) ≡ ended (begun ++ c ∷ []) cs ++ unended (begun ++ c ∷ [])
          cs ∷ []) → (b : Bool) → is_line_feed c ≡ b → slice_split is_line_feed (begun ++ c ∷ cs)
          ≡ cond b (begun ∷ ended [] cs) (ended (begun ++ c ∷ []) cs) ++ cond b (unended [] cs)
          (unended (begun ++ c ∷ []) cs) ∷ []
      by_case begun c cs h r q true e = slice_split_at is_line_feed begun c cs (All-none is_line_feed begun h) e
          ∙ ap (λ ls. begun ∷ ls) r
      by_case begun c cs h r q false e = ap (slice_split is_line_feed) (sym (append_assoc begun (c ∷ []) cs))
          ∙ q (list_any-append is_line_feed begun (c ∷ []) ∙ rw (h, e) refl)

-- the lines are those that a line feed ends, and the last one
pub lines-parts : (bytes : List ℕ) → lines bytes ≡ ended [] bytes ++ unended [] bytes ∷ []
lines-parts bytes = lines_from [] bytes refl

pub length-lines : (bytes : List ℕ) → length (lines bytes) ≡ 1 + length (ended [] bytes)
length-lines bytes =
    let e = ap length (lines-parts bytes) in
    let n = length-append (ended [] bytes) (unended [] bytes ∷ []) in
    omega arith

pub ended_lines-is : (bytes : List ℕ) → ended_lines bytes ≡ ended [] bytes
ended_lines-is bytes =
    let n = length-lines bytes in
    let k : length (lines bytes) - 1 ≡ length (ended [] bytes) = omega arith in
    ap (λ j. take j (lines bytes)) k ∙ ap (take (length (ended [] bytes))) (lines-parts bytes)
    ∙ take-append_seam (ended [] bytes) (unended [] bytes ∷ [])

pub last_line-is : (bytes : List ℕ) → last_line bytes ≡ unended [] bytes
last_line-is bytes =
    let n = length-lines bytes in
    let k : length (lines bytes) - 1 ≡ length (ended [] bytes) = omega arith in
    ap (λ j. get_or (lines bytes) j []) k ∙ ap (λ ls. get_or ls (length (ended [] bytes)) []) (lines-parts bytes)
    ∙ get_or-append_seam (ended [] bytes) (unended [] bytes) [] []
