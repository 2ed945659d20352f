-- The lines of a manifest, one after another.
use Rattle.std.proofs.Common.{◌≡◌, ℕ, ◌+◌, ◌-◌, ◌<◌, ◌≤◌, List, length, take, drop, Ok, ap, sym, ◌∙◌}
use Rattle.std.proofs.Common.{◌⊎◌, arith, inl, inr, not}
use Rattle.std.specs.List.{position_or_len}
use Rattle.std.proofs.lemmas.Bool.{cases_lt}
use Rattle.std.proofs.lemmas.List.{drop-drop, drop_all, length-drop, take_all}
use Rattle.std.proofs.lemmas.List.Folds.{length-prefix_len}
use Rattle.std.proofs.lemmas.List.Splits.{slice_split_first, slice_split_none}
use Rattle.std.proofs.lemmas.List.Sums.{fails_before_first}
use Rattle.vir_read.specs.Faults.{Fails, OrFault, ◌>>=◌}
use Rattle.vir_read.specs.declared.text_fault.TextError.{TextError}
use Rattle.vir_read.specs.declared.text_fault.TextError.TheVariants.{Fault, Memory}
use Rattle.vir_batch.specs.Manifest.{is_line_feed, lines, with_line, with_lines, without_return}

-- nothing is behind the end
pub names_at_end : (names : List (List ℕ)) (at : ℕ) (text : List ℕ) → length text ≤ at
    → with_lines names at (lines (drop at text)) ≡ Ok names
names_at_end names at text past = ap (λ bytes. with_lines names at (lines bytes)) (drop_all at text past)

module _ (names : List (List ℕ)) (at : ℕ) (text : List ℕ) where
  -- what is left of the text
  abbrev left : List ℕ
  left = drop at text

  -- how long its first line is
  abbrev long : ℕ
  long = position_or_len is_line_feed left

  -- the names behind this line, by the place behind it and what is left there
  abbrev behind : List ℕ → ℕ → List (List ℕ) → OrFault (List (List ℕ))
  behind line place rest = with_line names at (without_return line) >>= λ more. with_lines more place rest

  -- it is ended by a line feed
  ended : long < length left → with_lines names at (lines left) ≡ behind (take long left) (at + long + 1)
      (lines (drop (at + long + 1) text))
  ended inside =
      let size : length (take long left) ≡ long = length-prefix_len (λ byte. not (is_line_feed byte)) left in
      let next : at + (long + 1) ≡ at + long + 1 = omega arith in
      ap (with_lines names at) (slice_split_first is_line_feed left 0 inside)
      ∙ ap (λ n. behind (take long left) (at + n + 1) (lines (drop (long + 1) left))) size
      ∙ ap (λ bytes. behind (take long left) (at + long + 1) (lines bytes)) (drop-drop (long + 1) at text)
      ∙ ap (λ n. behind (take long left) (at + long + 1) (lines (drop n text))) next

  -- it is the last one
  unended : length left ≤ long → with_lines names at (lines left) ≡ behind (take long left) (at + long + 1)
      (lines (drop (at + long + 1) text))
  unended past =
      let size : length left ≡ length text - at = length-drop at text in
      let beyond : length text ≤ at + long + 1 = omega arith in
      ap (with_lines names at) (slice_split_none is_line_feed left
      (λ k d within. fails_before_first is_line_feed left k d (omega arith)))
      ∙ ap (λ line. with_line names at (without_return line) >>= λ more. Ok more) (sym (take_all long left past))
      ∙ ap (λ bytes. behind (take long left) (at + long + 1) (lines bytes)) (sym (drop_all (at + long + 1) text beyond))

  -- the names of what is left are those of its first line and of what is behind that
  pub first_line : (n : ℕ) → n ≡ long → with_lines names at (lines left) ≡ behind (take n left) (at + n + 1)
      (lines (drop (at + n + 1) text))
  first_line n is =
      by (cases_lt long (length left))
      ∙ ap (λ k. behind (take k left) (at + k + 1) (lines (drop (at + k + 1) text))) (sym is)
    where
      by : (long < length left) ⊎ (length left ≤ long) → with_lines names at (lines left) ≡ behind (take long left)
          (at + long + 1) (lines (drop (at + long + 1) text))
      by (inl inside) = ended inside
      by (inr past) = unended past

-- ---- what a line gives
-- names that a line gives are those before what is behind it
pub line_gives : (line : OrFault (List (List ℕ))) (next : List (List ℕ) → OrFault (List (List ℕ)))
    (more : List (List ℕ)) → line ≡ Ok more → (line >>= next) ≡ next more
line_gives line next more is = ap (λ l. l >>= next) is

-- a line that gives none, gives none of the whole
pub line_fails : (error : TextError) (line : OrFault (List (List ℕ))) (next : List (List ℕ) → OrFault (List (List ℕ)))
    → Fails error line → Fails error (line >>= next)
line_fails (Fault fault) line next is = ap (λ l. l >>= next) is
line_fails Memory line next is = tt

pub fails_so : (error : TextError) (one other : OrFault (List (List ℕ))) → one ≡ other → Fails error one
    → Fails error other
fails_so (Fault fault) one other same is = sym same ∙ is
fails_so Memory one other same is = tt
