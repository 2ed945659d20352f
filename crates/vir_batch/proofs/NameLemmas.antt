-- What a line adds to names.
use Rattle.std.proofs.Common.{◌≡◌, ◌==◌, ℕ, ◌<◌, ◌≤◌, Bool, true, false, not, nat_lt, if◌then◌else◌, List, [], ◌∷◌}
use Rattle.std.proofs.Common.{◌++◌, length, Ok, Err, ap, refl, sym, ◌∙◌, arith}
use Rattle.std.proofs.lemmas.Bool.Decides.{nat_tests}
use Rattle.std.proofs.lemmas.Str.{IsUtf8-from_is_utf8, is_utf8-from_IsUtf8}
use Rattle.std.specs.Str.{IsUtf8, is_utf8}
use Rattle.vir_read.specs.declared.text_fault.TextKind.TheVariants.{BadByte, TooLarge}
use Rattle.vir_read.specs.Faults.{OrFault, fault}
use Rattle.vir_batch.specs.Manifest.{with_line}

not_text : (bytes : List ℕ) → (IsUtf8 bytes → ⊥) → is_utf8 bytes ≡ false
not_text bytes never = by (is_utf8 bytes) refl
  where
    by : (b : Bool) → is_utf8 bytes ≡ b → is_utf8 bytes ≡ false
    by true is = absurd (never (IsUtf8-from_is_utf8 bytes is))
    by false is = is

module _ (names : List (List ℕ)) (at : ℕ) (line : List ℕ) (some : (length line == 0) ≡ false) where
  -- a line of text, by the test whether there is room for its name
  by_room : Bool → OrFault (List (List ℕ))
  by_room room = if room then Ok (names ++ line ∷ []) else Err (fault TooLarge at)

  -- any line with a byte, by the test whether it is text
  by_text : Bool → OrFault (List (List ℕ))
  by_text text = if not text then Err (fault BadByte at) else by_room (nat_lt (length names) 10000)

  with_some : with_line names at line ≡ by_text (is_utf8 line)
  unfolding by_text by_room
  with_some = ap (λ b. if b then Ok names else by_text (is_utf8 line)) some

  pub bad_line : (IsUtf8 line → ⊥) → with_line names at line ≡ Err (fault BadByte at)
  unfolding by_text
  bad_line never = with_some ∙ ap by_text (not_text line never)

  with_room : IsUtf8 line → with_line names at line ≡ by_room (nat_lt (length names) 10000)
  unfolding by_text
  with_room is = with_some ∙ ap by_text (is_utf8-from_IsUtf8 line is)

  full : 10000 ≤ length names → nat_lt (length names) 10000 ≡ false
  full is = grind (arith, nat_tests)

  not_full : length names < 10000 → nat_lt (length names) 10000 ≡ true
  not_full is = grind (arith, nat_tests)

  pub one_line_too_many : IsUtf8 line → 10000 ≤ length names → with_line names at line ≡ Err (fault TooLarge at)
  unfolding by_room
  one_line_too_many is many = with_room is ∙ ap by_room (full many)

  pub good_line : IsUtf8 line → length names < 10000 → (name text : List ℕ) (more : List (List ℕ)) → name ≡ line
      → text ≡ name → more ≡ names ++ text ∷ [] → with_line names at line ≡ Ok more
  unfolding by_room
  good_line is few name text more named same pushed =
      with_room is ∙ ap by_room (not_full few) ∙ ap (λ l. Ok (names ++ l ∷ [])) (sym (same ∙ named))
      ∙ ap Ok (sym pushed)
