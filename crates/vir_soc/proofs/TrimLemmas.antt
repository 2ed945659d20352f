-- Text without blanks at its ends.
use Rattle.std.proofs.Common.{◌≡◌, ℕ, zero, suc, ◌+◌, ◌-◌, ◌<◌, Bool, true, false, cond, List, [], ◌∷◌, length, take}
use Rattle.std.proofs.Common.{drop, get_or, refl, ap, sym, ◌∙◌, arith, inl, inr}
use Rattle.std.specs.Prelude.{reverse}
use Rattle.std.specs.List.{list_any, prefix_len, suffix_len}
use Rattle.std.proofs.lemmas.Bool.{cases_lt}
use Rattle.std.proofs.lemmas.List.{get_or-reverse, length-reverse, length-take-le}
use Rattle.std.proofs.lemmas.List.Sums.{prefix_len_stops, prefix_len-drop_all, prefix_len-drop_no, suffix_len-take_no}
use Rattle.std.proofs.lemmas.List.Sums.{suffix_len-le-length}
use Rattle.vir_profile.specs.SocFiles.{IsNameText, is_blank, is_line_feed}
use Rattle.vir_soc.specs.Lines.{trim, trim_front}
use Rattle.vir_soc.proofs.AnyLemmas.{list_any-drop, list_any-take}

module _ (p : ℕ → Bool) where
  -- nothing that passes is left at the front
  front_fails : (xs : List ℕ) → prefix_len p (drop (prefix_len p xs) xs) ≡ 0
  front_fails xs = elim (cases_lt (prefix_len p xs) (length xs)) [
    | inl lt ↦ prefix_len-drop_no p xs (prefix_len p xs) 0 lt (prefix_len_stops p xs 0 lt)
    | inr le ↦ prefix_len-drop_all p xs (prefix_len p xs) le
  ]

  prefix_len-take : (n : ℕ) (xs : List ℕ) → prefix_len p xs ≡ 0 → prefix_len p (take n xs) ≡ 0
  prefix_len-take zero xs h = refl
  prefix_len-take (suc n) [] h = refl
  prefix_len-take (suc n) (x ∷ xs) h =
      elim (p x) as (λ b. cond b (1 + prefix_len p xs) 0 ≡ 0 → cond b (1 + prefix_len p (take n xs)) 0 ≡ 0) [
        | true ↦ λ e. absurd (omega arith)
        | false ↦ λ e. refl
      ] h

  stops_before : (xs : List ℕ) → suffix_len p xs < length xs → p (get_or xs (length xs - suffix_len p xs - 1) 0) ≡ false
  stops_before xs h =
      let k = suffix_len p xs in
      let e : length xs - 1 - k ≡ length xs - k - 1 = omega arith in
      let inside : k < length (reverse xs) = rw length-reverse h in
      ap p (ap (λ j. get_or xs j 0) (sym e) ∙ sym (get_or-reverse xs k 0 h)) ∙ prefix_len_stops p (reverse xs) 0 inside

  -- nothing that passes is left at the end
  back_fails : (xs : List ℕ) → 0 < length (take (length xs - suffix_len p xs) xs)
      → suffix_len p (take (length xs - suffix_len p xs) xs) ≡ 0
  back_fails xs h =
      let most = suffix_len-le-length p xs in
      let len : length (take (length xs - suffix_len p xs) xs) ≡ length xs - suffix_len p xs =
      length-take-le (length xs - suffix_len p xs) xs (omega arith) in
      suffix_len-take_no p xs (length xs - suffix_len p xs) 0 (omega arith) (omega arith)
      (stops_before xs (omega arith))

-- a line without the blanks at its ends may be the text of a name, if anything is left
pub IsNameText-trim : (text : List ℕ) → list_any is_line_feed text ≡ false → 0 < length (trim text)
    → IsNameText (trim text)
IsNameText-trim text h some = record {
  some = some;
  one_line = list_any-take is_line_feed (length (trim_front text) - suffix_len is_blank (trim_front text))
      (trim_front text) (list_any-drop is_line_feed (prefix_len is_blank text) text h);
  front = prefix_len-take is_blank (length (trim_front text) - suffix_len is_blank (trim_front text)) (trim_front text)
      (front_fails is_blank text);
  back = back_fails is_blank (trim_front text) some;
}

-- no line feed is added by taking blanks off
pub list_any-trim : (text : List ℕ) → list_any is_line_feed text ≡ false → list_any is_line_feed (trim text) ≡ false
list_any-trim text h = list_any-take is_line_feed (length (trim_front text) - suffix_len is_blank (trim_front text))
    (trim_front text) (list_any-drop is_line_feed (prefix_len is_blank text) text h)
