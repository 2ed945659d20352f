-- Line feeds that are still to come.
use Rattle.std.proofs.Common.{◌≡◌, ℕ, ◌+◌, ◌≤◌, ◌<◌, Bool, true, false, ◌||◌, List, [], ◌∷◌, ◌++◌, length, drop, get_or}
use Rattle.std.proofs.Common.{ap, sym, ◌∙◌, refl, arith}
use Rattle.std.specs.List.{after_first, list_any, position_or_len}
use Rattle.std.proofs.lemmas.List.{drop_more, length-drop}
use Rattle.std.proofs.lemmas.List.Folds.{list_any-append}
use Rattle.vir_profile.specs.SocFiles.{is_line_feed}
use Rattle.vir_soc.specs.Reader.Pieces.{unended}
use Rattle.vir_soc.specs.Reader.UsualLines.{HasLineFeed}
use Rattle.vir_soc.proofs.AnyLemmas.{position-inside, position-none}
use Rattle.vir_soc.proofs.LineLemmas.{rest_has_none, unended_first, unended_none}

or_second : (a b : Bool) → a ≡ false → (a || b) ≡ true → b ≡ true
or_second true b other h = absurd cc
or_second false b other h = h

-- behind a byte that is none
pub feed_behind : (c : ℕ) (text rest : List ℕ) → text ≡ c ∷ rest → is_line_feed c ≡ false → HasLineFeed text
    → HasLineFeed rest
feed_behind c text rest e other h = or_second (is_line_feed c) (list_any is_line_feed rest) other
    (ap (list_any is_line_feed) (sym e) ∙ h)

-- behind bytes with none
pub feed_behind_text : (bytes text rest : List ℕ) → bytes ≡ text ++ rest → list_any is_line_feed text ≡ false
    → HasLineFeed bytes → HasLineFeed rest
feed_behind_text bytes text rest e other h = or_second (list_any is_line_feed text) (list_any is_line_feed rest) other
    (sym (list_any-append is_line_feed text rest) ∙ ap (list_any is_line_feed) (sym e) ∙ h)

-- there is a byte
pub feed_inside : (xs : List ℕ) → HasLineFeed xs → 0 < length xs
feed_inside [] h = absurd cc
feed_inside (x ∷ xs) h = omega arith

pub feed_at : (xs : List ℕ) (i : ℕ) → i ≤ length xs → HasLineFeed (drop i xs) → i < length xs
feed_at xs i within h = let l = feed_inside (drop i xs) h in let e = length-drop i xs in omega arith

-- one byte further
pub feed_step : (xs : List ℕ) (i : ℕ) → i < length xs → is_line_feed (get_or xs i 0) ≡ false
    → HasLineFeed (drop i xs) → HasLineFeed (drop (i + 1) xs)
feed_step xs i inside other h = feed_behind (get_or xs i 0) (drop i xs) (drop (i + 1) xs) (drop_more xs i 0 inside)
    other h

-- where nothing stands behind the last one
pub unended_feed : (xs : List ℕ) → 0 < length xs → unended [] xs ≡ [] → HasLineFeed xs
unended_feed xs some e = by_case (list_any is_line_feed xs) refl
  where
    by_case : (b : Bool) → list_any is_line_feed xs ≡ b → b ≡ true
    by_case true is = refl
    by_case false is =
        let none : xs ≡ [] = sym (unended_none [] xs (rest_has_none xs (position-none is_line_feed xs is))) ∙ e in
        let l : length xs ≡ 0 = ap length none in
        absurd (omega arith)

pub unended-after_first : (begun xs : List ℕ) → HasLineFeed xs → unended begun xs
    ≡ unended [] (after_first is_line_feed xs)
unended-after_first begun xs h = unended_first xs (position-inside is_line_feed xs h) begun

pub after_first-shorter : (xs after : List ℕ) → HasLineFeed xs → after ≡ after_first is_line_feed xs
    → length after < length xs
after_first-shorter xs after h e =
    let inside = position-inside is_line_feed xs h in
    let n = length-drop (position_or_len is_line_feed xs + 1) xs in
    let l = ap length e in
    omega arith
