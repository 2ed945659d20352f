-- Texts with no blank at their ends, and texts that are cut where a byte first passes a test, as a colon.
use Rattle.std.proofs.Common.{◌≡◌, ℕ, suc, ◌+◌, ◌-◌, ◌<◌, ◌^◌, Bool, true, false, List, [], ◌∷◌, ◌++◌, length, take}
use Rattle.std.proofs.Common.{◌≤◌, drop, get_or, decimal, nat_eq, ap, sym, ◌∙◌, refl, arith, append_assoc}
use Rattle.std.specs.List.{list_any, prefix_len, suffix_len, position_or_len, before_first, after_first}
use Rattle.std.specs.Prelude.{reverse}
use Rattle.std.proofs.lemmas.List.{take_all, take_at, drop_at, length-append, length-reverse, get_or-reverse}
use Rattle.std.proofs.lemmas.List.{get_or_append_left, get_or-append-add}
use Rattle.std.proofs.lemmas.List.Folds.{list_any-append}
use Rattle.std.proofs.lemmas.List.Sums.{prefix_len_stops, suffix_len-take_no, suffix_len_is}
use Rattle.std.proofs.Math.Seq.{get_or-append_seam, take-append_seam}
use Rattle.vir_profile.specs.SocFiles.{IsNameText, is_blank}
use Rattle.vir_soc.specs.Lines.{trim, trim_back, trim_front, without_mark}
use Rattle.vir_soc.specs.LineKinds.{is_colon}
use Rattle.vir_soc.proofs.AnyLemmas.{or_false}
use Rattle.vir_soc.proofs.DigitLemmas.{decimal-some, digit_fails, blank_fails}

-- ---- trimming

-- some bytes, with no blank at either end
pub record IsClean (text : List ℕ) : Type 0 where
  pub some : 0 < length text
  pub front : is_blank (get_or text 0 0) ≡ false
  pub back : is_blank (get_or text (length text - 1) 0) ≡ false

trim_back-clean : (text : List ℕ) → 0 < length text → is_blank (get_or text (length text - 1) 0) ≡ false
    → trim_back text ≡ text
trim_back-clean text h e =
    let none : suffix_len is_blank text ≡ 0 = sym (ap (suffix_len is_blank) (take_all (length text) text (omega arith)))
    ∙ suffix_len-take_no is_blank text (length text) 0 h (omega arith) e in
    ap (λ n. take (length text - n) text) none ∙ take_all (length text - 0) text (omega arith)

pub trim-clean : (text : List ℕ) → IsClean text → trim text ≡ text
trim-clean [] h = let some = h.some in absurd (omega arith)
trim-clean (c ∷ cs) h =
    let front : trim_front (c ∷ cs) ≡ c ∷ cs = rw h.front refl in
    ap trim_back front ∙ trim_back-clean (c ∷ cs) h.some h.back

pub trim-space : (text : List ℕ) → trim (32 ∷ text) ≡ trim text
trim-space text = let e : 1 + prefix_len is_blank text ≡ suc (prefix_len is_blank text) = omega arith
    in ap (λ n. trim_back (drop n (32 ∷ text))) e

pub trim-spaced : (text : List ℕ) → IsClean text → trim (32 ∷ text) ≡ text
trim-spaced text h = trim-space text ∙ trim-clean text h

-- a carriage return at the end
pub trim-returned : (text : List ℕ) → IsClean text → trim (text ++ 13 ∷ []) ≡ text
trim-returned [] h = let some = h.some in absurd (omega arith)
trim-returned (c ∷ cs) h =
    let text = c ∷ cs in
    let all = text ++ 13 ∷ [] in
    let n = length text in
    let some = h.some in
    let len : length all ≡ n + 1 = length-append text (13 ∷ []) in
    let front : trim_front all ≡ all = rw h.front refl in
    let at_end : (k : ℕ) → n ≤ k → k < length all → is_blank (get_or all k 0) ≡ true =
    λ k low high.
    let e : k ≡ n = omega arith in
    ap (λ j. is_blank (get_or all j 0)) e ∙ ap is_blank (get_or-append_seam text 13 [] 0) in
    let before : 0 < n → is_blank (get_or all (n - 1) 0) ≡ false =
    λ _. ap is_blank (get_or_append_left text (13 ∷ []) 0 (n - 1) (omega arith)) ∙ h.back in
    let blank : suffix_len is_blank all ≡ length all - n = suffix_len_is is_blank all n 0 (omega arith) at_end before in
    let left : length all - suffix_len is_blank all ≡ n = omega arith in
    ap trim_back front ∙ ap (λ j. take j all) left ∙ take-append_seam text (13 ∷ [])

-- a text that begins with no byte order mark
pub without_mark-none : (text : List ℕ) → nat_eq (get_or text 0 0) 0xEF ≡ false → without_mark text ≡ text
without_mark-none [] h = refl
without_mark-none (c ∷ cs) h = rw h refl

-- the last byte of two parts
pub last-append : (xs ys : List ℕ) → 0 < length ys → get_or (xs ++ ys) (length (xs ++ ys) - 1) 0
    ≡ get_or ys (length ys - 1) 0
last-append xs ys h =
    let e : length (xs ++ ys) - 1 ≡ length xs + (length ys - 1) = omega (arith, length-append xs ys) in
    ap (λ n. get_or (xs ++ ys) n 0) e ∙ get_or-append-add xs ys (length ys - 1) 0

-- two parts, of which the first has no blank at its front and the second none at its end
pub IsClean-append : (xs ys : List ℕ) → 0 < length xs → 0 < length ys → is_blank (get_or xs 0 0) ≡ false
    → is_blank (get_or ys (length ys - 1) 0) ≡ false → IsClean (xs ++ ys)
IsClean-append xs ys first last front back =
    let l = length-append xs ys in
    record {
      some = omega arith;
      front = ap is_blank (get_or_append_left xs ys 0 0 first) ∙ front;
      back = ap is_blank (last-append xs ys last) ∙ back;
    }

pub IsClean-decimal : (n : ℕ) → n < 2 ^ 64 → IsClean (decimal n)
IsClean-decimal n h =
    let some = decimal-some n h in
    let l : length (decimal n) - 1 < length (decimal n) = omega arith in
    record {
      some = some;
      front = digit_fails is_blank blank_fails n h 0 some;
      back = digit_fails is_blank blank_fails n
          h (length (decimal n) - 1) l;
    }

-- the text of a name
pub IsClean-name : (text : List ℕ) → IsNameText text → IsClean text
IsClean-name text h =
    let some = h.some in
    let len : length (reverse text) ≡ length text = length-reverse text in
    let from_front : prefix_len is_blank text < length text = rw h.front some in
    let from_back : suffix_len is_blank text < length (reverse text) = rw (h.back, len) some in
    let e : length text - 1 - 0 ≡ length text - 1 = omega arith in
    record {
      some = some;
      front = ap (λ k. is_blank (get_or text k 0)) (sym h.front) ∙ prefix_len_stops is_blank text 0 from_front;
      back = ap is_blank (ap (λ k. get_or text k 0) (sym e) ∙ sym (get_or-reverse text 0 0 some))
          ∙ ap (λ k. is_blank (get_or (reverse text) k 0)) (sym h.back) ∙ prefix_len_stops is_blank (reverse text) 0
          from_back;
    }

-- ---- the first byte that passes a test

pub first_at : (p : ℕ → Bool) (xs : List ℕ) (c : ℕ) (ys : List ℕ) → list_any p xs ≡ false → p c ≡ true
    → position_or_len p (xs ++ c ∷ ys) ≡ length xs
first_at p [] c ys h e = rw e refl
first_at p (x ∷ xs) c ys h e = let b = or_false (p x) (list_any p xs) h in rw (b.0, first_at p xs c ys b.1 e)
    (omega arith)

-- two parts round the first byte that passes
module _ (p : ℕ → Bool) (xs : List ℕ) (c : ℕ) (ys : List ℕ) (h : list_any p xs ≡ false) (e : p c ≡ true) where
  pub before_at : before_first p (xs ++ c ∷ ys) ≡ xs
  before_at = ap (λ n. take n (xs ++ c ∷ ys)) (first_at p xs c ys h e) ∙ take_at xs (c ∷ ys) _ refl

  pub after_at : after_first p (xs ++ c ∷ ys) ≡ ys
  after_at =
      let n : position_or_len p (xs ++ c ∷ ys) + 1 ≡ length (xs ++ c ∷ []) = let a = first_at p xs c ys h e
      in omega (arith, length-append xs (c ∷ [])) in
      ap (λ ts. drop (position_or_len p (xs ++ c ∷ ys) + 1) ts) (sym (append_assoc xs (c ∷ []) ys))
      ∙ drop_at (xs ++ c ∷ []) ys _ (sym n)

-- two parts round a colon, the first without one
module _ (xs ys : List ℕ) (h : list_any is_colon xs ≡ false) where
  pub colon_inside : list_any is_colon (xs ++ 58 ∷ ys) ≡ true
  colon_inside = list_any-append is_colon xs (58 ∷ ys) ∙ rw h refl

  pub before_colon : before_first is_colon (xs ++ 58 ∷ ys) ≡ xs
  before_colon = before_at is_colon xs 58 ys h refl

  pub after_colon : after_first is_colon (xs ++ 58 ∷ ys) ≡ ys
  after_colon = after_at is_colon xs 58 ys h refl
