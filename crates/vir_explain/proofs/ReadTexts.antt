-- How a text of visits is read: each number, list, set and score where it ends.
use Rattle.std.proofs.Common.{◌≡◌, ℕ, suc, ◌<◌, List, [], ◌∷◌, ◌++◌, ℤ, pos}
use Rattle.std.proofs.Common.{negsuc}
use Rattle.std.proofs.Common.{decimal, drop, length, refl, sym, ap, ◌∙◌, subst, append_assoc, arith}
use Rattle.std.proofs.lemmas.Fmt.{decimal_is_IsNumeral_wide}
use Rattle.std.proofs.lemmas.Str.Parse.{digit_from_value}
use Rattle.std.specs.Fmt.{signed_decimal}
use Rattle.std.specs.List.{AllByRecursion, flat_map}
use Rattle.std.specs.Char.{digit_value}
use Rattle.std.specs.Str.Parse.{AllDigits, digits_value}
use Rattle.vir_report.specs.ResultText.{spaced}
use Rattle.vir_explain.specs.Visits.{Scored}
use Rattle.vir_explain.specs.VisitTexts.{scored_text}
use Rattle.vir_explain.specs.Legible.{IsShort, IsShortScore, IsShortWhole}

-- texts that begin with different bytes differ
pub apart : {P : Type 0} (c d : ℕ) (r s : List ℕ) → (c ≡ d → ⊥) → c ∷ r ≡ d ∷ s → P
apart c d r s differ e = let same : c ≡ d = cc in absurd (differ same)

-- ---- where digits end

-- The text doesn't begin with a digit.
abbrev IsPast : List ℕ → Type 0
IsPast [] = Unit {0}
IsPast (c ∷ rest) = digit_value c < 10 → ⊥

cut : (xs ys r s : List ℕ) → AllDigits 10 xs → AllDigits 10 ys → IsPast r → IsPast s → xs ++ r ≡ ys ++ s
    → (xs ≡ ys) × (r ≡ s)
cut [] [] r s dx dy pr ps e = (refl, e)
cut [] (y ∷ ys) [] s dx dy pr ps e = absurd cc
cut [] (y ∷ ys) (c ∷ r) s dx dy pr ps e =
    let same : y ≡ c = cc in absurd (pr (subst (λ d. digit_value d < 10) same dy.0))
cut (x ∷ xs) [] r [] dx dy pr ps e = absurd cc
cut (x ∷ xs) [] r (c ∷ s) dx dy pr ps e =
    let same : x ≡ c = cc in absurd (ps (subst (λ d. digit_value d < 10) same dx.0))
cut (x ∷ xs) (y ∷ ys) r s dx dy pr ps e =
    let head : x ≡ y = cc in
    let tail : xs ++ r ≡ ys ++ s = cc in
    let rest = cut xs ys r s dx.1 dy.1 pr ps tail in
    ((λ i. head i ∷ rest.0 i), rest.1)

-- ---- a number

pub number_read : (m n : ℕ) (r s : List ℕ) → IsShort m → IsShort n → IsPast r → IsPast s
    → decimal m ++ r ≡ decimal n ++ s → (m ≡ n) × (r ≡ s)
number_read m n r s short short' pr ps e =
    let one = decimal_is_IsNumeral_wide m short in
    let other = decimal_is_IsNumeral_wide n short' in
    let parts = cut (decimal m) (decimal n) r s one.0.1 other.0.1 pr ps e in
    (sym one.1 ∙ ap (digits_value 10) parts.0 ∙ other.1, parts.1)

-- no number begins with a sign
no_sign : (ds r t : List ℕ) → 0 < length ds → AllDigits 10 ds → ds ++ r ≡ 45 ∷ t → ⊥
no_sign [] r t some digits e = omega arith
no_sign (d ∷ ds) r t some digits e =
    let same : d ≡ 45 = cc in
    let range = digit_from_value d digits.0 in omega arith

unsigned : (n : ℕ) (r t : List ℕ) → IsShort n → decimal n ++ r ≡ 45 ∷ t → ⊥
unsigned n r t short e = let is = decimal_is_IsNumeral_wide n short in no_sign (decimal n) r t is.0.0 is.0.1 e

pub whole_read : (y z : ℤ) (r s : List ℕ) → IsShortWhole y → IsShortWhole z → IsPast r → IsPast s
    → signed_decimal y ++ r ≡ signed_decimal z ++ s → (y ≡ z) × (r ≡ s)
whole_read (pos m) (pos n) r s short short' pr ps e =
    let same = number_read m n r s short short' pr ps e in (ap pos same.0, same.1)
whole_read (pos m) (negsuc n) r s short short' pr ps e = absurd (unsigned m r (decimal (suc n) ++ s) short e)
whole_read (negsuc m) (pos n) r s short short' pr ps e = absurd (unsigned n s (decimal (suc m) ++ r) short' (sym e))
whole_read (negsuc m) (negsuc n) r s short short' pr ps e =
    let tail : decimal (suc m) ++ r ≡ decimal (suc n) ++ s = cc in
    let same = number_read (suc m) (suc n) r s short short' pr ps tail in
    let less : m ≡ n = omega (arith, same.0) in (ap negsuc less, same.1)

-- ---- numbers, each behind a space, to the end of the line

pub past_space : (r : List ℕ) → IsPast (32 ∷ r)
past_space r digit = let range = digit_from_value 32 digit in omega arith

past_end : (r : List ℕ) → IsPast (10 ∷ r)
past_end r digit = let range = digit_from_value 10 digit in omega arith

past_sign : (r : List ℕ) → IsPast (61 ∷ r)
past_sign r digit = let range = digit_from_value 61 digit in omega arith

past_numbers : (ns r : List ℕ) → IsPast (spaced ns ++ 10 ∷ r)
past_numbers [] r = past_end r
past_numbers (n ∷ ns) r = past_space ((decimal n ++ spaced ns) ++ 10 ∷ r)

pub numbers_read : (ms ns r s : List ℕ) → AllByRecursion IsShort ms → AllByRecursion IsShort ns
    → spaced ms ++ 10 ∷ r ≡ spaced ns ++ 10 ∷ s → (ms ≡ ns) × (r ≡ s)
numbers_read [] [] r s short short' e = (refl, cc)
numbers_read [] (n ∷ ns) r s short short' e = apart 10 32 _ _ (omega arith) e
numbers_read (m ∷ ms) [] r s short short' e = apart 32 10 _ _ (omega arith) e
numbers_read (m ∷ ms) (n ∷ ns) r s short short' e =
    let tail : (decimal m ++ spaced ms) ++ 10 ∷ r ≡ (decimal n ++ spaced ns) ++ 10 ∷ s = ap (drop 1) e in
    let number = number_read m n (spaced ms ++ 10 ∷ r) (spaced ns ++ 10 ∷ s) short.0 short'.0 (past_numbers ms r)
    (past_numbers ns s) (sym (append_assoc (decimal m) (spaced ms) (10 ∷ r)) ∙ tail
    ∙ append_assoc (decimal n) (spaced ns) (10 ∷ s)) in
    let rest = numbers_read ms ns r s short.1 short'.1 number.1 in
    ((λ i. number.0 i ∷ rest.0 i), rest.1)

-- ---- scores, to the end of the line

past_scores : (list : List Scored) (r : List ℕ) → IsPast (flat_map scored_text list ++ 10 ∷ r)
past_scores [] r = past_end r
past_scores (s ∷ list) r = past_space (((decimal s.member ++ 61 ∷ []) ++ signed_decimal s.value) ++ flat_map
    scored_text list ++ 10 ∷ r)

-- a score, with what stands behind it
score_shape : (v : Scored) (rest end : List ℕ) → (scored_text v ++ rest) ++ end
    ≡ 32 ∷ (decimal v.member ++ 61 ∷ (signed_decimal v.value ++ (rest ++ end)))
score_shape v rest end = simp append_assoc

pub scores_read : (us vs : List Scored) (r s : List ℕ) → AllByRecursion IsShortScore us → AllByRecursion IsShortScore vs
    → flat_map scored_text us ++ 10 ∷ r ≡ flat_map scored_text vs ++ 10 ∷ s → (us ≡ vs) × (r ≡ s)
scores_read [] [] r s short short' e = (refl, cc)
scores_read [] (v ∷ vs) r s short short' e = apart 10 32 _ _ (omega arith) e
scores_read (u ∷ us) [] r s short short' e = apart 32 10 _ _ (omega arith) e
scores_read (u ∷ us) (v ∷ vs) r s short short' e =
    let both = sym (score_shape u (flat_map scored_text us) (10 ∷ r)) ∙ e ∙ score_shape v (flat_map scored_text vs)
    (10 ∷ s) in
    let tail : decimal u.member ++ 61 ∷ (signed_decimal u.value ++ (flat_map scored_text us ++ 10 ∷ r))
    ≡ decimal v.member ++ 61 ∷ (signed_decimal v.value ++ (flat_map scored_text vs ++ 10 ∷ s)) = ap (drop 1) both in
    let member = number_read u.member v.member (61 ∷ (signed_decimal u.value ++ (flat_map scored_text us ++ 10 ∷ r)))
    (61 ∷ (signed_decimal v.value ++ (flat_map scored_text vs ++ 10 ∷ s))) short.0.0 short'.0.0
    (past_sign (signed_decimal u.value ++ (flat_map scored_text us ++ 10 ∷ r)))
    (past_sign (signed_decimal v.value ++ (flat_map scored_text vs ++ 10 ∷ s))) tail in
    let behind : signed_decimal u.value ++ (flat_map scored_text us ++ 10 ∷ r)
    ≡ signed_decimal v.value ++ (flat_map scored_text vs ++ 10 ∷ s) = ap (drop 1) member.1 in
    let value = whole_read u.value v.value (flat_map scored_text us ++ 10 ∷ r) (flat_map scored_text vs ++ 10 ∷ s)
    short.0.1 short'.0.1 (past_scores us r) (past_scores vs s) behind in
    let rest = scores_read us vs r s short.1 short'.1 value.1 in
    ((λ i. record { member = member.0 i; value = value.0 i } ∷ rest.0 i), rest.1)
