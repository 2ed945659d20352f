-- Words of digits, and the numbers that `parse` reads of them.
use Rattle.std.proofs.Common.{◌≡◌, ℕ, ◌^◌, ◌<◌, ◌≤◌, Bool, true, false, ◌&&◌, cond, nat_eq, nat_lt, List, [], ◌∷◌}
use Rattle.std.proofs.Common.{◌+◌, ◌%◌, ◌++◌, length, drop, decimal, Option, None, Some, refl, sym, ap, ◌∙◌, subst}
use Rattle.std.proofs.Common.{arith}
use Rattle.std.proofs.lemmas.Bool.Decides.{nat_tests}
use Rattle.std.proofs.lemmas.Fmt.{decimal_by_steps, decimal_is_IsNumeral, decimal_nonempty}
use Rattle.std.proofs.lemmas.List.Folds.{list_all-append}
use Rattle.std.specs.Char.{digit_value, is_ascii_digit}
use Rattle.std.specs.List.{list_all}
use Rattle.std.specs.Str.{bytes_eq}
use Rattle.std.specs.Str.Parse.{AllDigits, IsNumeral, digits_value, without_leading_plus}
use Rattle.vir_words.specs.WordNumbers.{is_number, is_within, number_within, plain_number}

left : (a b : Bool) → (a && b) ≡ true → a ≡ true
left a b e = grind arith

right : (a b : Bool) → (a && b) ≡ true → b ≡ true
right a b e = grind arith

digit_value-below : (c : ℕ) → is_ascii_digit c ≡ true → digit_value c < 10
digit_value-below c is = grind (arith, nat_tests)

not_plus : (c : ℕ) → is_ascii_digit c ≡ true → nat_eq c 43 ≡ false
not_plus c is = grind (arith, nat_tests)

positive : (n : ℕ) → nat_lt 0 n ≡ true → 0 < n
positive n is = grind (arith, nat_tests)

all_digits : (bs : List ℕ) → list_all is_ascii_digit bs ≡ true → AllDigits 10 bs
all_digits [] is = tt
all_digits (c ∷ cs) is = (
  digit_value-below c (left _ (list_all is_ascii_digit cs) is),
  all_digits cs
      (right (is_ascii_digit c) _ is),
)

-- digits alone have no plus before them
no_plus : (bs : List ℕ) → list_all is_ascii_digit bs ≡ true → without_leading_plus bs ≡ bs
no_plus [] is = refl
no_plus (c ∷ cs) is = ap (λ (b : Bool). drop (cond b 1 0) (c ∷ cs))
    (not_plus c (left _ (list_all is_ascii_digit cs) is))

numeral : (bs : List ℕ) → is_number bs ≡ true → IsNumeral 10 bs
numeral bs is = (
  positive (length bs) (left _ (list_all is_ascii_digit bs) is),
  all_digits bs
      (right (nat_lt 0 (length bs)) _ is),
)

plain : (bs : List ℕ) → is_number bs ≡ true → without_leading_plus bs ≡ bs
plain bs is = no_plus bs (right (nat_lt 0 (length bs)) _ is)

-- what number_within gives by its two tests
abbrev by_tests : Bool → Bool → ℕ → Option ℕ
by_tests number within v = cond (number && within) (Some v) None

within_is : (low high n : ℕ) → low ≤ n → n ≤ high → is_within low high n ≡ true
within_is low high n above below = grind (arith, nat_tests)

not_within : (low high n : ℕ) → (low ≤ n → n ≤ high → ⊥) → is_within low high n ≡ false
not_within low high n out = grind (arith, nat_tests)

-- no word is a number that isn't digits
pub no_number : (low high : ℕ) (bs : List ℕ) → is_number bs ≡ false → None ≡ number_within low high bs
no_number low high bs is_not =
    sym (ap (λ (b : Bool). by_tests b (is_within low high (digits_value 10 bs)) (digits_value 10 bs)) is_not)

value_is : (bs : List ℕ) (n : ℕ) → is_number bs ≡ true → n ≡ digits_value 10 (without_leading_plus bs) → n
    ≡ digits_value 10 bs
value_is bs n is parsed = parsed ∙ ap (digits_value 10) (plain bs is)

-- a number that is read, and in the range
pub number_inside : (low high : ℕ) (bs : List ℕ) (n : ℕ) → is_number bs ≡ true → n
    ≡ digits_value 10 (without_leading_plus bs) → low ≤ n → n ≤ high → Some n ≡ number_within low high bs
number_inside low high bs n is parsed above below =
    let same = value_is bs n is parsed in
    sym (ap (λ (b : Bool). by_tests b (is_within low high (digits_value 10 bs)) (digits_value 10 bs)) is
    ∙ ap (λ (v : ℕ). by_tests true (is_within low high v) v) (sym same)
    ∙ ap (λ (b : Bool). by_tests true b n) (within_is low high n above below))

-- one that is read, and out of it
pub number_outside : (low high : ℕ) (bs : List ℕ) (n : ℕ) → is_number bs ≡ true → n
    ≡ digits_value 10 (without_leading_plus bs) → (low ≤ n → n ≤ high → ⊥) → None ≡ number_within low high bs
number_outside low high bs n is parsed out =
    let same = value_is bs n is parsed in
    sym (ap (λ (b : Bool). by_tests b (is_within low high (digits_value 10 bs)) (digits_value 10 bs)) is
    ∙ ap (λ (v : ℕ). by_tests true (is_within low high v) v) (sym same)
    ∙ ap (λ (b : Bool). by_tests true b n) (not_within low high n out))

too_great : (high v : ℕ) → high < 2 ^ 64 → (v < 2 ^ 64 → ⊥) → v ≤ high → ⊥
too_great high v small great within = omega arith

-- one that is too great to be read
pub number_unread : (low high : ℕ) (bs : List ℕ) → high < 2 ^ 64 → is_number bs ≡ true
    → (IsNumeral 10 (without_leading_plus bs) × (digits_value 10 (without_leading_plus bs) < 2 ^ 64) → ⊥) → None
    ≡ number_within low high bs
number_unread low high bs small is unread =
    let great : digits_value 10 bs < 2 ^ 64 → ⊥ = λ below. unread (rw (plain bs is) (numeral bs is, below)) in
    let out : low ≤ digits_value 10 bs → digits_value 10 bs ≤ high → ⊥ = λ above. too_great high (digits_value 10 bs)
    small great in
    sym (ap (λ (b : Bool). by_tests b (is_within low high (digits_value 10 bs)) (digits_value 10 bs)) is
    ∙ ap (λ (b : Bool). by_tests true b (digits_value 10 bs)) (not_within low high (digits_value 10 bs) out))

-- a word that isn't empty, by a test of its bytes
pub number_by_bytes : (bs : List ℕ) (r : Bool) → 0 < length bs → r ≡ list_all is_ascii_digit bs → r ≡ is_number bs
number_by_bytes bs r some is = is ∙ sym (ap (λ (b : Bool). b && list_all is_ascii_digit bs) (at_least (length bs) some))
  where
    at_least : (n : ℕ) → 0 < n → nat_lt 0 n ≡ true
    at_least n above = grind (arith, nat_tests)

-- ---- a number that is within a range

within_both : (low high n : ℕ) → is_within low high n ≡ true → (low ≤ n) × (n ≤ high)
within_both low high n is = grind (arith, nat_tests)

by_tests_some : (number within : Bool) (v n : ℕ) → by_tests number within v ≡ Some n → (within ≡ true) × (v ≡ n)
by_tests_some true true v n e = (refl, cc)
by_tests_some true false v n e = absurd (cc)
by_tests_some false true v n e = absurd (cc)
by_tests_some false false v n e = absurd (cc)

-- it is the number that the digits write
pub number_is : (low high : ℕ) (bs : List ℕ) (n : ℕ) → number_within low high bs ≡ Some n → digits_value 10 bs ≡ n
number_is low high bs n e =
    (by_tests_some (is_number bs) (is_within low high (digits_value 10 bs)) (digits_value 10 bs) n e).1

pub number_is_within : (low high : ℕ) (bs : List ℕ) (n : ℕ) → number_within low high bs ≡ Some n
    → (low ≤ n) × (n ≤ high)
number_is_within low high bs n e =
    let found = by_tests_some (is_number bs) (is_within low high (digits_value 10 bs)) (digits_value 10 bs) n e in
    subst (λ m. (low ≤ m) × (m ≤ high)) found.1 (within_both low high (digits_value 10 bs) found.0)

-- ---- decimals

digit : (n : ℕ) → n < 10 → is_ascii_digit (48 + n) ≡ true
digit n small = grind (arith, nat_tests)

digit_last : (ds : List ℕ) (d : ℕ) → list_all is_ascii_digit ds ≡ true → is_ascii_digit d ≡ true
    → list_all is_ascii_digit (ds ++ d ∷ []) ≡ true
digit_last ds d all last =
    list_all-append is_ascii_digit ds (d ∷ []) ∙ ap (λ b. b && (is_ascii_digit d && true)) all
    ∙ ap (λ b. b && true) last

below_ten : (n : ℕ) → n % 10 < 10
below_ten n = omega arith

-- a decimal is of digits
pub decimal_digits : (n : ℕ) → n < 2 ^ 64 → list_all is_ascii_digit (decimal n) ≡ true
decimal_digits n small =
    decimal_by_steps (λ m ds. list_all is_ascii_digit ds ≡ true)
    (λ m below. ap (λ b. b && true) (digit m below))
    (λ m ds above all. digit_last ds (48 + m % 10) all (digit (m % 10) (below_ten m))) n small

and_true : (a b : Bool) → a ≡ true → b ≡ true → (a && b) ≡ true
and_true a b e f = grind arith

some_are : (n : ℕ) → 0 < n → nat_lt 0 n ≡ true
some_are n above = grind (arith, nat_tests)

decimal_is_number : (n : ℕ) → n < 2 ^ 64 → is_number (decimal n) ≡ true
decimal_is_number n small =
    and_true (nat_lt 0 (length (decimal n))) (list_all is_ascii_digit (decimal n))
    (some_are (length (decimal n)) (decimal_nonempty n small)) (decimal_digits n small)

-- a decimal writes its number
pub number_of_decimal : (low high n : ℕ) → n < 2 ^ 64 → low ≤ n → n ≤ high → number_within low high (decimal n) ≡ Some n
number_of_decimal low high n small above below =
    let value : digits_value 10 (decimal n) ≡ n = (decimal_is_IsNumeral n small).1 in
    ap (λ b. by_tests b (is_within low high (digits_value 10 (decimal n))) (digits_value 10 (decimal n)))
    (decimal_is_number n small)
    ∙ ap (λ v. by_tests true (is_within low high v) v) value
    ∙ ap (λ b. by_tests true b n) (within_is low high n above below)

-- ---- numbers without leading zeros

abbrev if_plain : Bool → Option ℕ → Option ℕ
if_plain plain found = cond plain found None

pub plain_found : (most : ℕ) (bs : List ℕ) (n : ℕ) → Some n ≡ number_within 0 most bs
    → bytes_eq (decimal n) bs ≡ true → Some n ≡ plain_number most bs
plain_found most bs n e is =
    let value : digits_value 10 bs ≡ n = number_is 0 most bs n (sym e) in
    e ∙ sym (ap (λ v. if_plain (bytes_eq (decimal v) bs) (number_within 0 most bs)) value
    ∙ ap (λ b. if_plain b (number_within 0 most bs)) is)

pub plain_other : (most : ℕ) (bs : List ℕ) (n : ℕ) → Some n ≡ number_within 0 most bs
    → bytes_eq (decimal n) bs ≡ false → None ≡ plain_number most bs
plain_other most bs n e is =
    let value : digits_value 10 bs ≡ n = number_is 0 most bs n (sym e) in
    sym (ap (λ v. if_plain (bytes_eq (decimal v) bs) (number_within 0 most bs)) value
    ∙ ap (λ b. if_plain b (number_within 0 most bs)) is)

pub plain_none : (most : ℕ) (bs : List ℕ) → None ≡ number_within 0 most bs → None ≡ plain_number most bs
plain_none most bs e =
    none_both (bytes_eq (decimal (digits_value 10 bs)) bs) (number_within 0 most bs) e
  where
    none_both : (b : Bool) (o : Option ℕ) → None ≡ o → None ≡ if_plain b o
    none_both true o is = is
    none_both false o is = refl
