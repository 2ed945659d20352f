-- Numbers as they are written: some decimal digits.
use Rattle.std.proofs.Common.{◌≡◌, ℕ, ◌<◌, ◌^◌, Bool, true, false, ◌&&◌, List, [], ◌∷◌, length, get_or, decimal, Some}
use Rattle.std.proofs.Common.{nat_eq, nat_lt, refl, arith, rules}
use Rattle.std.specs.List.{list_any, list_all}
use Rattle.std.specs.Char.{is_ascii_digit}
use Rattle.std.specs.Str.Parse.{digits_value}
use Rattle.std.proofs.lemmas.Bool.Decides.{nat_tests}
use Rattle.std.proofs.lemmas.Fmt.{digits_decimal, digits_value-decimal, decimal_is_IsNumeral}
use Rattle.std.proofs.lemmas.Str.Parse.{IsNumeralModel, numerals_by_value}
use Rattle.vir_profile.specs.SocFiles.{is_blank, is_line_feed}
use Rattle.vir_soc.specs.LineKinds.{is_colon, is_hash}
use Rattle.vir_soc.specs.Numbers.{number}
use Rattle.vir_soc.specs.Votes.{is_brace, is_comma}
use Rattle.vir_soc.proofs.AnyLemmas.{All-none}

pub both_true : (a b : Bool) → (a && b) ≡ true → (a ≡ true) × (b ≡ true)
both_true true b h = (refl, h)
both_true false b h = absurd cc

abbrev pub AreDigits : List ℕ → Type 0
AreDigits ds = list_all is_ascii_digit ds ≡ true

numerals : IsNumeralModel AreDigits (digits_value 10)
numerals = numerals_by_value _ (search rules)

pub decimal-some : (n : ℕ) → n < 2 ^ 64 → 0 < length (decimal n)
decimal-some n h = (decimal_is_IsNumeral n h).0.0

-- what is written of a number is that number
pub number-decimal : (n : ℕ) → n < 2 ^ 64 → number (decimal n) ≡ Some n
number-decimal n h =
    let l = decimal-some n h in
    let some : nat_lt 0 (length (decimal n)) ≡ true = grind (arith, nat_tests) in
    rw (some, digits_decimal numerals n h, digits_value-decimal numerals n h) refl

-- a test that no digit passes
abbrev pub FailsDigits : (ℕ → Bool) → Type 0
FailsDigits p = (c : ℕ) → is_ascii_digit c ≡ true → p c ≡ false

pub blank_fails : FailsDigits is_blank
blank_fails c h = grind (arith, nat_tests)

pub colon_fails : FailsDigits is_colon
colon_fails c h = grind (arith, nat_tests)

pub comma_fails : FailsDigits is_comma
comma_fails c h = grind (arith, nat_tests)

pub brace_fails : FailsDigits is_brace
brace_fails c h = grind (arith, nat_tests)

pub hash_fails : FailsDigits is_hash
hash_fails c h = grind (arith, nat_tests)

pub line_feed_fails : FailsDigits is_line_feed
line_feed_fails c h = grind (arith, nat_tests)

-- the first byte of a byte order mark
pub mark_fails : FailsDigits (λ c. nat_eq c 0xEF)
mark_fails c h = grind (arith, nat_tests)

none_passes : (p : ℕ → Bool) → FailsDigits p → (ds : List ℕ) → AreDigits ds → list_any p ds ≡ false
none_passes p f [] h = refl
none_passes p f (c ∷ cs) h = let b = both_true (is_ascii_digit c) (list_all is_ascii_digit cs) h
    in rw (f c b.0) (none_passes p f cs b.1)

-- nothing that is written of a number passes the test
pub list_any-decimal : (p : ℕ → Bool) → FailsDigits p → (n : ℕ) → n < 2 ^ 64 → list_any p (decimal n) ≡ false
list_any-decimal p f n h = none_passes p f (decimal n) (digits_decimal numerals n h)

pub digit_fails : (p : ℕ → Bool) → FailsDigits p → (n : ℕ) → n < 2 ^ 64 → (k : ℕ) → k < length (decimal n)
    → p (get_or (decimal n) k 0) ≡ false
digit_fails p f n h k b = All-none p (decimal n) (list_any-decimal p f n h) k 0 b
