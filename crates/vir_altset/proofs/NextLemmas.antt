-- The next member of a set, looked for word by word.
use Rattle.std.proofs.Common.{◌≡◌, ◌≢◌, ℕ, ◌+◌, ◌-◌, ◌*◌, ◌/◌, ◌%◌, ◌^◌, ◌<◌, ◌≤◌, true, false, List, get_or, min}
use Rattle.std.proofs.Common.{nat_eq, nat_le, refl, sym, ap, ◌∙◌, arith, w64, bit_and}
use Rattle.std.specs.Int.{bit_at, trailing_zeros}
use Rattle.std.proofs.lemmas.Nat.Bits.{bit_at_and, bit_at-lt, bit_at-zero, bit_at_mask_inside, bit_at_mask_below}
use Rattle.std.proofs.lemmas.Nat.Bits.{bit_at-trailing_zeros}
use Rattle.std.proofs.lemmas.Bool.Decides.{nat_tests}
use Rattle.std.specs.FinSet as set
use Rattle.vir_altset.specs.SetLaws.{contains-retain_all}
use Rattle.vir_altset.specs.Sets.{IsLast, IsNext}
use Rattle.vir_altset.specs.Words.{is_set, has_bit, set_of}
use Rattle.vir_altset.specs.WordsBack.{has_bit-at}
use Rattle.vir_altset.proofs.PassingLemmas.{contains-passing-above}

-- no number above x and up to m has its bit set
abbrev pub IsClear : List ℕ → ℕ → ℕ → Type 0
IsClear words x m = (y : ℕ) → x < y → y ≤ m → has_bit words y ≡ false

has_bit-in_word : (words : List ℕ) (k y : ℕ) → 64 * k < y → y ≤ 64 * k + 64 → has_bit words y
    ≡ is_set (get_or words k 0) (y - 1 - 64 * k)
has_bit-in_word words k y low high = ap (has_bit words) (omega arith) ∙ has_bit-at words k (y - 1 - 64 * k)
    (omega arith)

-- clear to the end of a word of which the bits from i on are zero
clear_word : (words : List ℕ) (x k i : ℕ) → IsClear words x (64 * k + i) → i ≤ 64
    → ((j : ℕ) → i ≤ j → j < 64 → is_set (get_or words k 0) j ≡ false) → IsClear words x (64 * (k + 1))
clear_word words x k i clear inside zeros y above upto = elim (nat_le y (64 * k + i)) as (λ t. nat_le y (64 * k + i) ≡ t
    → has_bit words y ≡ false) [
      | true ↦ λ t. let le : y ≤ 64 * k + i = grind (arith, nat_tests) in clear y above le
      | false ↦ λ t. let lt : 64 * k + i < y = grind (arith, nat_tests) in has_bit-in_word words k y (omega arith)
          (omega arith) ∙ zeros (y - 1 - 64 * k) (omega arith) (omega arith)
    ] refl

-- the first bit that is set is that of the next member
next_bit : (n : ℕ) (words : List ℕ) (x k i j : ℕ) → IsClear words x (64 * k + i) → x ≤ 64 * k + i → i ≤ j → j < 64
    → k < n → is_set (get_or words k 0) j ≡ true
    → ((l : ℕ) → i ≤ l → l < j → is_set (get_or words k 0) l ≡ false) → IsNext (set_of n words) x (k * 64 + j + 1)
next_bit n words x k i j clear low from inside within one zeros = record {
  above = omega arith;
  member = contains-retain_all (64 * n) (has_bit words) (k * 64 + j + 1) (omega arith) (omega arith)
      ∙ has_bit-in_word words k (k * 64 + j + 1) (omega arith) (omega arith) ∙ ap (is_set (get_or words k 0))
      (omega arith) ∙ one;
  least = λ y a b. contains-retain_all (64 * n) (has_bit words) y (omega arith) (omega arith) ∙ under y a b;
}
  where
    under : (y : ℕ) → x < y → y < k * 64 + j + 1 → has_bit words y ≡ false
    under y a b = elim (nat_le y (64 * k + i)) as (λ s. nat_le y (64 * k + i) ≡ s → has_bit words y ≡ false) [
      | true ↦ λ s. let le : y ≤ 64 * k + i = grind (arith, nat_tests) in clear y a le
      | false ↦ λ s. let lt : 64 * k + i < y = grind (arith, nat_tests) in has_bit-in_word words k y (omega arith)
          (omega arith) ∙ zeros (y - 1 - 64 * k) (omega arith) (omega arith)
    ] refl

-- where all words are clear above x, no member is
pub last_of_clear : (n : ℕ) (words : List ℕ) (x : ℕ) → IsClear words x (64 * n) → IsLast (set_of n words) x
last_of_clear n words x clear y above = elim (nat_le y (64 * n)) as (λ t. nat_le y (64 * n) ≡ t
    → set.contains (set_of n words) y ≡ false) [
      | true ↦ λ t. let le : y ≤ 64 * n = grind (arith, nat_tests) in contains-retain_all (64 * n) (has_bit words) y
          (omega arith) le ∙ clear y above le
      | false ↦ λ t. let lt : 64 * n < y = grind (arith, nat_tests) in contains-passing-above (64 * n) (has_bit words) y
          lt
    ] refl

-- a word of which only the bits from i on are kept
module _ (word i : ℕ) (inside : i < 64) where
  masked_above : (j : ℕ) → i ≤ j → j < 64 → is_set (bit_and word (2 ^ 64 - 2 ^ i)) j ≡ is_set word j
  masked_above j from upto = ap (λ d. nat_eq d 1) (bit_at_and word (2 ^ 64 - 2 ^ i) j ∙ ap (min (bit_at word j))
      (bit_at_mask_inside i 64 j from upto) ∙ with_one (bit_at word j) (bit_at-lt word j))
    where
      with_one : (d : ℕ) → d < 2 → min d 1 ≡ d
      with_one d h = omega arith

  masked_below : (j : ℕ) → j < i → is_set (bit_and word (2 ^ 64 - 2 ^ i)) j ≡ false
  masked_below j below = ap (λ d. nat_eq d 1) (bit_at_and word (2 ^ 64 - 2 ^ i) j ∙ ap (min (bit_at word j))
      (bit_at_mask_below i 64 j below) ∙ with_zero (bit_at word j))
    where
      with_zero : (d : ℕ) → min d 0 ≡ 0
      with_zero d = omega arith

is_set-0 : (word i : ℕ) → word ≡ 0 → is_set word i ≡ false
is_set-0 word i e = ap (λ w. is_set w i) e ∙ ap (λ d. nat_eq d 1) (bit_at-zero i)

-- bit i is the lowest bit of a word that is set
pub record IsLowest (word i : ℕ) : Type 0 where
  pub inside : i < 64
  pub one : is_set word i ≡ true
  pub zeros : (j : ℕ) → j < i → is_set word j ≡ false

pub lowest : (word : ℕ) → word ≢ 0 → word < 2 ^ 64 → IsLowest word (trailing_zeros w64 word)
lowest word some fits = let facts = bit_at-trailing_zeros w64 word (omega arith) fits in
    record { inside = facts.0; one = ap (λ d. nat_eq d 1) facts.1; zeros = λ j l. ap (λ d. nat_eq d 1) (facts.2 j l) }

-- a member in the word of x
pub next_in_first_word : (n : ℕ) (words : List ℕ) (x i : ℕ) → x < 64 * n
    → IsLowest (bit_and (get_or words (x / 64) 0) (2 ^ 64 - 2 ^ (x % 64))) i → IsNext (set_of n words) x (x / 64 * 64
    + i + 1)
next_in_first_word n words x i within low =
    next_bit n words x (x / 64) (x % 64) i (λ y a b. absurd (omega arith)) (omega arith) reached low.inside
    (omega arith)
    (sym (masked_above (get_or words (x / 64) 0) (x % 64) (omega arith) i reached low.inside) ∙ low.one)
    (λ j a b. let in_word = low.inside in sym (masked_above (get_or words (x / 64) 0) (x % 64) (omega arith) j a
    (omega arith)) ∙ low.zeros j b)
  where
    reached : x % 64 ≤ i
    reached = elim (nat_le (x % 64) i) as (λ s. nat_le (x % 64) i ≡ s → x % 64 ≤ i) [
      | true ↦ λ s. grind (arith, nat_tests)
      | false ↦ λ s. let lt : i < x % 64 = grind (arith, nat_tests)
          in cc (masked_below (get_or words (x / 64) 0) (x % 64) (omega arith) i lt, low.one)
    ] refl

-- no member in the word of x
pub clear_first_word : (words : List ℕ) (x : ℕ) → bit_and (get_or words (x / 64) 0) (2 ^ 64 - 2 ^ (x % 64)) ≡ 0
    → IsClear words x (64 * (x / 64 + 1))
clear_first_word words x none =
    clear_word words x (x / 64) (x % 64) (λ y a b. absurd (omega arith)) (omega arith)
    (λ j a b. sym (masked_above (get_or words (x / 64) 0) (x % 64) (omega arith) j a b) ∙ is_set-0 _ j none)

-- a member in a later word
pub next_in_later_word : (n : ℕ) (words : List ℕ) (x k i : ℕ) → IsClear words x (64 * k) → x ≤ 64 * k → k < n
    → IsLowest (get_or words k 0) i → IsNext (set_of n words) x (k * 64 + i + 1)
next_in_later_word n words x k i clear low within is = next_bit n words x k 0 i (λ y a b. clear y a (omega arith))
    (omega arith) (omega arith) is.inside within is.one (λ j a b. is.zeros j b)

-- no member in a later word
pub clear_later_word : (words : List ℕ) (x k : ℕ) → IsClear words x (64 * k) → get_or words k 0 ≡ 0
    → IsClear words x (64 * (k + 1))
clear_later_word words x k clear none = clear_word words x k 0 (λ y a b. clear y a (omega arith)) (omega arith)
    (λ j a b. is_set-0 _ j none)
