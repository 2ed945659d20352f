-- One bit of one word, read or changed.
use Rattle.std.proofs.Common.{◌≡◌, ◌≢◌, ℕ, zero, suc, ◌-◌, ◌*◌, ◌/◌, ◌%◌, ◌^◌, ◌<◌, ◌≤◌, true, false, List, get_or}
use Rattle.std.proofs.Common.{nat_eq, nat_le, sym, ap, ◌∙◌, arith, w64, bit_and, bit_or, replicate, refl}
use Rattle.std.specs.Int.{bit_not}
use Rattle.std.proofs.Math.ListN.{set as put, length-set}
use Rattle.std.proofs.lemmas.List.{get_or-set_other, get_or-set_same}
use Rattle.std.proofs.lemmas.Nat.{or_lt}
use Rattle.std.proofs.lemmas.Nat.Bits.{bit_at_set_same, bit_at_set_other, bit_at_clear_same, bit_at_clear_other}
use Rattle.std.proofs.lemmas.Nat.Bits.{bit_at-zero, shr_and_one}
use Rattle.std.proofs.lemmas.Bool.Decides.{nat_tests}
use Rattle.std.specs.FinSet as set
use Rattle.vir_altset.specs.SetLaws.{contains-empty, contains-retain_all}
use Rattle.vir_altset.specs.Words.{is_set, has_bit, set_of, AreWords}
use Rattle.vir_altset.proofs.PassingLemmas.{is_passing, passing_inserted, passing_removed, contains-passing-0}
use Rattle.vir_altset.proofs.PassingLemmas.{contains-passing-above}

-- words of which one is changed
pub put_words : (n : ℕ) (words : List ℕ) (k word : ℕ) → AreWords n words → k < n → word < 2 ^ 64
    → AreWords n (put words k word)
put_words n words k word are inside fits = record {
  size = length-set words k word ∙ are.size;
  fit = λ j. elim (nat_eq j k) as (λ t. nat_eq j k ≡ t → get_or (put words k word) j 0 < 2 ^ 64) [
    | true ↦ λ t. let is : j ≡ k = grind (arith, nat_tests)
        in rw is (rw (get_or-set_same words k word 0 (omega (arith, are.size))) fits)
    | false ↦ λ t. let apart : j ≢ k = grind (arith, nat_tests) in rw (get_or-set_other words k j word 0 apart)
        (are.fit j)
  ] refl;
}

module _ (n : ℕ) (words : List ℕ) (x : ℕ) (are : AreWords n words) (low : 0 < x) (high : x ≤ 64 * n) where
  module _ (word : ℕ) where
    has_bit-put_same : has_bit (put words ((x - 1) / 64) word) x ≡ is_set word ((x - 1) % 64)
    has_bit-put_same = ap (λ w. is_set w ((x - 1) % 64)) (get_or-set_same words ((x - 1) / 64) word 0
        (omega (arith, are.size)))

    has_bit-put_other : ((i : ℕ) → i < 64 → i ≢ (x - 1) % 64 → is_set word i ≡ is_set (get_or words ((x - 1) / 64) 0) i)
        → (y : ℕ) → 0 < y → y ≤ 64 * n → y ≢ x
        → has_bit (put words ((x - 1) / 64) word) y ≡ has_bit words y
    has_bit-put_other same y from upto apart = elim (nat_eq ((y - 1) / 64) ((x - 1) / 64)) as
        (λ t. nat_eq ((y - 1) / 64) ((x - 1) / 64) ≡ t → has_bit (put words ((x - 1) / 64) word) y ≡ has_bit words y) [
          | true ↦ λ t. let is : (y - 1) / 64 ≡ (x - 1) / 64 = grind (arith, nat_tests) in
              ap (λ w. is_set w ((y - 1) % 64)) (ap (λ j. get_or (put words ((x - 1) / 64) word) j 0) is
              ∙ get_or-set_same words ((x - 1) / 64) word 0 (omega (arith, are.size)))
              ∙ same ((y - 1) % 64) (omega arith) (omega arith) ∙ ap (λ j. is_set (get_or words j 0) ((y - 1) % 64))
              (sym is)
          | false ↦ λ t. let away : (y - 1) / 64 ≢ (x - 1) / 64 = grind (arith, nat_tests) in
              ap (λ w. is_set w ((y - 1) % 64)) (get_or-set_other words ((x - 1) / 64) ((y - 1) / 64) word 0 away)
        ] refl

  -- one bit set
  pub bit_set_words : AreWords n
      (put words ((x - 1) / 64) (bit_or (get_or words ((x - 1) / 64) 0) (1 * 2 ^ ((x - 1) % 64) % 2 ^ 64)))
  bit_set_words = put_words n words ((x - 1) / 64) _ are (omega arith) (or_lt 64 _ _ (are.fit ((x - 1) / 64))
      (omega arith))

  pub set_of-bit_set : set_of n
      (put words ((x - 1) / 64) (bit_or (get_or words ((x - 1) / 64) 0) (1 * 2 ^ ((x - 1) % 64) % 2 ^ 64)))
      ≡ set.insert (set_of n words) x
  set_of-bit_set = passing_inserted (64 * n) (has_bit words) _ x low high
      (has_bit-put_same _ ∙ ap (λ b. nat_eq b 1) (bit_at_set_same w64 (get_or words ((x - 1) / 64) 0) ((x - 1) % 64)
      (omega arith)))
      (has_bit-put_other _ (λ i h apart. ap (λ b. nat_eq b 1) (bit_at_set_other w64 (get_or words ((x - 1) / 64) 0)
      ((x - 1) % 64) (omega arith) i apart)))

  -- one bit cleared
  pub set_of-bit_cleared : set_of n
      (put words ((x - 1) / 64) (bit_and (get_or words ((x - 1) / 64) 0)
      (bit_not w64 (1 * 2 ^ ((x - 1) % 64) % 2 ^ 64)))) ≡ set.remove (set_of n words) x
  set_of-bit_cleared = passing_removed (64 * n) (has_bit words) _ x low high
      (has_bit-put_same _ ∙ ap (λ b. nat_eq b 1) (bit_at_clear_same w64 (get_or words ((x - 1) / 64) 0) ((x - 1) % 64)
      (omega arith)))
      (has_bit-put_other _ (λ i h apart. ap (λ b. nat_eq b 1) (bit_at_clear_other w64 (get_or words ((x - 1) / 64) 0)
      ((x - 1) % 64) (omega arith) i h apart)))

-- one bit read
pub bit_read : (n : ℕ) (words : List ℕ) (x : ℕ) → 0 < x → x ≤ 64 * n
    → nat_eq (bit_and (get_or words ((x - 1) / 64) 0 / 2 ^ ((x - 1) % 64)) 1) 1 ≡ set.contains (set_of n words) x
bit_read n words x low high = ap (λ b. nat_eq b 1) (shr_and_one (get_or words ((x - 1) / 64) 0) ((x - 1) % 64))
    ∙ sym (contains-retain_all (64 * n) (has_bit words) x low high)

-- no bit set
pub set_of-zeros : (n : ℕ) (words : List ℕ) → ((k : ℕ) → get_or words k 0 ≡ 0) → set_of n words ≡ set.empty
set_of-zeros n words zeros = is_passing (64 * n) (has_bit words) set.empty
    (λ x low high. contains-empty x ∙ sym (ap (λ w. is_set w ((x - 1) % 64)) (zeros ((x - 1) / 64))
    ∙ ap (λ b. nat_eq b 1) (bit_at-zero ((x - 1) % 64))))
    (contains-empty 0) (λ x h. contains-empty x)

pub get_or-zeros : (m k : ℕ) → ◌≡◌ {A = ℕ} (get_or (replicate m 0) k 0) 0
get_or-zeros zero k = refl
get_or-zeros (suc m) zero = refl
get_or-zeros (suc m) (suc k) = get_or-zeros m k

-- each member of a set of n words is 1 to 64 n
pub member_within : (n : ℕ) (words : List ℕ) (x : ℕ) → set.contains (set_of n words) x ≡ true → (1 ≤ x) × (x ≤ 64 * n)
member_within n words zero member = cc (contains-passing-0 (64 * n) (has_bit words))
member_within n words (suc k) member = elim (nat_le (suc k) (64 * n)) as (λ b. nat_le (suc k) (64 * n) ≡ b → (1 ≤ suc k)
    × (suc k ≤ 64 * n)) [
      | true ↦ λ e. let le : suc k ≤ 64 * n = grind (arith, nat_tests) in (omega arith, le)
      | false ↦ λ e. let lt : 64 * n < suc k = grind (arith, nat_tests)
          in cc (contains-passing-above (64 * n) (has_bit words) (suc k) lt)
    ] refl
