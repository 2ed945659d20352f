-- The words of the numbers 1 to m.
use Rattle.std.proofs.Common.{◌≡◌, ℕ, ◌-◌, ◌*◌, ◌/◌, ◌%◌, ◌^◌, ◌<◌, ◌≤◌, Bool, true, false, ◌&&◌, List, get_or, min}
use Rattle.std.proofs.Common.{nat_eq, nat_lt, nat_le, refl, sym, ap, ◌∙◌, arith}
use Rattle.std.proofs.lemmas.Nat.Bits.{bit_at_ones, bit_at_ones_above}
use Rattle.std.proofs.lemmas.Bool.Decides.{nat_tests}
use Rattle.vir_altset.specs.SetLaws.{contains-all}
use Rattle.vir_altset.specs.Sets.{all}
use Rattle.vir_altset.specs.Words.{is_set, has_bit, set_of}
use Rattle.vir_altset.proofs.PassingLemmas.{is_passing}

-- the first i words have the bits of the numbers 1 to m
abbrev pub AreFilled : List ℕ → ℕ → ℕ → Type 0
AreFilled words m i = (k : ℕ) → k < i → get_or words k 0 ≡ 2 ^ min (m - 64 * k) 64 - 1

is_set-ones : (n i : ℕ) → is_set (2 ^ n - 1) i ≡ nat_lt i n
is_set-ones n i = elim (nat_lt i n) as (λ t. nat_lt i n ≡ t → is_set (2 ^ n - 1) i ≡ t) [
  | true ↦ λ e. let lt : i < n = grind (arith, nat_tests) in ap (λ d. nat_eq d 1) (bit_at_ones n i lt)
  | false ↦ λ e. let ge : n ≤ i = grind (arith, nat_tests) in ap (λ d. nat_eq d 1) (bit_at_ones_above n i ge)
] refl

-- x is at most m just where its bit is one of the lowest that word k has of 1 to m
bit_within : (m x : ℕ) → 0 < x → nat_lt ((x - 1) % 64) (min (m - 64 * ((x - 1) / 64)) 64) ≡ (nat_lt 0 x && nat_le x m)
bit_within m x low = elim (nat_le x m) as (λ t. nat_le x m ≡ t → nat_lt ((x - 1) % 64)
    (min (m - 64 * ((x - 1) / 64)) 64) ≡ (nat_lt 0 x && t)) [
      | true ↦ λ e. let upto : x ≤ m = grind (arith, nat_tests) in is_lt _ _ (omega arith) ∙ sym (positive x low)
      | false ↦ λ e. let above : m < x = grind (arith, nat_tests) in not_lt _ _ (omega arith)
          ∙ sym (nothing (nat_lt 0 x))
    ] refl
  where
    positive : (x : ℕ) → 0 < x → (nat_lt 0 x && true) ≡ true
    positive x low = grind (arith, nat_tests)

    nothing : (b : Bool) → (b && false) ≡ false
    nothing b = grind arith

    is_lt : (i n : ℕ) → i < n → nat_lt i n ≡ true
    is_lt i n h = grind (arith, nat_tests)

    not_lt : (i n : ℕ) → n ≤ i → nat_lt i n ≡ false
    not_lt i n h = grind (arith, nat_tests)

pub set_of-filled : (n : ℕ) (words : List ℕ) (m : ℕ) → AreFilled words m n → m ≤ 64 * n → set_of n words ≡ all m
set_of-filled n words m filled upto = is_passing (64 * n) (has_bit words) (all m)
    (λ x low high.
    contains-all m x ∙ sym (ap (λ w. is_set w ((x - 1) % 64)) (filled ((x - 1) / 64) (omega arith))
    ∙ is_set-ones (min (m - 64 * ((x - 1) / 64)) 64) ((x - 1) % 64) ∙ bit_within m x low))
    (contains-all m 0)
    (λ x above. contains-all m x ∙ past x above)
  where
    past : (x : ℕ) → 64 * n < x → (nat_lt 0 x && nat_le x m) ≡ false
    past x above = grind (arith, nat_tests)
