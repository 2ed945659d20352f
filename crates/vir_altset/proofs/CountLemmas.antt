-- The members of a set are counted word by word.
use Rattle.std.proofs.Common.{◌≡◌, ℕ, zero, suc, ◌+◌, ◌*◌, ◌/◌, ◌%◌, ◌^◌, ◌<◌, ◌≤◌, Bool, cond, List, get_or, nat_eq}
use Rattle.std.proofs.Common.{ap, ◌∙◌, arith, count_ones}
use lib.Count.{ones_step, ones-le}
use Rattle.std.specs.Int.{bit_at}
use Rattle.std.proofs.lemmas.Nat.Bits.{bit_at_lowest, bit_at-suc}
use Rattle.std.proofs.lemmas.Bool.Decides.{nat_tests}
use Rattle.std.specs.FinSet as set
use Rattle.vir_altset.specs.Words.{is_set, has_bit, AreWords}
use Rattle.vir_altset.specs.WordsBack.{has_bit-at}
use Rattle.vir_altset.proofs.PassingLemmas.{passing, len-passing-suc}

count_ones-0 : (word : ℕ) → word < 1 → count_ones word ≡ 0
count_ones-0 word h = let z : word ≡ 0 = omega arith in let l : count_ones word ≤ 0 = ones-le 0 word (omega arith)
    in omega arith

-- a further number counts as much as its bit
lowest_counts : (b : Bool) (word n : ℕ) → b ≡ is_set word 0 → cond b (n + 1) n ≡ n + word % 2
lowest_counts b word n e = rw e (step (bit_at word 0) (word % 2) (bit_at_lowest word) (omega arith))
  where
    step : (d r : ℕ) → d ≡ r → r < 2 → cond (nat_eq d 1) (n + 1) n ≡ n + r
    step d r is h = grind (arith, nat_tests)

-- n further numbers, whose test is the bits of a word
len-passing-word : (n m word : ℕ) (p : ℕ → Bool) → word < 2 ^ n → ((i : ℕ) → i < n → p (suc m + i) ≡ is_set word i)
    → set.len (passing (m + n) p) ≡ set.len (passing m p) + count_ones word
len-passing-word zero m word p h bits =
    let none : count_ones word ≡ 0 = count_ones-0 word (omega arith) in
    let same : set.len (passing (m + 0) p) ≡ set.len (passing m p) = ap (λ j. set.len (passing j p)) (omega arith) in
    omega arith
len-passing-word (suc n) m word p h bits =
    ap (λ j. set.len (passing j p)) (omega arith)
    ∙ len-passing-word n (suc m) (word / 2) p (half n word h) (λ i l. ap p (omega arith) ∙ bits (suc i) (omega arith)
    ∙ ap (λ d. nat_eq d 1) (bit_at-suc word i))
    ∙ ap (λ k. k + count_ones (word / 2)) (len-passing-suc m p ∙ lowest_counts (p (suc m)) word (set.len (passing m p))
    (ap p (omega arith) ∙ bits 0 (omega arith)))
    ∙ omega (arith, ones_step word)
  where
    half : (n word : ℕ) → word < 2 ^ suc n → word / 2 < 2 ^ n
    half n word h = grind (arith)

-- one word further
pub len-further_word : (n : ℕ) (words : List ℕ) (k : ℕ) → AreWords n words
    → set.len (passing (64 * (k + 1)) (has_bit words)) ≡ set.len (passing (64 * k) (has_bit words))
    + count_ones (get_or words k 0)
len-further_word n words k are =
    ap (λ j. set.len (passing j (has_bit words))) (omega arith)
    ∙ len-passing-word 64 (64 * k) (get_or words k 0) (has_bit words) (are.fit k)
    (λ i h. ap (has_bit words) (omega arith) ∙ has_bit-at words k i h)
