-- The words of the set of some words are these words.
-- (The program's promises don't stand on this file.)
use Rattle.std.proofs.Common.{◌≡◌, ℕ, zero, suc, ◌+◌, ◌-◌, ◌*◌, ◌/◌, ◌%◌, ◌^◌, ◌<◌, Bool, true, false, List, [], ◌∷◌}
use Rattle.std.proofs.Common.{length, get_or, nat_eq, refl, sym, ap, ◌∙◌, arith}
use Rattle.std.specs.Int.{bit_at}
use Rattle.std.proofs.lemmas.Nat.Bits.{bit_at_lowest, bit_at-suc, bit_at-lt, same_from_bits_below}
use Rattle.std.proofs.lemmas.Bool.Decides.{nat_tests}
use Rattle.std.specs.FinSet as set
use Rattle.vir_altset.specs.Sets.{Set}
use Rattle.vir_altset.specs.SetLaws.{contains-retain_all}
use Rattle.vir_altset.specs.Words.{is_set, has_bit, digit, set_of, word_of, words_of, AreWords}

digit-lt : (b : Bool) → digit b < 2
digit-lt true = omega arith
digit-lt false = omega arith

digit-is_set : (b : ℕ) → b < 2 → digit (nat_eq b 1) ≡ b
digit-is_set b h = grind (arith, nat_tests)

word_of-lt : (n x : ℕ) (a : Set) → word_of n x a < 2 ^ n
unfolding word_of
word_of-lt zero x a = omega arith
word_of-lt (suc n) x a = let first : digit (set.contains a x) < 2 = digit-lt (set.contains a x) in let rest =
    word_of-lt n (suc x) a in grind (arith)

lowest_digit : (d w : ℕ) → d < 2 → (d + 2 * w) % 2 ≡ d
lowest_digit d w h = omega arith

other_digits : (d w : ℕ) → d < 2 → (d + 2 * w) / 2 ≡ w
other_digits d w h = omega arith

-- each bit of the word of a set
bit_at-word_of : (n x : ℕ) (a : Set) (i : ℕ) → i < n → bit_at (word_of n x a) i ≡ digit (set.contains a (x + i))
unfolding word_of
bit_at-word_of zero x a i h = absurd (omega arith)
bit_at-word_of (suc n) x a zero h =
    bit_at_lowest (word_of (suc n) x a) ∙ lowest_digit (digit (set.contains a x)) (word_of n (suc x) a)
    (digit-lt (set.contains a x)) ∙ ap (λ y. digit (set.contains a y)) (omega arith)
bit_at-word_of (suc n) x a (suc i) h =
    bit_at-suc (word_of (suc n) x a) i ∙ ap (λ w. bit_at w i) (other_digits (digit (set.contains a x))
    (word_of n (suc x) a) (digit-lt (set.contains a x)))
    ∙ bit_at-word_of n (suc x) a i (omega arith) ∙ ap (λ y. digit (set.contains a y)) (omega arith)

length-words_of : (n k : ℕ) (a : Set) → length (words_of n k a) ≡ n
unfolding words_of
length-words_of zero k a = refl
length-words_of (suc n) k a = ap suc (length-words_of n (suc k) a)

get_or-words_of : (n k : ℕ) (a : Set) (j : ℕ) → j < n → get_or (words_of n k a) j 0 ≡ word_of 64 (64 * (k + j) + 1) a
unfolding words_of
get_or-words_of zero k a j h = absurd (omega arith)
get_or-words_of (suc n) k a zero h = ap (λ x. word_of 64 x a) (omega arith)
get_or-words_of (suc n) k a (suc j) h = get_or-words_of n (suc k) a j (omega arith) ∙ ap (λ x. word_of 64 x a)
    (omega arith)

-- two lists of one length with the same items are equal
same_list : (xs ys : List ℕ) → length xs ≡ length ys → ((k : ℕ) → k < length xs → get_or xs k 0 ≡ get_or ys k 0) → xs
    ≡ ys
same_list [] [] e h = refl
same_list [] (y ∷ ys) e h = absurd (omega arith)
same_list (x ∷ xs) [] e h = absurd (omega arith)
same_list (x ∷ xs) (y ∷ ys) e h = ap (λ z. z ∷ xs) (h 0 (omega arith))
    ∙ ap (λ zs. y ∷ zs) (same_list xs ys (omega arith) (λ k l. h (suc k) (omega arith)))

-- bit i of word k is that of 64 k + i + 1
pub has_bit-at : (words : List ℕ) (k i : ℕ) → i < 64 → has_bit words (64 * k + 1 + i) ≡ is_set (get_or words k 0) i
has_bit-at words k i h = ap (λ j. is_set (get_or words j 0) ((64 * k + 1 + i - 1) % 64)) (omega arith)
    ∙ ap (is_set (get_or words k 0)) (omega arith)

digit_back : (n : ℕ) (words : List ℕ) (k i : ℕ) → k < n → i < 64
    → bit_at (word_of 64 (64 * (0 + k) + 1) (set_of n words)) i ≡ bit_at (get_or words k 0) i
digit_back n words k i below h =
    bit_at-word_of 64 _ _ i h
    ∙ ap digit (contains-retain_all (64 * n) (has_bit words) (64 * (0 + k) + 1 + i) (omega arith) (omega arith)
    ∙ ap (λ j. has_bit words (64 * j + 1 + i)) (omega arith) ∙ has_bit-at words k i h)
    ∙ digit-is_set (bit_at (get_or words k 0) i) (bit_at-lt (get_or words k 0) i)

-- the words that the set gives back
pub words_of-set_of : (n : ℕ) (words : List ℕ) → AreWords n words → words_of n 0 (set_of n words) ≡ words
words_of-set_of n words are = same_list _ words (length-words_of n 0 _ ∙ sym are.size)
    (λ k l. let below : k < n = omega (arith, length-words_of n 0 (set_of n words)) in
    get_or-words_of n 0 _ k below
    ∙ same_from_bits_below 64 _ (get_or words k 0) (word_of-lt 64 _ _) (are.fit k) (λ i h. digit_back n words k i below
    h))
