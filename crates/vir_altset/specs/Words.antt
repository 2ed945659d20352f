-- A set as words of 64 bits: bit i of word k is that of the number 64 k + i + 1.
-- (The program's promises don't stand on this file.)
use Rattle.std.specs.Prelude.{◌≡◌, ℕ, zero, suc, ◌+◌, ◌-◌, ◌*◌, ◌/◌, ◌%◌, ◌^◌, ◌<◌, Bool, cond, List, [], ◌∷◌, length}
use Rattle.std.specs.Prelude.{get_or, nat_eq}
use Rattle.std.specs.Int.{bit_at}
use Rattle.std.specs.FinSet as set
use Rattle.vir_altset.specs.Sets.{Set, all}
use Rattle.vir_altset.specs.declared.alt_set.TheConstants.{WORDS}

-- how many words a set has
abbrev pub word_count : ℕ
word_count = WORDS

-- n words of 64 bits
pub record AreWords (n : ℕ) (words : List ℕ) : Type 0 where
  pub size : length words ≡ n
  pub fit : (k : ℕ) → get_or words k 0 < 2 ^ 64

-- whether bit i of a word is set
abbrev pub is_set : ℕ → ℕ → Bool
is_set word i = nat_eq (bit_at word i) 1

-- whether the bit of x is set
abbrev pub has_bit : List ℕ → ℕ → Bool
has_bit words x = is_set (get_or words ((x - 1) / 64) 0) ((x - 1) % 64)

-- the set of n words: the numbers 1 to 64 n whose bit is set
abbrev pub set_of : ℕ → List ℕ → Set
set_of n words = set.retain (all (64 * n)) (has_bit words)

-- a truth value as a bit
abbrev pub digit : Bool → ℕ
digit b = cond b 1 0

-- the word of n bits, of which bit i tells whether the set has x + i
unfoldable pub word_of : ℕ → ℕ → Set → ℕ
word_of zero x a = 0
word_of (suc n) x a = digit (set.contains a x) + 2 * word_of n (suc x) a

-- n words of a set, the first being word k
unfoldable pub words_of : ℕ → ℕ → Set → List ℕ
words_of zero k a = []
words_of (suc n) k a = word_of 64 (64 * k + 1) a ∷ words_of n (suc k) a
