-- Two sets joined word by word.
use Rattle.std.proofs.Common.{◌≡◌, ℕ, ◌+◌, ◌-◌, ◌*◌, ◌/◌, ◌%◌, ◌^◌, ◌<◌, ◌≤◌, Bool, true, false, not, ◌&&◌, ◌||◌, List}
use Rattle.std.proofs.Common.{get_or, max, min, nat_eq, nat_lt, refl, ap, ◌∙◌, arith, w64, bit_and, bit_or}
use Rattle.std.specs.Int.{bit_at, bit_not}
use Rattle.std.proofs.Math.ListN.{set as put}
use Rattle.std.proofs.lemmas.List.{get_or-set_other, get_or-set_same}
use Rattle.std.proofs.lemmas.Nat.{and_le_l}
use Rattle.std.proofs.lemmas.Nat.Bits.{bit_at_or, bit_at_and, bit_at_not, bit_at-lt}
use Rattle.std.proofs.lemmas.Bool.Decides.{nat_tests}
use Rattle.std.specs.FinSet as set
use Rattle.vir_altset.specs.SetLaws.{contains-union, contains-intersection, contains-difference}
use Rattle.vir_altset.specs.Sets.{Set}
use Rattle.vir_altset.specs.Words.{is_set, has_bit, set_of, AreWords}
use Rattle.vir_altset.proofs.PassingLemmas.{passing_joined}
use Rattle.vir_altset.proofs.OneWordLemmas.{put_words}

pub bit_and-lt : (v w k : ℕ) → v < k → bit_and v w < k
bit_and-lt v w k h = omega (arith, and_le_l v w)

-- of n words, the first i are joined by g, and the others still those of the first set
pub record JoinedBelow (n : ℕ) (g : ℕ → ℕ → ℕ) (first second words : List ℕ) (i : ℕ) : Type 0 where
  pub are : AreWords n words
  pub done : (k : ℕ) → k < i → get_or words k 0 ≡ g (get_or first k 0) (get_or second k 0)
  pub rest : (k : ℕ) → i ≤ k → get_or words k 0 ≡ get_or first k 0

pub joined_none : (n : ℕ) (g : ℕ → ℕ → ℕ) (first second : List ℕ) → AreWords n first → JoinedBelow n g first second
    first 0
joined_none n g first second are = record { are = are; done = λ k h. absurd (omega arith); rest = λ k h. refl }

pub joined_more : (n : ℕ) {g : ℕ → ℕ → ℕ} {first second words : List ℕ} {i : ℕ} → JoinedBelow n g first second words i
    → i < n
    → (word : ℕ) → word ≡ g (get_or words i 0) (get_or second i 0) → word < 2 ^ 64 → JoinedBelow n g first second
    (put words i word) (i + 1)
joined_more n {g} {first} {second} {words} {i} joined inside word is fits = record {
  are = put_words n words i word joined.are inside fits;
  done = λ k l. elim (nat_lt k i) as (λ b. nat_lt k i ≡ b → get_or (put words i word) k 0 ≡ g (get_or first k 0)
      (get_or second k 0)) [
        | true ↦ λ t. let lt : k < i = grind (arith, nat_tests) in get_or-set_other words i k word 0 (omega arith)
            ∙ joined.done k lt
        | false ↦ λ t. let here : k ≡ i = grind (arith, nat_tests) in
            rw here (get_or-set_same words i word 0 (omega (arith, joined.are.size)) ∙ is
            ∙ ap (λ w. g w (get_or second i 0)) (joined.rest i (omega arith)))
      ] refl;
  rest = λ k l. get_or-set_other words i k word 0 (omega arith) ∙ joined.rest k (omega arith);
}

module _ (n : ℕ) {first second words : List ℕ} {i : ℕ} where
  joined_all : {g : ℕ → ℕ → ℕ} → JoinedBelow n g first second words i → n ≤ i → AreWords n first → AreWords n second
      → (f : Bool → Bool → Bool) → f false false ≡ false
      → ((v w k : ℕ) → v < 2 ^ 64 → w < 2 ^ 64 → k < 64 → is_set (g v w) k ≡ f (is_set v k) (is_set w k)) → (a : Set)
      → ((x : ℕ) → set.contains a x ≡ f (set.contains (set_of n first) x) (set.contains (set_of n second) x))
      → set_of n words ≡ a
  joined_all joined end are also f none bits a is =
      passing_joined (64 * n) f none (has_bit first) (has_bit second) (has_bit words)
      (λ x low high. ap (λ w. is_set w ((x - 1) % 64)) (joined.done ((x - 1) / 64) (omega arith))
      ∙ bits _ _ ((x - 1) % 64) (are.fit ((x - 1) / 64)) (also.fit ((x - 1) / 64)) (omega arith))
      a is

  pub set_of-union : JoinedBelow n bit_or first second words i → n ≤ i → AreWords n first → AreWords n second
      → set_of n words ≡ set.union (set_of n first) (set_of n second)
  set_of-union joined end are also = joined_all joined end are also ◌||◌ refl
      (λ v w k h l s. ap (λ b. nat_eq b 1) (bit_at_or v w k) ∙ either (bit_at v k) (bit_at w k) (bit_at-lt v k)
      (bit_at-lt w k))
      _ (contains-union (set_of n first) (set_of n second))
    where
      either : (b c : ℕ) → b < 2 → c < 2 → nat_eq (max b c) 1 ≡ (nat_eq b 1 || nat_eq c 1)
      either b c h k = grind (arith, nat_tests)

  pub set_of-intersection : JoinedBelow n bit_and first second words i → n ≤ i → AreWords n first → AreWords n second
      → set_of n words ≡ set.intersection (set_of n first) (set_of n second)
  set_of-intersection joined end are also = joined_all joined end are also ◌&&◌ refl
      (λ v w k h l s. ap (λ b. nat_eq b 1) (bit_at_and v w k) ∙ both (bit_at v k) (bit_at w k) (bit_at-lt v k)
      (bit_at-lt w k))
      _ (contains-intersection (set_of n first) (set_of n second))
    where
      both : (b c : ℕ) → b < 2 → c < 2 → nat_eq (min b c) 1 ≡ (nat_eq b 1 && nat_eq c 1)
      both b c h k = grind (arith, nat_tests)

  pub set_of-difference : JoinedBelow n (λ v w. bit_and v (bit_not w64 w)) first second words i → n ≤ i
      → AreWords n first → AreWords n second → set_of n words ≡ set.difference (set_of n first) (set_of n second)
  set_of-difference joined end are also = joined_all joined end are also (λ p q. p && not q) refl
      (λ v w k h l s. ap (λ b. nat_eq b 1) (bit_at_and v (bit_not w64 w) k ∙ ap (min (bit_at v k))
      (bit_at_not w64 w k l s)) ∙ first_alone (bit_at v k) (bit_at w k) (bit_at-lt v k) (bit_at-lt w k))
      _ (contains-difference (set_of n first) (set_of n second))
    where
      first_alone : (b c : ℕ) → b < 2 → c < 2 → nat_eq (min b (1 - c)) 1 ≡ (nat_eq b 1 && not (nat_eq c 1))
      first_alone b c h k = grind (arith, nat_tests)
