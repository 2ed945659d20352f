-- The steps by which orders are listed.
use Rattle.std.proofs.Common.{◌≡◌, ◌≢◌, ℕ, zero, suc, ◌+◌, ◌-◌, ◌<◌, ◌≤◌, List, [], ◌∷◌, ◌++◌, map, length, take}
use Rattle.std.proofs.Common.{get_or}
use Rattle.std.proofs.Common.{refl, sym, ap, ◌∙◌, subst, arith}
use Rattle.std.proofs.lemmas.List.{take_all}
use Rattle.std.specs.List.{flat_map}
use Rattle.vir_mean.specs.Lifts.{without}
use Rattle.vir_find.specs.Permutations.{up_to, permutations}
use Rattle.vir_find.proofs.Outcomes.{parted_so_far}

one_more : (n : ℕ) → suc n ≡ n + 1
one_more n = omega arith

pub up_to-none : up_to 0 ≡ []
unfolding up_to
up_to-none = refl

pub up_to-more : (n : ℕ) → up_to (n + 1) ≡ up_to n ++ (n + 1) ∷ []
unfolding up_to
up_to-more n = ap up_to (sym (one_more n)) ∙ ap (λ k. up_to n ++ k ∷ []) (one_more n)

abbrev pub starting : ℕ → List ℕ → ℕ → List (List ℕ)
starting k members x = map (λ rest. x ∷ rest) (permutations (k - 1) (without x members))

pub permutations-none : (k : ℕ) (members : List ℕ) → k ≡ 0 → permutations k members ≡ [] ∷ []
unfolding permutations
permutations-none zero members none = refl
permutations-none (suc k) members none = absurd (omega arith)

pub permutations-some : (k : ℕ) (members : List ℕ) → k ≢ 0 → permutations k members
    ≡ flat_map (starting k members) members
unfolding permutations
permutations-some zero members some = absurd (some refl)
permutations-some (suc k) members some =
    ap (λ j. flat_map (λ x. map (λ rest. x ∷ rest) (permutations j (without x members))) members) (less k)
  where
    less : (k : ℕ) → k ≡ suc k - 1
    less k = omega arith

pub permuted_more : (k : ℕ) (members : List ℕ) (i : ℕ) (before after rests : List (List ℕ)) → i < length members
    → before ≡ flat_map (starting k members) (take i members)
    → rests ≡ permutations (k - 1) (without (get_or members i 0) members)
    → after ≡ before ++ map (λ rest. get_or members i 0 ∷ rest) rests
    → after ≡ flat_map (starting k members) (take (i + 1) members)
permuted_more k members i before after rests inside so_far are is =
    is ∙ ap (λ list. list ++ map (λ rest. get_or members i 0 ∷ rest) rests) so_far
    ∙ ap (λ list. flat_map (starting k members) (take i members) ++ map (λ rest. get_or members i 0 ∷ rest) list) are
    ∙ sym (parted_so_far (starting k members) members i inside)
    ∙ ap (λ j. flat_map (starting k members) (take j members)) (one_more i)

pub permuted_all : (k : ℕ) (members : List ℕ) (i : ℕ) (list : List (List ℕ)) → length members ≤ i → k ≢ 0
    → list ≡ flat_map (starting k members) (take i members) → list ≡ permutations k members
permuted_all k members i list end some is =
    is ∙ ap (flat_map (starting k members)) (take_all i members end) ∙ sym (permutations-some k members some)
