-- Each order of the alternatives from 1 to m is among those that are tried.
use Rattle.std.proofs.Common.{◌≡◌, ◌≢◌, inl, ℕ, zero, suc, ◌+◌, ◌<◌, ◌≤◌, Bool, true, false, cond, ◌||◌, ◌&&◌, nat_eq}
use Rattle.std.proofs.Common.{nat_lt}
use Rattle.std.proofs.Common.{nat_le, List, [], ◌∷◌, ◌++◌, map, length, refl, sym, ap, ◌∙◌, arith, subst, length-append}
use Rattle.std.proofs.lemmas.Bool.Decides.{nat_tests}
use Rattle.std.specs.List.{flat_map}
use Rattle.std.specs.FinSet as set
use Rattle.vir_altset.specs.Sets.{Set, all}
use Rattle.vir_altset.specs.SetLaws.{contains-all}
use Rattle.vir_altset.specs.Splits.{bit}
use Rattle.vir_profile.specs.Orders.{IsListing}
use Rattle.vir_mean.specs.Lifts.{without}
use Rattle.vir_mean.proofs.MemberCounts.{often, lists_of}
use Rattle.vir_find.specs.Permutations.{up_to, permutations, orders}
use Rattle.vir_find.proofs.Lists.{Among, among_left, among_right, among_map, among_flat_map, among_often, by_number}
use Rattle.vir_find.proofs.Lists.{often_head, often-append, often-without, length-without}

-- the numbers from 1 to m are a list of the set of all
pub often-up_to : (m x : ℕ) → often x (up_to m) ≡ bit (nat_lt 0 x && nat_le x m)
unfolding up_to
often-up_to zero x = none x
  where
    none : (x : ℕ) → 0 ≡ bit (nat_lt 0 x && nat_le x 0)
    none x = grind (arith, nat_tests)
often-up_to (suc m) x = often-append x (up_to m) (suc m ∷ []) ∙ one_more m x _ (often-up_to m x)
  where
    one_more : (m x n : ℕ) → n ≡ bit (nat_lt 0 x && nat_le x m) → n + (bit (nat_eq x (suc m)) + 0)
        ≡ bit (nat_lt 0 x && nat_le x (suc m))
    one_more m x n e = grind (arith, nat_tests)

pub length-up_to : (m : ℕ) → length (up_to m) ≡ m
unfolding up_to
length-up_to zero = refl
length-up_to (suc m) = length-append (up_to m) (suc m ∷ []) ∙ more (length (up_to m)) m (length-up_to m)
  where
    more : (n m : ℕ) → n ≡ m → n + 1 ≡ suc m
    more n m e = omega arith

pub among_up_to : (m x : ℕ) → 1 ≤ x → x ≤ m → Among x (up_to m)
among_up_to m x low high = among_often x (up_to m) (subst (λ n. 0 < n) (sym (often-up_to m x)) (inside m x low high))
  where
    inside : (m x : ℕ) → 1 ≤ x → x ≤ m → 0 < bit (nat_lt 0 x && nat_le x m)
    inside m x low high = grind (arith, nat_tests)

-- an order whose members are those of a list is one of its permutations
permutation_among : (k : ℕ) (members order : List ℕ) → length members ≡ k
    → ((x : ℕ) → often x order ≡ often x members) → ((x : ℕ) → often x order ≤ 1) → Among order (permutations k members)
unfolding permutations
permutation_among zero members [] size same once = inl refl
permutation_among zero [] (y ∷ order) size same once = absurd (nobody (often y order) (sym (often_head y order)
    ∙ same y))
  where
    nobody : (n : ℕ) → suc n ≡ 0 → ⊥
    nobody n e = omega arith
permutation_among zero (z ∷ members) (y ∷ order) size same once = absurd (omega arith)
permutation_among (suc k) [] order size same once = absurd (omega arith)
permutation_among (suc k) (z ∷ members) [] size same once = absurd (nobody (often z members) (same z
    ∙ often_head z members))
  where
    nobody : (n : ℕ) → 0 ≡ suc n → ⊥
    nobody n e = omega arith
permutation_among (suc k) (z ∷ members) (y ∷ order) size same once =
    among_flat_map (λ x. map (λ rest. x ∷ rest) (permutations k (without x whole))) y (y ∷ order) whole
    (among_often y whole (some _ _ (often_head y order) (same y)))
    (among_map (λ rest. y ∷ rest) order (permutations k (without y whole))
    (permutation_among k (without y whole) order (shorter _ _ _ (length-without y whole) size (same y)
    (often_head y order)
    (once y))
    (λ x. rest_same x) (λ x. fewer (bit (nat_eq x y)) (often x order) (once x))))
  where
    whole : List ℕ
    whole = z ∷ members

    some : (n m : ℕ) → n ≡ suc m → n ≡ often y whole → 0 < often y whole
    some n m e h = omega arith

    shorter : (l o n : ℕ) → l + o ≡ n → n ≡ suc k → often y (y ∷ order) ≡ o → often y (y ∷ order) ≡ suc (often y order)
        → often y (y ∷ order) ≤ 1 → l ≡ k
    shorter l o n e f g h i = omega arith

    fewer : (b n : ℕ) → b + n ≤ 1 → n ≤ 1
    fewer b n e = omega arith

    rest_same : (x : ℕ) → often x order ≡ often x (without y whole)
    rest_same x = by_number x y
        (λ e. step_same _ _ _ (subst (λ z. often x order ≡ often z order) e refl) (often_head y order) (once y)
        ∙ sym (often-without y x whole ∙ ap (λ b. cond b 0 (often x whole)) (equal y x (sym e))))
        (λ other. step_other _ _ (same x) (different x y other)
        ∙ sym (often-without y x whole ∙ ap (λ b. cond b 0 (often x whole)) (different y x (λ e. other (sym e)))))
      where
        equal : (y x : ℕ) → y ≡ x → nat_eq y x ≡ true
        equal y x e = grind (arith, nat_tests)

        different : (y x : ℕ) → y ≢ x → nat_eq y x ≡ false
        different y x e = grind (arith, nat_tests)

        step_same : (n m l : ℕ) → n ≡ m → l ≡ suc m → l ≤ 1 → n ≡ 0
        step_same n m l e f g = omega arith

        step_other : (w : ℕ) (b : Bool) → bit b + often x order ≡ w → b ≡ false → often x order ≡ w
        step_other w b e f = grind arith

-- each order that lists all alternatives once is tried
pub listing_among : (m : ℕ) (order : List ℕ) → IsListing (all m) order → Among order (orders m)
listing_among m order listing = permutation_among m (up_to m) order (length-up_to m)
    (λ x. count x ∙ sym (often-up_to m x)) (λ x. subst (λ n. n ≤ 1) (sym (count x)) (one _))
  where
    count : (x : ℕ) → often x order ≡ bit (nat_lt 0 x && nat_le x m)
    count x = (lists_of (all m) order listing).each x ∙ ap bit (contains-all m x)

    one : (b : Bool) → bit b ≤ 1
    one true = omega arith
    one false = omega arith
