-- The members of a set, listed one after another.
use Rattle.std.proofs.Common.{◌≡◌, ℕ, zero, suc, ◌+◌, ◌<◌, ◌≤◌, Bool, true, false, cond, ◌&&◌, List, [], ◌∷◌, length}
use Rattle.std.proofs.Common.{get_or, take, nat_eq, nat_lt, nat_le, ◌++◌, refl, sym, ap, ◌∙◌, arith, add-one, eqb-true}
use Rattle.std.proofs.Common.{ℤ}
use Rattle.std.proofs.Math.ListN.{set as put, length-take}
use Rattle.std.proofs.lemmas.Bool.Decides.{nat_tests}
use Rattle.std.specs.FinSet.{contains}
use Rattle.vir_altset.specs.Sets.{Set, IsBounded, limit}
use Rattle.vir_altset.specs.Members.{members_up_to}
use Rattle.vir_altset.specs.Splits.{bit}
use Rattle.vir_mean.proofs.MemberCounts.{lists_members, listing_of, often, Lists}
use Rattle.vir_mean.specs.Numbers.{score_of, AreScores}
use Rattle.vir_mean.specs.Members.{AreMembers}

-- one more written after the first n
pub take_put : (x n : ℕ) (list : List ℕ) → n < length list → take (n + 1) (put list n x) ≡ take n list ++ x ∷ []
take_put x n list within = ap (λ k. take k (put list n x)) (add-one n) ∙ step n list within
  where
    step : (n : ℕ) (list : List ℕ) → n < length list → take (suc n) (put list n x) ≡ take n list ++ x ∷ []
    step n [] within = absurd (omega arith)
    step zero (z ∷ zs) within = refl
    step (suc n) (z ∷ zs) within = ap (λ l. z ∷ l) (step n zs (omega arith))

-- nothing is listed yet
pub none_listed : (list : List ℕ) (a : Set) → take 0 list ≡ members_up_to 0 a
unfolding members_up_to
none_listed [] a = refl
none_listed (z ∷ zs) a = refl

often-++ : (y x : ℕ) (list : List ℕ) → often y (list ++ x ∷ []) ≡ often y list + bit (nat_eq y x)
often-++ y x [] = omega arith
often-++ y x (z ∷ list) = let rest : often y (list ++ x ∷ []) ≡ often y list + bit (nat_eq y x) = often-++ y x list
    in omega arith

often-members : (a : Set) (n y : ℕ) → often y (members_up_to n a) ≡ bit (contains a y && (nat_lt 0 y && nat_le y n))
unfolding members_up_to
often-members a zero y = none (contains a y) y
  where
    none : (b : Bool) (y : ℕ) → 0 ≡ bit (b && (nat_lt 0 y && nat_le y 0))
    none b y = grind (arith, nat_tests)
often-members a (suc n) y = elim (contains a (suc n)) as (λ b. contains a (suc n) ≡ b
    → often y (cond b (members_up_to n a ++ suc n ∷ []) (members_up_to n a))
    ≡ bit (contains a y && (nat_lt 0 y && nat_le y (suc n)))) [
      | true ↦ λ e. often-++ y (suc n) (members_up_to n a) ∙ ap (λ t. t + bit (nat_eq y (suc n))) (often-members a n y)
          ∙ more (contains a y) y n (λ s. ap (contains a) (eqb-true y (suc n) s) ∙ e)
      | false ↦ λ e. often-members a n y ∙ less (contains a y) y n (λ s. ap (contains a) (eqb-true y (suc n) s) ∙ e)
    ] refl
  where
    more : (b : Bool) (y n : ℕ) → (nat_eq y (suc n) ≡ true → b ≡ true) → bit (b && (nat_lt 0 y && nat_le y n))
        + bit (nat_eq y (suc n)) ≡ bit (b && (nat_lt 0 y && nat_le y (suc n)))
    more b y n h = grind (arith, nat_tests)

    less : (b : Bool) (y n : ℕ) → (nat_eq y (suc n) ≡ true → b ≡ false) → bit (b && (nat_lt 0 y && nat_le y n))
        ≡ bit (b && (nat_lt 0 y && nat_le y (suc n)))
    less b y n h = grind (arith, nat_tests)

same : (x : ℕ) → nat_eq x x ≡ true
same x = grind (arith, nat_tests)

often_at : (list : List ℕ) (k : ℕ) → k < length list → 0 < often (get_or list k 0) list
often_at [] k h = absurd (omega arith)
often_at (z ∷ list) zero h = let e = ap bit (same z) in omega arith
often_at (z ∷ list) (suc k) h = let i : 0 < often (get_or list k 0) list = often_at list k (omega arith) in omega arith

-- what a listing has is a member
pub member_at : (a : Set) (list : List ℕ) (k : ℕ) → Lists a list → k < length list → contains a (get_or list k 0) ≡ true
member_at a list k lists within = step (contains a (get_or list k 0)) (often (get_or list k 0) list) (lists.each _)
    (often_at list k within)
  where
    step : (b : Bool) (n : ℕ) → n ≡ bit b → 0 < n → b ≡ true
    step b n e h = grind arith

-- the members up to the limit, listed, are all members
pub members_are : (a : Set) (list : List ℕ) (n : ℕ) → IsBounded a → n ≤ limit → take n list ≡ members_up_to limit a
    → AreMembers a (take n list)
members_are a list n bounded few is = record {
  few = (let l = length-take n list in omega arith);
  listing = listing_of a (take n list) lists;
  each = λ i within. let inside = member_at a (take n list) i lists within
      in (inside, (bounded.within _ inside).0, (bounded.within _ inside).1);
}
  where
    step : (b : Bool) (y : ℕ) → (b ≡ true → (1 ≤ y) × (y ≤ limit)) → bit (b && (nat_lt 0 y && nat_le y limit)) ≡ bit b
    step true y h = let low = (h refl).0 in let high = (h refl).1 in grind (arith, nat_tests)
    step false y h = refl

    lists : Lists a (take n list)
    lists = record { each = λ y. ap (often y) is ∙ often-members a limit y ∙ step (contains a y) y (bounded.within y) }

-- a member's place
pub place_of : (list : List ℕ) (x : ℕ) → 0 < often x list → (k : ℕ) × (k < length list) × (get_or list k 0 ≡ x)
place_of [] x h = absurd (omega arith)
place_of (z ∷ list) x h = elim (nat_eq x z) as (λ b. nat_eq x z ≡ b → (k : ℕ) × (k < length (z ∷ list))
    × (get_or (z ∷ list) k 0 ≡ x)) [
      | true ↦ λ e. (0, omega arith, sym (eqb-true x z e))
      | false ↦ λ e. let q = ap bit e in let more : 0 < often x list = omega arith in let r = place_of list x more
          in (suc r.0, (let l = r.1 in omega arith), r.2)
    ] refl

-- scores filled in for each of the list are those of all members
pub scores_filled : (a : Set) (f : ℕ → ℤ) (scores : List ℤ) (list : List ℕ) (n : ℕ) → AreMembers a list
    → length list ≤ n → length scores ≡ limit
    → ((k : ℕ) → k < n → score_of scores (get_or list k 0) ≡ f (get_or list k 0)) → AreScores a f scores
scores_filled a f scores list n members end size all = record {
  size = size;
  each = λ x inside. let r = place_of list x (some (contains a x) (often x list) ((lists_members members).each x)
      inside) in
      ap (score_of scores) (sym r.2) ∙ all r.0 (let l = r.1 in omega arith) ∙ ap f r.2;
}
  where
    some : (b : Bool) (n : ℕ) → n ≡ bit b → b ≡ true → 0 < n
    some b n e h = grind arith
