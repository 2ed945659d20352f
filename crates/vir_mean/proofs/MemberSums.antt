-- Sums over lists of members.
use Rattle.std.proofs.Common.{◌≡◌, ℕ, ◌+◌, ◌*◌, ◌<◌, ◌≤◌, Bool, true, false, cond, List, [], ◌∷◌, map, filter, nat_eq}
use Rattle.std.proofs.Common.{refl, sym, ap, ◌∙◌, arith, pos, ◌+ℤ◌}
use Rattle.std.specs.FinSet.{contains, len}
use Rattle.vir_altset.specs.Sets.{Set}
use Rattle.vir_altset.specs.Splits.{bit}
use Rattle.vir_mean.specs.Listings.{listed, total}
use Rattle.vir_mean.specs.Eliminators.{sum}
use Rattle.vir_mean.proofs.MemberCounts.{often, often-listed, total_same, len_within, at_head}

-- what the list of a set has is a member, and has it once
pub member_of_listed : (a : Set) (x : ℕ) → 0 < often x (listed a) → contains a x ≡ true
member_of_listed a x some = step (contains a x) (often x (listed a)) some (often-listed a x)
  where
    step : (b : Bool) (n : ℕ) → 0 < n → n ≡ bit b → b ≡ true
    step b n some is = grind arith

pub often-listed_member : (a : Set) (x : ℕ) → contains a x ≡ true → often x (listed a) ≡ 1
often-listed_member a x member = often-listed a x ∙ ap bit member

-- the number of members, as a sum of ones
pub len-listed : (a : Set) → len a ≡ total (λ x. 1) (listed a)
len-listed a = len_within a a (λ x member. member) ∙ total_same _ _ (listed a)
    (λ x some. ap bit (member_of_listed a x some))

pub total-zero : (list : List ℕ) → total (λ x. 0) list ≡ 0
total-zero [] = refl
total-zero (x ∷ rest) = let later = total-zero rest in omega arith

pub total-constant : (c : ℕ) (list : List ℕ) → total (λ x. c) list ≡ c * total (λ x. 1) list
total-constant c [] = omega arith
total-constant c (x ∷ rest) = let later = total-constant c rest in omega arith

-- the sum of two functions
pub total-plus : (f g : ℕ → ℕ) (list : List ℕ) → total (λ x. f x + g x) list ≡ total f list + total g list
total-plus f g [] = refl
total-plus f g (x ∷ rest) = let later = total-plus f g rest in omega arith

-- a number that counts where x stands
pub total-at : (x c : ℕ) (list : List ℕ) → total (λ y. cond (nat_eq x y) c 0) list ≡ c * often x list
total-at x c [] = omega arith
total-at x c (y ∷ rest) = step (nat_eq x y) (total (λ y. cond (nat_eq x y) c 0) rest) (often x rest) (total-at x c rest)
  where
    step : (b : Bool) (n t : ℕ) → n ≡ c * t → cond b c 0 + n ≡ c * (bit b + t)
    step true n t later = omega arith
    step false n t later = omega arith

pub total-filter : (f : ℕ → ℕ) (test : ℕ → Bool) (list : List ℕ) → total f (filter test list)
    ≡ total (λ x. cond (test x) (f x) 0) list
total-filter f test [] = refl
total-filter f test (x ∷ rest) = step (test x) (filter test rest) (total (λ x. cond (test x) (f x) 0) rest)
    (total-filter f test rest)
  where
    step : (b : Bool) (kept : List ℕ) (n : ℕ) → total f kept ≡ n → total f (cond b (x ∷ kept) kept) ≡ cond b (f x) 0 + n
    step true kept n later = ap (λ m. f x + m) later
    step false kept n later = omega arith

-- a sum of sums, by rows and by columns
pub total-total : (f : ℕ → ℕ → ℕ) (rows columns : List ℕ) → total (λ x. total (f x) columns) rows
    ≡ total (λ y. total (λ x. f x y) rows) columns
total-total f [] columns = sym (total-zero columns)
total-total f (x ∷ rows) columns =
    ap (λ n. total (f x) columns + n) (total-total f rows columns)
    ∙ sym (total-plus (f x) (λ y. total (λ x. f x y) rows) columns)

pub total-le : (f g : ℕ → ℕ) (list : List ℕ) → ((x : ℕ) → 0 < often x list → f x ≤ g x) → total f list ≤ total g list
total-le f g [] under = omega arith
total-le f g (x ∷ rest) under =
    let here = under x (at_head x rest) in
    let later = total-le f g rest (λ y some. under y (omega arith)) in
    omega arith

-- a sum of numbers, as a sum of whole numbers
pub sum-pos : (f : ℕ → ℕ) (list : List ℕ) → sum (map (λ x. pos (f x)) list) ≡ pos (total f list)
sum-pos f [] = refl
sum-pos f (x ∷ rest) = ap (λ z. pos (f x) +ℤ z) (sum-pos f rest)
