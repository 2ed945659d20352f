-- How often numbers stand in lists of members.
use Rattle.std.proofs.Common.{true≢false, ◌≡◌, ℕ, ◌+◌, ◌-◌, ◌<◌, ◌≤◌, Bool, true, false, cond, not, ◌||◌, ◌&&◌, nat_eq}
use Rattle.std.proofs.Common.{List, [], ◌∷◌, refl, sym, ap, ap₂, ◌∙◌, arith}
use Rattle.std.proofs.lemmas.Bool.Decides.{nat_tests}
use Rattle.std.proofs.lemmas.List.Sums.{sum_by-cons}
use Rattle.std.specs.Cmp.{nat_cmp_total, unsigned_tied}
use Rattle.std.specs.FinSet.{contains, items, empty, remove, len, contains-items, len-empty, len-remove, empty_of_len}
use Rattle.std.specs.List.{list_any}
use Rattle.std.specs.Ordering.{nat_cmp, eq_by_cmp}
use Rattle.vir_altset.specs.SetLaws.{contains-empty, contains-remove, same_members}
use Rattle.vir_altset.specs.Sets.{Set, IsPart}
use Rattle.vir_altset.specs.Splits.{bit}
use Rattle.vir_profile.specs.Orders.{times, IsListing}
use Rattle.vir_mean.specs.Listings.{once, listed, total}
use Rattle.vir_mean.specs.Members.{AreMembers}

-- how often x stands in a list, by recursion
abbrev pub often : ℕ → List ℕ → ℕ
often x [] = 0
often x (y ∷ rest) = bit (nat_eq x y) + often x rest

-- a listing of a set, by such counts
pub record Lists (a : Set) (list : List ℕ) : Type 0 where
  pub each : (x : ℕ) → often x list ≡ bit (contains a x)

often_is_times : (x : ℕ) (list : List ℕ) → often x list ≡ times x list
often_is_times x [] = refl
often_is_times x (y ∷ list) = step (nat_eq x y) (nat_eq y x) (often x list) (times x list) (turn x y)
    (often_is_times x list) ∙ sym (sum_by-cons (λ z. cond (nat_eq z x) 1 0) y list)
  where
    turn : (x y : ℕ) → nat_eq x y ≡ nat_eq y x
    turn x y = grind (arith, nat_tests)

    step : (b c : Bool) (m n : ℕ) → b ≡ c → m ≡ n → bit b + m ≡ cond c 1 0 + n
    step b c m n e h = grind arith

bit_is : (b : Bool) → bit b ≡ cond b 1 0
bit_is true = refl
bit_is false = refl

-- the two ways to say that a list is a listing of a set
pub lists_of : (a : Set) (list : List ℕ) → IsListing a list → Lists a list
lists_of a list listing = record { each = λ x. often_is_times x list ∙ listing x ∙ sym (bit_is (contains a x)) }

pub listing_of : (a : Set) (list : List ℕ) → Lists a list → IsListing a list
listing_of a list lists x = sym (often_is_times x list) ∙ lists.each x ∙ bit_is (contains a x)

pub lists_members : {a : Set} {list : List ℕ} → AreMembers a list → Lists a list
lists_members {a} {list} members = lists_of a list members.listing

any_tied : (x : ℕ) (ys : List ℕ) → list_any (eq_by_cmp nat_cmp x) ys ≡ list_any (nat_eq x) ys
any_tied x [] = refl
any_tied x (y ∷ ys) = ap₂ (λ a b. a || b) (unsigned_tied x y) (any_tied x ys)

-- a set has what its items have
pub in_items : (a : Set) (x : ℕ) → contains a x ≡ list_any (nat_eq x) (items a)
in_items a x = contains-items a x ∙ any_tied x (items a)

same : (x : ℕ) → nat_eq x x ≡ true
same x = grind (arith, nat_tests)

finds_step : (f : ℕ → Bool) (x y : ℕ) (a b : Bool) → f x ≡ true → (nat_eq x y || a) ≡ true → (a ≡ true → b ≡ true)
    → (f y || b) ≡ true
finds_step f x y a b e h k = grind (arith, nat_tests)

-- a test that is true of a number in a list is true of some
pub finds : (f : ℕ → Bool) (xs : List ℕ) (x : ℕ) → list_any (nat_eq x) xs ≡ true → f x ≡ true → list_any f xs ≡ true
finds f [] x h e = h
finds f (y ∷ ys) x h e = finds_step f x y (list_any (nat_eq x) ys) (list_any f ys) e h (λ k. finds f ys x k e)

once_step : (x y : ℕ) (ys os : List ℕ) → often x os ≡ bit (list_any (nat_eq x) ys)
    → often x (cond (list_any (nat_eq y) ys) os (y ∷ os)) ≡ bit (nat_eq x y || list_any (nat_eq x) ys)
once_step x y ys os ih = grind (arith, nat_tests)

often-once : (x : ℕ) (xs : List ℕ) → often x (once xs) ≡ bit (list_any (nat_eq x) xs)
often-once x [] = refl
often-once x (y ∷ ys) = once_step x y ys (once ys) (often-once x ys)

-- the members of a set stand in its list once
pub often-listed : (a : Set) (x : ℕ) → often x (listed a) ≡ bit (contains a x)
often-listed a x = often-once x (items a) ∙ ap bit (sym (in_items a x))

pub at_head : (y : ℕ) (ys : List ℕ) → 0 < often y (y ∷ ys)
at_head y ys = let e = same y in grind arith

-- sums of functions that agree on the list
pub total_same : (f g : ℕ → ℕ) (list : List ℕ) → ((x : ℕ) → 0 < often x list → f x ≡ g x) → total f list ≡ total g list
total_same f g [] h = refl
total_same f g (y ∷ ys) h = ap₂ (λ a b. a + b) (h y (at_head y ys)) (total_same f g ys (λ x k. h x (omega arith)))

-- ---- how many members a part has, by a listing of the whole
not_that : (a b : Bool) (t : ℕ) → 0 < t → bit b + t ≤ 1 → bit (not b && a) ≡ bit a
not_that a b t h k = grind arith

less_one : (a b : Bool) (t : ℕ) → bit a ≤ bit b + t → bit (not b && a) ≤ t
less_one a b t h = grind arith

nonzero : (n : ℕ) → (n ≡ 0 → ⊥) → 0 < n
nonzero n k = grind arith

len_pos : (d : Set) (x : ℕ) → contains d x ≡ true → 0 < len d
len_pos d x h = nonzero (len d) (λ e. true≢false (sym h ∙ ap (λ s. contains s x) (empty_of_len d e) ∙ contains-empty x))

counted : (b : Bool) (n m t u : ℕ) → (b ≡ true → 0 < n) → m ≡ cond b (n - 1) n → m ≡ t → t ≡ u → n ≡ bit b + u
counted b n m t u h k l j = grind arith

len_counts : (list : List ℕ) (d : Set) → ((x : ℕ) → often x list ≤ 1) → ((x : ℕ) → bit (contains d x) ≤ often x list)
    → len d ≡ total (λ x. bit (contains d x)) list
len_counts [] d one in_list = ap len (same_members d empty (λ x. (let k = in_list x in grind arith)
    ∙ sym (contains-empty x))) ∙ len-empty nat_cmp
len_counts (y ∷ ys) d one in_list =
    counted (contains d y) _ _ _ _ (len_pos d y) (len-remove nat_cmp_total d y)
    (len_counts ys (remove d y) (λ x. let k = one x in omega arith)
    (λ x. rw contains-remove (less_one (contains d x) (nat_eq x y) _ (in_list x))))
    (total_same _ _ ys (λ x k. rw contains-remove (not_that (contains d x) (nat_eq x y) _ k (one x))))

at_most_one : (b : Bool) → bit b ≤ 1
at_most_one b = grind arith

listed_once : (a : Set) (x : ℕ) → often x (listed a) ≤ 1
listed_once a x = rw often-listed (at_most_one (contains a x))

-- a part has as many members as the whole has of them
pub len_within : (a d : Set) → IsPart d a → len d ≡ total (λ x. bit (contains d x)) (listed a)
len_within a d h = len_counts (listed a) d (listed_once a)
    (λ x. rw often-listed (implied (contains d x) (contains a x) (h x)))
  where
    implied : (a b : Bool) → (a ≡ true → b ≡ true) → bit a ≤ bit b
    implied a b k = grind arith
