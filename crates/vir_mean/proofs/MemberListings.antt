-- a set's members as a list, and what of it does not depend on the order: sums, and the least.
use Rattle.std.proofs.Common.{◌≡◌, ℕ, ◌+◌, ◌-◌, ◌<◌, Bool, true, false, cond, not, ◌||◌, ◌&&◌, nat_eq, List, [], ◌∷◌}
use Rattle.std.proofs.Common.{map, filter, refl, sym, ap, ◌∙◌, arith, eqb-true, ℤ, pos, ◌+ℤ◌, int_lt, int_le, Option}
use Rattle.std.proofs.Common.{Some, None, unwrap_or}
use Rattle.std.proofs.lemmas.Bool.Decides.{nat_tests}
use Rattle.std.proofs.lemmas.Int.{ints}
use Rattle.std.specs.FinSet.{contains, items, retain, remove, len}
use Rattle.std.specs.List.{list_any}
use Rattle.vir_altset.specs.SetLaws.{contains-remove, contains-retain}
use Rattle.vir_altset.specs.Sets.{Set}
use Rattle.vir_altset.specs.Splits.{bit}
use Rattle.vir_mean.proofs.MemberCounts.{often, Lists, often-listed, total_same, len_within, at_head, finds}
use Rattle.vir_mean.specs.Listings.{once, listed, total, others, least}
use Rattle.vir_mean.specs.Eliminators.{sum, is_passed, is_least}
use Rattle.vir_mean.specs.Extremes.{lowered, greatest, smallest, fold, raised, sunk}

pub listed_lists : (a : Set) → Lists a (listed a)
listed_lists a = record { each = often-listed a }

often_step : (f : ℕ → Bool) (x y t : ℕ) (os : List ℕ) → often x os ≡ cond (f x) t 0 → often x (cond (f y) (y ∷ os) os)
    ≡ cond (f x) (bit (nat_eq x y) + t) 0
often_step f x y t os ih = grind (arith, nat_tests)

nothing : (b : Bool) → ◌≡◌ {A = ℕ} 0 (cond b 0 0)
nothing b = grind arith

pub often-filter : (f : ℕ → Bool) (x : ℕ) (o : List ℕ) → often x (filter f o) ≡ cond (f x) (often x o) 0
often-filter f x [] = nothing (f x)
often-filter f x (y ∷ o) = often_step f x y (often x o) (filter f o) (often-filter f x o)

-- the list without x lists the set without x
pub listing_without : (a : Set) (x : ℕ) (list : List ℕ) → Lists a list
    → Lists (remove a x) (filter (λ z. not (nat_eq x z)) list)
listing_without a x list lists =
    record {
      each = λ y. often-filter (λ z. not (nat_eq x z)) y list ∙ ap (λ t. cond (not (nat_eq x y)) t 0)
          (lists.each y) ∙ step (nat_eq x y) (nat_eq y x) (contains a y) (turn x y)
          ∙ ap bit (sym (contains-remove a x y));
    }
  where
    step : (a b c : Bool) → a ≡ b → cond (not a) (bit c) 0 ≡ bit (not b && c)
    step a b c h = grind arith

    turn : (x y : ℕ) → nat_eq x y ≡ nat_eq y x
    turn x y = grind (arith, nat_tests)

pub others_list : (a : Set) (x : ℕ) → Lists (remove a x) (others x a)
others_list a x = listing_without a x (listed a) (listed_lists a)

-- ---- folds
abbrev pub Swaps : {B : Type 0} → (ℕ → B → B) → Type 0
Swaps {B} op = (x y : ℕ) (b : B) → op x (op y b) ≡ op y (op x b)

drop_one : ℕ → List ℕ → List ℕ
drop_one x [] = []
drop_one x (y ∷ ys) = cond (nat_eq x y) ys (y ∷ drop_one x ys)

drop_step : (x y z t : ℕ) (zs ds : List ℕ) → often y ds ≡ t - bit (nat_eq y x) → often y zs ≡ t
    → often y (cond (nat_eq x z) zs (z ∷ ds)) ≡ bit (nat_eq y z) + t - bit (nat_eq y x)
drop_step x y z t zs ds ih h = grind (arith, nat_tests)

often-drop_one : (x y : ℕ) (list : List ℕ) → often y (drop_one x list) ≡ often y list - bit (nat_eq y x)
unfolding drop_one
often-drop_one x y [] = omega arith
often-drop_one x y (z ∷ zs) = drop_step x y z (often y zs) zs (drop_one x zs) (often-drop_one x y zs) refl

pull : {B : Type 0} (op : ℕ → B → B) → Swaps op → (e : B) (x : ℕ) (list : List ℕ) → 0 < often x list → fold op e list
    ≡ op x (fold op e (drop_one x list))
unfolding drop_one
pull op s e x [] h = absurd (omega arith)
pull op s e x (z ∷ zs) h = elim (nat_eq x z) as (λ b. nat_eq x z ≡ b → op z (fold op e zs)
    ≡ op x (fold op e (cond b zs (z ∷ drop_one x zs)))) [
      | true ↦ λ q. ap (λ v. op v (fold op e zs)) (sym (eqb-true x z q))
      | false ↦ λ q. let more : 0 < often x zs = let k = ap bit q in omega arith in ap (op z) (pull op s e x zs more)
          ∙ s z x (fold op e (drop_one x zs))
    ] refl

pub same_fold : {B : Type 0} (op : ℕ → B → B) → Swaps op → (e : B) (list other : List ℕ)
    → ((x : ℕ) → often x list ≡ often x other) → fold op e list ≡ fold op e other
same_fold op s e [] [] h = refl
same_fold op s e [] (y ∷ ys) h = absurd (let k = h y in let l = at_head y ys in omega arith)
same_fold op s e (x ∷ xs) other h =
    ap (op x) (same_fold op s e xs (drop_one x other) (λ y. let k = h y in let d = often-drop_one x y other
    in omega arith))
    ∙ sym (pull op s e x other (let k = h x in let l = at_head x xs in omega arith))

-- what is folded in at the start may be folded in at the end
pub fold_carry : {B : Type 0} (op : ℕ → B → B) → Swaps op → (e : B) (x : ℕ) (list : List ℕ) → fold op (op x e) list
    ≡ op x (fold op e list)
fold_carry op s e x [] = refl
fold_carry op s e x (y ∷ ys) = ap (op y) (fold_carry op s e x ys) ∙ s y x (fold op e ys)

-- folds of functions that agree on the list
pub fold_same : {B : Type 0} (f g : ℕ → B → B) (e : B) (list : List ℕ) → ((x : ℕ) (b : B) → 0 < often x list → f x b
    ≡ g x b) → fold f e list ≡ fold g e list
fold_same f g e [] h = refl
fold_same f g e (y ∷ ys) h = h y (fold f e ys) (at_head y ys)
    ∙ ap (g y) (fold_same f g e ys (λ x b k. h x b (omega arith)))

-- two listings of a set have the same fold
pub fold_listings : {B : Type 0} (op : ℕ → B → B) → Swaps op → (e : B) (a : Set) (list other : List ℕ) → Lists a list
    → Lists a other → fold op e list ≡ fold op e other
fold_listings op s e a list other h k = same_fold op s e list other (λ x. h.each x ∙ sym (k.each x))

-- ---- sums
total_fold : (f : ℕ → ℕ) (list : List ℕ) → total f list ≡ fold (λ x s. f x + s) 0 list
total_fold f [] = refl
total_fold f (x ∷ xs) = ap (λ s. f x + s) (total_fold f xs)

pub total_listings : (f : ℕ → ℕ) (a : Set) (list other : List ℕ) → Lists a list → Lists a other → total f list
    ≡ total f other
total_listings f a list other h k = total_fold f list ∙ fold_listings _ (λ x y s. omega arith) 0 a list other h k
    ∙ sym (total_fold f other)

sum_fold : (f : ℕ → ℤ) (list : List ℕ) → sum (map f list) ≡ fold (λ x s. f x +ℤ s) (pos 0) list
sum_fold f [] = refl
sum_fold f (x ∷ xs) = ap (λ s. f x +ℤ s) (sum_fold f xs)

pub sum_listings : (f : ℕ → ℤ) (a : Set) (list other : List ℕ) → Lists a list → Lists a other → sum (map f list)
    ≡ sum (map f other)
sum_listings f a list other h k = sum_fold f list ∙ fold_listings _ (λ x y s. swap (f x) (f y) s) (pos 0) a list other h
    k ∙ sym (sum_fold f other)
  where
    swap : (a b c : ℤ) → a +ℤ (b +ℤ c) ≡ b +ℤ (a +ℤ c)
    swap a b c = omega (arith, ints)

-- the number of members that pass
pub len_retain : (a : Set) (t : ℕ → Bool) (list : List ℕ) → Lists a list → len (retain a t) ≡ total (λ x. bit (t x))
    list
len_retain a t list h =
    len_within a (retain a t) (λ x k. left (contains a x) (t x) (sym (contains-retain a t x) ∙ k))
    ∙ total_same _ (λ x. bit (t x)) (listed a) (λ x k. ap bit (contains-retain a t x) ∙ member (contains a x) (t x)
    (often x (listed a)) k (often-listed a x))
    ∙ total_listings (λ x. bit (t x)) a (listed a) list (listed_lists a) h
  where
    left : (a b : Bool) → (a && b) ≡ true → a ≡ true
    left a b h = grind arith

    member : (a b : Bool) (n : ℕ) → 0 < n → n ≡ bit a → bit (a && b) ≡ bit b
    member a b n h k = grind arith

-- ---- the least
abbrev pub lower : (ℕ → ℕ) → ℕ → Option ℕ → Option ℕ
lower f x before = lowered before (f x)

pub lower_swaps : (f : ℕ → ℕ) → Swaps (lower f)
lower_swaps f x y None = ap Some (omega arith)
lower_swaps f x y (Some m) = ap Some (omega arith)

least_some : (f : ℕ → ℕ) (x : ℕ) (xs : List ℕ) → fold (lower f) None (x ∷ xs) ≡ Some (least f (x ∷ xs))
least_some f x [] = refl
least_some f x (y ∷ ys) = ap (lower f x) (least_some f y ys)

least_fold : (f : ℕ → ℕ) (list : List ℕ) → least f list ≡ unwrap_or (fold (lower f) None list) 0
least_fold f [] = refl
least_fold f (x ∷ xs) = ap (λ o. unwrap_or o 0) (sym (least_some f x xs))

pub least_listings : (f : ℕ → ℕ) (a : Set) (list other : List ℕ) → Lists a list → Lists a other → least f list
    ≡ unwrap_or (fold (lower f) None other) 0
least_listings f a list other h k = least_fold f list ∙ ap (λ o. unwrap_or o 0) (fold_listings (lower f) (lower_swaps f)
    None a list other h k)

-- ---- tests of some member
any_fold : (t : ℕ → Bool) (list : List ℕ) → list_any t list ≡ fold (λ x b. t x || b) false list
any_fold t [] = refl
any_fold t (x ∷ xs) = ap (λ b. t x || b) (any_fold t xs)

any_step : (t : ℕ → Bool) (x : ℕ) (m b : Bool) (os : List ℕ) → list_any t os ≡ b → (m ≡ true → t x ≡ true → b ≡ true)
    → list_any t (cond m os (x ∷ os)) ≡ (t x || b)
any_step t x true b os ih h = ih ∙ step (t x) b (h refl)
  where
    step : (a b : Bool) → (a ≡ true → b ≡ true) → b ≡ (a || b)
    step a b h = grind arith
any_step t x false b os ih h = ap (λ c. t x || c) ih

any_once : (t : ℕ → Bool) (list : List ℕ) → list_any t (once list) ≡ list_any t list
any_once t [] = refl
any_once t (x ∷ xs) = any_step t x (list_any (nat_eq x) xs) (list_any t xs) (once xs) (any_once t xs)
    (λ m k. finds t xs x m k)

pub any_listings : (t : ℕ → Bool) (a : Set) (list : List ℕ) → Lists a list → list_any t (items a) ≡ list_any t list
any_listings t a list h =
    sym (any_once t (items a)) ∙ any_fold t (listed a) ∙ fold_listings (λ x b. t x || b) (λ x y b. swap (t x) (t y) b)
    false a (listed a) list (listed_lists a) h ∙ sym (any_fold t list)
  where
    swap : (a b c : Bool) → (a || (b || c)) ≡ (b || (a || c))
    swap a b c = grind arith

-- ---- the greatest and the least of scores
pub raised_swaps : (f : ℕ → ℤ) → Swaps (λ x m. raised m (f x))
raised_swaps f x y None = ap Some (step (f y) (f x))
  where
    step : (a b : ℤ) → cond (int_lt a b) b a ≡ cond (int_lt b a) a b
    step a b = grind (arith, ints)
raised_swaps f x y (Some u) = ap Some (step u (f y) (f x))
  where
    step : (u a b : ℤ) → cond (int_lt (cond (int_lt u a) a u) b) b (cond (int_lt u a) a u)
        ≡ cond (int_lt (cond (int_lt u b) b u) a) a (cond (int_lt u b) b u)
    step u a b = grind (arith, ints)

pub sunk_swaps : (f : ℕ → ℤ) → Swaps (λ x m. sunk m (f x))
sunk_swaps f x y None = ap Some (step (f y) (f x))
  where
    step : (a b : ℤ) → cond (int_lt b a) b a ≡ cond (int_lt a b) a b
    step a b = grind (arith, ints)
sunk_swaps f x y (Some u) = ap Some (step u (f y) (f x))
  where
    step : (u a b : ℤ) → cond (int_lt b (cond (int_lt a u) a u)) b (cond (int_lt a u) a u)
        ≡ cond (int_lt a (cond (int_lt b u) b u)) a (cond (int_lt b u) b u)
    step u a b = grind (arith, ints)

above : Option ℤ → ℤ → Bool
above None v = false
above (Some u) v = int_lt v u

under : Option ℤ → ℤ → Bool
under None v = false
under (Some u) v = int_lt u v

above_step : (m : Option ℤ) (v w : ℤ) → (int_lt v w || above m v) ≡ above (raised m w) v
unfolding above
above_step None v w = step (int_lt v w)
  where
    step : (a : Bool) → (a || false) ≡ a
    step a = grind arith
above_step (Some u) v w = step u v w
  where
    step : (u v w : ℤ) → (int_lt v w || int_lt v u) ≡ int_lt v (cond (int_lt u w) w u)
    step u v w = grind (arith, ints)

under_step : (m : Option ℤ) (v w : ℤ) → (int_lt w v || under m v) ≡ under (sunk m w) v
unfolding under
under_step None v w = step (int_lt w v)
  where
    step : (a : Bool) → (a || false) ≡ a
    step a = grind arith
under_step (Some u) v w = step u v w
  where
    step : (u v w : ℤ) → (int_lt w v || int_lt u v) ≡ int_lt (cond (int_lt w u) w u) v
    step u v w = grind (arith, ints)

any_above : (f : ℕ → ℤ) (v : ℤ) (list : List ℕ) → list_any (λ y. int_lt v (f y)) list ≡ above (greatest f list) v
unfolding above
any_above f v [] = refl
any_above f v (x ∷ xs) = ap (λ b. int_lt v (f x) || b) (any_above f v xs) ∙ above_step (greatest f xs) v (f x)

any_under : (f : ℕ → ℤ) (v : ℤ) (list : List ℕ) → list_any (λ y. int_lt (f y) v) list ≡ under (smallest f list) v
unfolding under
any_under f v [] = refl
any_under f v (x ∷ xs) = ap (λ b. int_lt (f x) v || b) (any_under f v xs) ∙ under_step (smallest f xs) v (f x)

-- where there is a member, these are values
above_value : (m : Option ℤ) (v : ℤ) → (m ≡ None → ⊥) → above m v ≡ int_lt v (unwrap_or m (pos 0))
unfolding above
above_value None v h = absurd (h refl)
above_value (Some u) v h = refl

under_value : (m : Option ℤ) (v : ℤ) → (m ≡ None → ⊥) → under m v ≡ int_lt (unwrap_or m (pos 0)) v
unfolding under
under_value None v h = absurd (h refl)
under_value (Some u) v h = refl

raised_some : (m : Option ℤ) (v : ℤ) → raised m v ≡ None → ⊥
raised_some None v h = cc
raised_some (Some u) v h = cc

sunk_some : (m : Option ℤ) (v : ℤ) → sunk m v ≡ None → ⊥
sunk_some None v h = cc
sunk_some (Some u) v h = cc

greatest_some : (f : ℕ → ℤ) (x : ℕ) (list : List ℕ) → 0 < often x list → greatest f list ≡ None → ⊥
greatest_some f x [] h = absurd (omega arith)
greatest_some f x (y ∷ ys) h = raised_some (greatest f ys) (f y)

smallest_some : (f : ℕ → ℤ) (x : ℕ) (list : List ℕ) → 0 < often x list → smallest f list ≡ None → ⊥
smallest_some f x [] h = absurd (omega arith)
smallest_some f x (y ∷ ys) h = sunk_some (smallest f ys) (f y)

pub inside : (a : Set) (list : List ℕ) (x : ℕ) → Lists a list → contains a x ≡ true → 0 < often x list
inside a list x h m = step (contains a x) (often x list) (h.each x) m
  where
    step : (b : Bool) (n : ℕ) → n ≡ bit b → b ≡ true → 0 < n
    step b n e k = grind arith

pub is_passed_by : (f : ℕ → ℤ) (a : Set) (list : List ℕ) (x : ℕ) → Lists a list → contains a x ≡ true → is_passed f a x
    ≡ int_lt (f x) (unwrap_or (greatest f list) (pos 0))
is_passed_by f a list x h m = any_listings (λ y. int_lt (f x) (f y)) a list h ∙ any_above f (f x) list
    ∙ above_value (greatest f list) (f x) (greatest_some f x list (inside a list x h m))

pub is_least_by : (f : ℕ → ℤ) (a : Set) (list : List ℕ) (x : ℕ) → Lists a list → contains a x ≡ true → is_least f a x
    ≡ int_le (f x) (unwrap_or (smallest f list) (pos 0))
is_least_by f a list x h m = ap not (any_listings (λ y. int_lt (f y) (f x)) a list h ∙ any_under f (f x) list
    ∙ under_value (smallest f list) (f x) (smallest_some f x list (inside a list x h m)))
    ∙ turn (unwrap_or (smallest f list) (pos 0)) (f x)
  where
    turn : (u v : ℤ) → not (int_lt u v) ≡ int_le v u
    turn u v = grind (arith, ints)
