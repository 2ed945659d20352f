-- What a member gets of one order.
use Rattle.std.proofs.Common.{◌≡◌, ℕ, suc, ◌+◌, ◌-◌, ◌*◌, ◌<◌, ◌≤◌, Bool, true, false, cond, List, [], ◌∷◌, length}
use Rattle.std.proofs.Common.{get_or, drop, nat_eq, refl, sym, ap, ◌∙◌, arith, add-one}
use Rattle.std.proofs.Math.ListN.{set as put}
use Rattle.std.proofs.Math.Seq.{drop-cons}
use Rattle.std.proofs.lemmas.Bool.Decides.{nat_tests}
use Rattle.std.specs.FinSet as set
use Rattle.std.specs.List.{filter}
use Rattle.vir_altset.specs.Sets.{Set, limit, IsPart}
use Rattle.vir_altset.specs.Splits.{bit}
use Rattle.vir_profile.specs.Orders.{times, IsListing}
use Rattle.vir_profile.proofs.OrderLaws.{times-cons, len-listing}
use Rattle.vir_mean.specs.FixedOrders.{place}
use Rattle.vir_mean.specs.Numbers.{number_of}
use Rattle.vir_mean.proofs.MemberCounts.{often, lists_of}
use Rattle.vir_mean.proofs.MemberListings.{often-filter}
use Rattle.vir_tables.proofs.FirstPlaces.{number_of-put, same_kept}
use Rattle.vir_positional.specs.Gains.{gained, AreFirst}

turned : (x y : ℕ) → nat_eq y x ≡ nat_eq x y
turned x y = grind (arith, nat_tests)

module _ (m : ℕ → Bool) (g : ℕ → ℕ) (x : ℕ) where
  -- the next of an order
  gained-drop : (p : ℕ) (order : List ℕ) (i : ℕ) → i < length order
      → gained m g x p (drop i order) ≡ cond (m (get_or order i 0)) (cond (nat_eq x (get_or order i 0)) (g p) 0
      + gained m g x (suc p) (drop (i + 1) order)) (gained m g x p (drop (i + 1) order))
  gained-drop p order i within = rw (drop-cons order i 0 within, add-one i) refl

  often-kept : (y : ℕ) (rest : List ℕ) → often x (filter m (y ∷ rest))
      ≡ cond (m y) (bit (nat_eq x y) + often x (filter m rest)) (often x (filter m rest))
  often-kept y rest = elim (m y) as (λ b. often x (cond b (y ∷ filter m rest) (filter m rest))
      ≡ cond b (bit (nat_eq x y) + often x (filter m rest)) (often x (filter m rest))) [
        | true ↦ refl
        | false ↦ refl
      ]

  place-kept : (y : ℕ) (rest : List ℕ) → place x (filter m (y ∷ rest))
      ≡ cond (m y) (cond (nat_eq x y) 0 (suc (place x (filter m rest)))) (place x (filter m rest))
  place-kept y rest = elim (m y) as (λ b. place x (cond b (y ∷ filter m rest) (filter m rest))
      ≡ cond b (cond (nat_eq x y) 0 (suc (place x (filter m rest)))) (place x (filter m rest))) [
        | true ↦ refl
        | false ↦ refl
      ]

  -- who doesn't stand among what is kept of an order gets nothing of it
  gained-none : (order : List ℕ) (p : ℕ) → often x (filter m order) ≡ 0 → gained m g x p order ≡ 0
  gained-none [] p none = refl
  gained-none (y ∷ rest) p none = step (m y) (nat_eq x y) _ _ _ (sym (often-kept y rest) ∙ none)
      (gained-none rest (suc p)) (gained-none rest p)
    where
      step : (b e : Bool) (n k l : ℕ) → cond b (bit e + n) n ≡ 0 → (n ≡ 0 → k ≡ 0) → (n ≡ 0 → l ≡ 0)
          → cond b (cond e (g p) 0 + k) l ≡ 0
      step b e n k l none next same = grind arith

  -- who stands there once gets the gain of its place
  gained-once : (order : List ℕ) (p : ℕ) → often x (filter m order) ≡ 1 → gained m g x p order
      ≡ g (p + place x (filter m order))
  gained-once [] p once = absurd (omega arith)
  gained-once (y ∷ rest) p once =
      step (m y) (nat_eq x y) _ _ _ _ (sym (often-kept y rest) ∙ once) (gained-none rest (suc p))
      (gained-once rest (suc p)) (gained-once rest p)
      ∙ ap (λ k. g (p + k)) (sym (place-kept y rest))
    where
      front : (n : ℕ) → n + 0 ≡ n
      front n = omega arith

      behind : (p q : ℕ) → suc p + q ≡ p + suc q
      behind p q = omega arith

      less_one : (n : ℕ) → 1 + n ≡ 1 → n ≡ 0
      less_one n h = omega arith

      alone : (n : ℕ) → 0 + n ≡ n
      alone n = omega arith

      plain : (n : ℕ) → 0 + n ≡ 1 → n ≡ 1
      plain n h = omega arith

      step : (b e : Bool) (n q k l : ℕ) → cond b (bit e + n) n ≡ 1 → (n ≡ 0 → k ≡ 0) → (n ≡ 1 → k ≡ g (suc p + q))
          → (n ≡ 1 → l ≡ g (p + q))
          → cond b (cond e (g p) 0 + k) l ≡ g (p + cond b (cond e 0 (suc q)) q)
      step true true n q k l once none next same = ap (λ z. g p + z) (none (less_one n once)) ∙ front (g p)
          ∙ ap g (sym (front p))
      step true false n q k l once none next same = alone k ∙ next (plain n once) ∙ ap g (behind p q)
      step false e n q k l once none next same = same once

-- who stands in a list has a place in it
place-lt : (x : ℕ) (list : List ℕ) → 0 < often x list → place x list < length list
place-lt x [] some = absurd (omega arith)
place-lt x (y ∷ rest) some = step (nat_eq x y) (often x rest) (place x rest) (length rest) some (place-lt x rest)
  where
    step : (b : Bool) (n k l : ℕ) → 0 < bit b + n → (0 < n → k < l) → cond b 0 (suc k) < suc l
    step b n k l some rest = grind arith

-- a member's place in an order of the set's members
pub listed_place : (d : Set) (order : List ℕ) (x : ℕ) → IsListing d order → set.contains d x ≡ true
    → place x order < set.len d
listed_place d order x lists inside =
    let once = (lists_of d order lists).each x ∙ ap bit inside in
    let within = place-lt x order (omega arith) in
    let size = len-listing order d lists in
    omega arith

-- the two ways to count in a list
times_often : (x : ℕ) (list : List ℕ) → times x list ≡ often x list
times_often x [] = refl
times_often x (y ∷ list) = times-cons x y list ∙ step (nat_eq x y) (nat_eq y x) _ _ (turned x y) (times_often x list)
  where
    step : (b c : Bool) (m n : ℕ) → c ≡ b → m ≡ n → cond c 1 0 + m ≡ bit b + n
    step b c m n e h = grind arith

-- an order that lists a set lists a part of it, when it is restricted to that
pub kept_listing : (a d : Set) (order : List ℕ) → IsPart d a → IsListing a order
    → IsListing d (filter (set.contains d) order)
kept_listing a d order part lists x =
    times_often x (filter (set.contains d) order) ∙ often-filter (set.contains d) x order
    ∙ step (set.contains d x) (set.contains a x) (often x order) (part x) ((lists_of a order lists).each x)
  where
    step : (b c : Bool) (n : ℕ) → (b ≡ true → c ≡ true) → n ≡ bit c → cond b n 0 ≡ cond b 1 0
    step b c n part is = grind arith

-- what a member gets of an order, by the weights that are listed
pub line_gain : (d : Set) (f : ℕ → ℕ) (weights : List ℕ) (m : ℕ → Bool) (order kept : List ℕ) (v x : ℕ)
    → AreFirst (set.len d) f weights → ((y : ℕ) → m y ≡ set.contains d y)
    → order ≡ kept → IsListing d (filter (set.contains d) kept) → set.contains d x ≡ true
    → gained m (λ i. v * get_or weights i 0) x 0 order ≡ v * f (place x (filter (set.contains d) kept))
line_gain d f weights m order kept v x first same is lists inside =
    ap (gained m (λ i. v * get_or weights i 0) x 0) is
    ∙ gained-once m (λ i. v * get_or weights i 0) x kept 0 (ap (often x) members ∙ once)
    ∙ ap (λ l. v * get_or weights (0 + place x l) 0) members
    ∙ ap (λ i. v * get_or weights i 0) (none (place x (filter (set.contains d) kept)))
    ∙ ap (λ n. v * n) (first.each (place x (filter (set.contains d) kept))
    (listed_place d (filter (set.contains d) kept) x lists inside))
  where
    members : filter m kept ≡ filter (set.contains d) kept
    members = same_kept m (set.contains d) kept same

    once : often x (filter (set.contains d) kept) ≡ 1
    once = (lists_of d (filter (set.contains d) kept) lists).each x ∙ ap bit inside

    none : (n : ℕ) → 0 + n ≡ n
    none n = omega arith

-- ---- one step along an order
module _ (m : ℕ → Bool) (g : ℕ → ℕ) (order sums : List ℕ) (p i y x goal : ℕ) (within : i < length order)
    (here : y ≡ get_or order i 0) where
  -- a member gets its gain
  pub gained_more : (sums' : List ℕ) (p' gain : ℕ) → m y ≡ true → length sums ≡ limit → 1 ≤ y → y ≤ limit → 1 ≤ x → gain
      ≡ g p → p' ≡ p + 1
      → sums' ≡ put sums (y - 1) (get_or sums (y - 1) 0 + gain) → number_of sums x + gained m g x p (drop i order)
      ≡ goal → number_of sums' x + gained m g x p' (drop (i + 1) order) ≡ goal
  gained_more sums' p' gain member size low high from is next put_is before =
      step (number_of sums x) (number_of sums' x) (nat_eq x y) _ _ (g p)
      (ap (λ l. number_of l x) put_is ∙ number_of-put sums y x gain size low high from
      ∙ (λ j. number_of sums x + cond (turned x y j) (is j) 0))
      (gained-drop m g x p order i within
      ∙ ap (λ z. cond (m z) (cond (nat_eq x z) (g p) 0 + gained m g x (suc p) (drop (i + 1) order))
      (gained m g x p (drop (i + 1) order))) (sym here)
      ∙ ap (λ b. cond b (cond (nat_eq x y) (g p) 0 + gained m g x (suc p) (drop (i + 1) order))
      (gained m g x p (drop (i + 1) order))) member ∙ ap (λ k. cond (nat_eq x y) (g p) 0
      + gained m g x k (drop (i + 1) order)) (sym (next ∙ add-one p)))
      before
    where
      step : (n k : ℕ) (e : Bool) (all rest gp : ℕ) → k ≡ n + cond e gp 0 → all ≡ cond e gp 0 + rest → n + all ≡ goal
          → k + rest ≡ goal
      step n k e all rest gp is split before = omega arith

  -- another is passed over
  pub gained_same : (sums' : List ℕ) (p' : ℕ) → m y ≡ false → sums' ≡ sums → p' ≡ p → number_of sums x
      + gained m g x p (drop i order) ≡ goal → number_of sums' x + gained m g x p' (drop (i + 1) order) ≡ goal
  gained_same sums' p' other same stays before =
      (λ j. number_of (same j) x + gained m g x (stays j) (drop (i + 1) order))
      ∙ ap (λ n. number_of sums x + n)
      (sym (gained-drop m g x p order i within
      ∙ ap (λ b. cond b (cond (nat_eq x (get_or order i 0)) (g p) 0 + gained m g x (suc p) (drop (i + 1) order))
      (gained m g x p (drop (i + 1) order))) (ap m (sym here) ∙ other)))
      ∙ before
