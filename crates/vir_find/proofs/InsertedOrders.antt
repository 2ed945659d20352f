-- An order as an alternative and its place in the order of the others.
use Rattle.std.proofs.Common.{◌≡◌, ◌≢◌, inl, inr, ℕ, zero, suc, ◌+◌, ◌<◌, ◌≤◌, Bool, true, false, true≢false, cond, not}
use Rattle.std.proofs.Common.{nat_eq, List, [], ◌∷◌, filter, length, refl, sym, ap, ◌∙◌, arith, subst}
use Rattle.std.proofs.lemmas.Bool.Decides.{nat_tests}
use Rattle.std.specs.FinSet as set
use Rattle.vir_altset.specs.Sets.{Set}
use Rattle.vir_altset.specs.Splits.{bit}
use Rattle.vir_profile.specs.Orders.{IsListing}
use Rattle.vir_mean.specs.FixedOrders.{place}
use Rattle.vir_mean.specs.Lifts.{without}
use Rattle.vir_mean.proofs.MemberCounts.{often, lists_of, listing_of}
use Rattle.vir_find.specs.Raises.{Raise, behind, raises}
use Rattle.vir_find.proofs.Lists.{Among, among_map, in_cases, equal_numbers, equal_to_itself, without-none}

-- x at a place among these
abbrev pub inserted : ℕ → ℕ → List ℕ → List ℕ
inserted zero x list = x ∷ list
inserted (suc k) x [] = x ∷ []
inserted (suc k) x (y ∷ list) = y ∷ inserted k x list

no_more : (b : Bool) (n : ℕ) → b ≡ true → bit b + n ≤ 1 → n ≡ 0
no_more b n e h = grind arith

later : (b : Bool) (n : ℕ) → b ≡ false → 0 < bit b + n → 0 < n
later b n e h = grind arith

fewer : (b : Bool) (n : ℕ) → bit b + n ≤ 1 → n ≤ 1
fewer b n h = omega arith

pub order_inserted : (x : ℕ) (order : List ℕ) → 0 < often x order → often x order ≤ 1
    → order ≡ inserted (place x order) x (without x order)
order_inserted x [] some once = absurd (omega arith)
order_inserted x (y ∷ rest) some once = step (nat_eq x y) refl (λ some once. order_inserted x rest some once)
  where
    step : (b : Bool) → b ≡ nat_eq x y
        → (0 < often x rest → often x rest ≤ 1 → rest ≡ inserted (place x rest) x (without x rest))
        → y ∷ rest ≡ inserted (cond b 0 (suc (place x rest))) x (cond (not b) (y ∷ without x rest) (without x rest))
    step true e further =
        ap (λ z. z ∷ rest) (sym (equal_numbers x y (sym e)))
        ∙ ap (λ zs. x ∷ zs) (sym (without-none x rest (no_more (nat_eq x y) (often x rest) (sym e) once)))
    step false e further = ap (λ zs. y ∷ zs) (further (later (nat_eq x y) (often x rest) (sym e) some)
        (fewer (nat_eq x y) (often x rest) once))

pub place_inside : (x : ℕ) (order : List ℕ) → 0 < often x order → place x order ≤ length (without x order)
place_inside x [] some = absurd (omega arith)
place_inside x (y ∷ rest) some = step (nat_eq x y) refl (λ some. place_inside x rest some)
  where
    step : (b : Bool) → b ≡ nat_eq x y → (0 < often x rest → place x rest ≤ length (without x rest))
        → cond b 0 (suc (place x rest)) ≤ length (cond (not b) (y ∷ without x rest) (without x rest))
    step true e further = omega arith
    step false e further = let inside = further (later (nat_eq x y) (often x rest) (sym e) some) in omega arith

pub often-inserted : (k x : ℕ) (list : List ℕ) (y : ℕ) → often y (inserted k x list) ≡ bit (nat_eq y x) + often y list
often-inserted zero x list y = refl
often-inserted (suc k) x [] y = refl
often-inserted (suc k) x (z ∷ list) y = turn (bit (nat_eq y z)) _ _ _ (often-inserted k x list y)
  where
    turn : (b n c m : ℕ) → n ≡ c + m → b + n ≡ c + (b + m)
    turn b n c m e = omega arith

-- at another place it lists the same set
pub listing_inserted : (a : Set) (j k x : ℕ) (list : List ℕ) → IsListing a (inserted j x list)
    → IsListing a (inserted k x list)
listing_inserted a j k x list listing = listing_of a (inserted k x list) (record {
  each = λ y. often-inserted k x list y ∙ sym (often-inserted j x list y)
      ∙ (lists_of a (inserted j x list) listing).each y;
})

pub without-inserted : (k x : ℕ) (list : List ℕ) → often x list ≡ 0 → without x (inserted k x list) ≡ list
without-inserted zero x list none = ap (λ b. cond (not b) (x ∷ without x list) (without x list)) (equal_to_itself x)
    ∙ without-none x list none
without-inserted (suc k) x [] none = ap (λ b. cond (not b) (x ∷ []) []) (equal_to_itself x)
without-inserted (suc k) x (y ∷ list) none =
    ap (λ b. cond (not b) (y ∷ without x (inserted k x list)) (without x (inserted k x list)))
    (other (nat_eq x y) (often x list) none)
    ∙ ap (λ zs. y ∷ zs) (without-inserted k x list (rest (nat_eq x y) (often x list) none))
  where
    other : (b : Bool) (n : ℕ) → bit b + n ≡ 0 → b ≡ false
    other b n e = grind arith

    rest : (b : Bool) (n : ℕ) → bit b + n ≡ 0 → n ≡ 0
    rest b n e = grind arith

pub place-inserted : (k x : ℕ) (list : List ℕ) → often x list ≡ 0 → k ≤ length list → place x (inserted k x list) ≡ k
place-inserted zero x list none inside = ap (λ b. cond b 0 (suc (place x list))) (equal_to_itself x)
place-inserted (suc k) x [] none inside = absurd (omega arith)
place-inserted (suc k) x (y ∷ list) none inside =
    ap (λ b. cond b 0 (suc (place x (inserted k x list)))) (other (nat_eq x y) (often x list) none)
    ∙ ap suc (place-inserted k x list (rest (nat_eq x y) (often x list) none) (omega arith))
  where
    other : (b : Bool) (n : ℕ) → bit b + n ≡ 0 → b ≡ false
    other b n e = grind arith

    rest : (b : Bool) (n : ℕ) → bit b + n ≡ 0 → n ≡ 0
    rest b n e = grind arith

-- one place nearer the front is one of the raises
pub raise_among : (k x : ℕ) (list : List ℕ) → k < length list → Among (record {
  alternative = x;
  order =
      inserted k x list;
}) (raises (inserted (suc k) x list))
unfolding raises
raise_among k x [] inside = absurd (omega arith)
raise_among zero x (y ∷ list) inside = inl refl
raise_among (suc k) x (y ∷ []) inside = absurd (omega arith)
raise_among (suc k) x (y ∷ z ∷ list) inside = inr (among_map (behind y)
    (record { alternative = x; order = inserted k x (z ∷ list) }) (raises (inserted (suc k) x (z ∷ list)))
    (raise_among k x (z ∷ list) (omega arith)))
