-- First places among the members of a set.
use Rattle.std.proofs.Common.{◌≡◌, ◌≢◌, ℕ, suc, ◌+◌, ◌-◌, ◌<◌, ◌≤◌, Bool, true, false, cond, List, [], ◌∷◌, length}
use Rattle.std.proofs.Common.{get_or, drop, nat_eq, Option, Some, None, refl, sym, ap, ◌∙◌, arith, add-one, eqb-true}
use Rattle.std.proofs.Common.{subst}
use Rattle.std.proofs.Math.ListN.{set as put}
use Rattle.std.proofs.Math.Seq.{drop-cons}
use Rattle.std.proofs.lemmas.Bool.Decides.{nat_tests}
use Rattle.std.proofs.lemmas.List.{get_or-set_other, get_or-set_same}
use Rattle.std.proofs.lemmas.List.Sums.{sum_by-cons}
use Rattle.std.specs.FinSet as set
use Rattle.std.specs.List.{filter, find}
use Rattle.std.specs.Option.{option_eq}
use Rattle.vir_altset.specs.Sets.{Set, limit}
use Rattle.vir_mean.specs.Numbers.{number_of}
use Rattle.vir_profile.specs.declared.ballot.Entry.{Entry}
use Rattle.vir_profile.specs.OrderFaults.{order_fault}
use Rattle.vir_profile.specs.Orders.{begins_with}
use Rattle.vir_profile.specs.Profiles.{restrict, restricted_line, total_weight, first_weight}
use Rattle.vir_profile.proofs.OrderLaws.{listing_of_accepted}
use Rattle.vir_tables.specs.Additions.{AreAlternatives}
use Rattle.vir_tables.specs.Table.{IsAlternative}
use Rattle.vir_tables.proofs.Lines.{weight_where_le_total}
use Rattle.vir_tables.proofs.RankedPairs.{listed_alternatives}

-- an order that a profile of at most so many alternatives takes
pub alternatives_of : (m : ℕ) (order : List ℕ) → m ≤ limit → order_fault m order ≡ None → AreAlternatives limit order
alternatives_of m order few none = record {
  each = λ i h. let r = (listed_alternatives m order (listing_of_accepted m order none)).each i h
      in record { low = r.low; high = let high = r.high in omega arith };
}

-- ---- one order
abbrev pub is_at : ℕ → Option ℕ → Bool
is_at x (Some y) = nat_eq y x
is_at x None = false

-- a test of an option for one number
pub is_at-option_eq : (x : ℕ) (found : Option ℕ) → option_eq nat_eq found (Some x) ≡ is_at x found
is_at-option_eq x (Some y) = refl
is_at-option_eq x None = refl

-- what is kept of an order begins with the first that is kept
pub begins_with-filter : (t : ℕ → Bool) (x : ℕ) (order : List ℕ) → begins_with x (filter t order)
    ≡ is_at x (find t order)
begins_with-filter t x [] = refl
begins_with-filter t x (y ∷ order) = step (t y) (begins_with-filter t x order)
  where
    step : (b : Bool) → begins_with x (filter t order) ≡ is_at x (find t order)
        → begins_with x (cond b (y ∷ filter t order) (filter t order)) ≡ is_at x (cond b (Some y) (find t order))
    step true h = refl
    step false h = h

pub find-drop : (t : ℕ → Bool) (order : List ℕ) (i : ℕ) → i < length order → find t (drop i order)
    ≡ cond (t (get_or order i 0)) (Some (get_or order i 0)) (find t (drop (i + 1) order))
find-drop t order i within = rw (drop-cons order i 0 within, add-one i) refl

-- what is found stands in the order
pub found_within : (m : ℕ) (t : ℕ → Bool) (order : List ℕ) (x : ℕ) → AreAlternatives m order → find t order ≡ Some x
    → IsAlternative m x
found_within m t [] x are h = cc h
found_within m t (y ∷ order) x are h = step (t y) (are.each 0 (omega arith))
    (found_within m t order x (record { each = λ i l. are.each (suc i) (omega arith) })) h
  where
    step : (b : Bool) → IsAlternative m y → (find t order ≡ Some x → IsAlternative m x) → cond b (Some y) (find t order)
        ≡ Some x → IsAlternative m x
    step true here later h = subst (IsAlternative m) (cc h) here
    step false here later h = later h

-- tests that tell the same keep the same
pub same_kept : (t u : ℕ → Bool) (order : List ℕ) → ((x : ℕ) → t x ≡ u x) → filter t order ≡ filter u order
same_kept t u order same = λ i. filter (λ x. same x i) order

-- the weight added at x
pub number_of-put : (weights : List ℕ) (x y w : ℕ) → length weights ≡ limit → 1 ≤ x → x ≤ limit → 1 ≤ y
    → number_of (put weights (x - 1) (get_or weights (x - 1) 0 + w)) y ≡ number_of weights y + cond (nat_eq x y) w 0
number_of-put weights x y w size low high from = elim (nat_eq x y) as (λ b. nat_eq x y ≡ b
    → number_of (put weights (x - 1) (get_or weights (x - 1) 0 + w)) y ≡ number_of weights y + cond b w 0) [
      | true ↦ λ e. let same : x ≡ y = eqb-true x y e in
          ap (λ z. get_or (put weights (x - 1) (get_or weights (x - 1) 0 + w)) (z - 1) 0) (sym same)
          ∙ get_or-set_same weights (x - 1) _ 0 (omega arith)
          ∙ ap (λ z. get_or weights (z - 1) 0 + w) same
      | false ↦ λ e. let apart : x ≢ y = grind (arith, nat_tests) in
          get_or-set_other weights (x - 1) (y - 1) _ 0 (omega arith) ∙ plus (number_of weights y)
    ] refl
  where
    plus : (n : ℕ) → n ≡ n + 0
    plus n = omega arith

-- ---- all lines
pub total_weight-restrict : (d : Set) (lines : List Entry) → total_weight (restrict d lines) ≡ total_weight lines
total_weight-restrict d [] = refl
total_weight-restrict d (line ∷ lines) =
    sum_by-cons (λ (e : Entry). e.weight) (restricted_line d line) (restrict d lines) ∙ ap (λ n. line.weight + n)
    (total_weight-restrict d lines) ∙ sym (sum_by-cons (λ (e : Entry). e.weight) line lines)

pub first_weight_le_total : (x : ℕ) (d : Set) (lines : List Entry) → first_weight (restrict d lines) x ≤ total_weight
    lines
first_weight_le_total x d lines = let most = weight_where_le_total (begins_with x) (restrict d lines) in let same =
    total_weight-restrict d lines in omega arith

pub first_weight-drop : (x : ℕ) (d : Set) (lines : List Entry) (i : ℕ) (line : Entry) → i < length lines → line
    ≡ get_or lines i line
    → first_weight (restrict d (drop i lines)) x ≡ cond (begins_with x (filter (set.contains d) line.order)) line.weight
    0 + first_weight (restrict d (drop (i + 1) lines)) x
first_weight-drop x d lines i line within here =
    ap (λ p. first_weight (restrict d p) x) (drop-cons lines i line within)
    ∙ sum_by-cons (λ (e : Entry). cond (begins_with x e.order) e.weight 0) (restricted_line d (get_or lines i line))
    (restrict d (drop (suc i) lines))
    ∙ ap (λ (e : Entry). cond (begins_with x (filter (set.contains d) e.order)) e.weight 0
    + first_weight (restrict d (drop (suc i) lines)) x) (sym here)
    ∙ ap (λ k. cond (begins_with x (filter (set.contains d) line.order)) line.weight 0
    + first_weight (restrict d (drop k lines)) x) (sym (add-one i))
