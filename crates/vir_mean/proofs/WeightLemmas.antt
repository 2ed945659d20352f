-- Weights of lines, and of restricted ones.
use Rattle.std.proofs.Common.{◌≡◌, ◌≢◌, ℕ, suc, ◌+◌, ◌-◌, ◌<◌, ◌≤◌, Bool, true, false, cond, List, [], ◌∷◌, length}
use Rattle.std.proofs.Common.{get_or, drop, nat_eq, refl, sym, ap, ◌∙◌, arith, add-one, eqb-true}
use Rattle.std.proofs.Math.ListN.{set as put}
use Rattle.std.proofs.Math.Seq.{drop-cons}
use Rattle.std.proofs.lemmas.List.{get_or-set_other, get_or-set_same, drop_all}
use Rattle.std.proofs.lemmas.Bool.Decides.{nat_tests}
use Rattle.std.proofs.lemmas.List.Sums.{sum_by-cons}
use Rattle.vir_altset.specs.Sets.{Set, limit}
use Rattle.vir_profile.specs.declared.ballot.Entry.{Entry}
use Rattle.vir_profile.specs.Orders.{begins_with}
use Rattle.vir_profile.specs.Profiles.{restrict, restricted_line, total_weight, weight_where}
use Rattle.vir_mean.specs.Numbers.{number_of}

-- a weight that counts or doesn't
cond-le : (b : Bool) (w : ℕ) → cond b w 0 ≤ w
cond-le true w = omega arith
cond-le false w = omega arith

-- some lines weigh no more than all
pub weight_where-le-total : (test : List ℕ → Bool) (lines : List Entry) → weight_where test lines ≤ total_weight lines
weight_where-le-total test [] = omega arith
weight_where-le-total test (line ∷ lines) =
    rw (sum_by-cons (λ e. cond (test e.order) e.weight 0) line lines, sum_by-cons (λ e. e.weight) line lines)
    (omega (arith, weight_where-le-total test lines, cond-le (test line.order) line.weight))

-- a restricted profile has the weights of the whole
pub total_weight-restrict : (d : Set) (lines : List Entry) → total_weight (restrict d lines) ≡ total_weight lines
total_weight-restrict d [] = refl
total_weight-restrict d (line ∷ lines) =
    sum_by-cons (λ e. e.weight) (restricted_line d line) (restrict d lines)
    ∙ ap (λ n. line.weight + n) (total_weight-restrict d lines)
    ∙ sym (sum_by-cons (λ e. e.weight) line lines)

-- the first of the lines that are left counts where its order passes
pub weight_where-drop : (test : List ℕ → Bool) (lines : List Entry) (i : ℕ) (line : Entry) → i < length lines → line
    ≡ get_or lines i line
    → weight_where test (drop i lines) ≡ cond (test line.order) line.weight 0 + weight_where test (drop (i + 1) lines)
weight_where-drop test lines i line within here =
    ap (weight_where test) (drop-cons lines i line within)
    ∙ sum_by-cons (λ e. cond (test e.order) e.weight 0) (get_or lines i line) (drop (suc i) lines)
    ∙ ap (λ e. cond (test e.order) e.weight 0 + weight_where test (drop (suc i) lines)) (sym here)
    ∙ ap (λ k. cond (test line.order) line.weight 0 + weight_where test (drop k lines)) (sym (add-one i))

-- no lines are left
pub weight_where-drop_all : (test : List ℕ → Bool) (lines : List Entry) (i : ℕ) → length lines ≤ i
    → weight_where test (drop i lines) ≡ 0
weight_where-drop_all test lines i end = ap (weight_where test) (drop_all i lines end)

-- whether an order begins with x, by its first member
pub begins_with-some : (order : List ℕ) (x : ℕ) → 0 < length order → begins_with x order ≡ nat_eq (get_or order 0 0) x
begins_with-some [] x some = absurd (omega arith)
begins_with-some (y ∷ rest) x some = refl

pub begins_with-none : (order : List ℕ) (x : ℕ) → length order ≡ 0 → begins_with x order ≡ false
begins_with-none [] x none = refl
begins_with-none (y ∷ rest) x none = absurd (omega arith)

-- an order whose first member is x begins with x
pub begins_with-same : (order : List ℕ) (x : ℕ) → 0 < length order → get_or order 0 0 ≡ x → begins_with x order ≡ true
begins_with-same order x some same = begins_with-some order x some ∙ equal (get_or order 0 0) x same
  where
    equal : (y x : ℕ) → y ≡ x → nat_eq y x ≡ true
    equal y x same = grind (arith, nat_tests)

-- the weight added at the first member of an order
pub number_of-added : (weights order : List ℕ) (x y w : ℕ) → length weights ≡ limit → 1 ≤ x → x ≤ limit → 1 ≤ y
    → 0 < length order → get_or order 0 0 ≡ x
    → number_of (put weights (x - 1) (get_or weights (x - 1) 0 + w)) y ≡ number_of weights y
    + cond (begins_with y order) w 0
number_of-added weights order x y w size low high from some first = elim (nat_eq x y) as (λ b. nat_eq x y ≡ b
    → number_of (put weights (x - 1) (get_or weights (x - 1) 0 + w)) y ≡ number_of weights y
    + cond (begins_with y order) w 0) [
      | true ↦ λ e. let same : x ≡ y = eqb-true x y e in
          ap (λ z. get_or (put weights (x - 1) (get_or weights (x - 1) 0 + w)) (z - 1) 0) (sym same)
          ∙ get_or-set_same weights (x - 1) _ 0 (omega arith)
          ∙ ap (λ z. get_or weights (z - 1) 0 + w) same ∙ ap (λ b. number_of weights y + cond b w 0) (sym (begins e))
      | false ↦ λ e. let apart : x ≢ y = grind (arith, nat_tests) in
          get_or-set_other weights (x - 1) (y - 1) _ 0 (omega arith) ∙ plus (number_of weights y)
          ∙ ap (λ b. number_of weights y + cond b w 0) (sym (begins e))
    ] refl
  where
    plus : (n : ℕ) → n ≡ n + 0
    plus n = omega arith

    begins : {b : Bool} → nat_eq x y ≡ b → begins_with y order ≡ b
    begins e = begins_with-some order y some ∙ ap (λ z. nat_eq z y) first ∙ e

-- an order whose first member is no alternative begins with none
pub begins_with-outside : (order : List ℕ) (x y : ℕ) → 0 < length order → get_or order 0 0 ≡ x → x ≢ y
    → begins_with y order ≡ false
begins_with-outside order x y some first apart = begins_with-some order y some ∙ ap (λ z. nat_eq z y) first
    ∙ differ x y apart
  where
    differ : (x y : ℕ) → x ≢ y → nat_eq x y ≡ false
    differ x y apart = grind (arith, nat_tests)
