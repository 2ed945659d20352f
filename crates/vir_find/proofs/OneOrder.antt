-- The lines of one order of a profile, and the others.
use Rattle.std.proofs.Common.{◌≡◌, ◌⊎◌, inl, inr, ℕ, zero, suc, ◌+◌, ◌≤◌, Bool, true, false, true≢false, cond, not}
use Rattle.std.proofs.Common.{nat_eq, List, [], ◌∷◌, ◌++◌, map, filter, refl, sym, ap, ap₂, ◌∙◌, arith, subst}
use Rattle.std.specs.Cmp.Lexicographic.{pointwise}
use Rattle.vir_profile.specs.declared.ballot.Entry.{Entry}
use Rattle.vir_profile.specs.Profiles.{weight_where, total_weight}
use Rattle.vir_find.specs.Weights.{weight_of, HaveSameWeights}
use Rattle.vir_find.specs.Spreads.{with_line}
use Rattle.vir_find.proofs.AlikeProfiles.{Alike, weight_where-cons}
use Rattle.vir_find.proofs.Lists.{Among, among_left, among_right, list_itself, list_same, list_equal}

-- the lines of other orders
abbrev pub others : List ℕ → List Entry → List Entry
others order lines = filter (λ line. not (pointwise nat_eq order line.order)) lines

-- a sum of weights goes by the lines of one order, and the others
pub weight_where-others : (test : List ℕ → Bool) (order : List ℕ) (lines : List Entry) → weight_where test lines
    ≡ cond (test order) (weight_of order lines) 0 + weight_where test (others order lines)
weight_where-others test order [] = none (test order)
  where
    none : (b : Bool) → 0 ≡ cond b 0 0 + 0
    none true = refl
    none false = refl
weight_where-others test order (line ∷ lines) =
    weight_where-cons test line lines
    ∙ step (pointwise nat_eq order line.order) (test line.order) (test order) line.weight _ _ _
    (λ e. sym (ap test (list_same order line.order e))) (weight_where-others test order lines)
    ∙ ap₂ (λ w n. cond (test order) w 0 + n) (sym (weight_where-cons (pointwise nat_eq order) line lines))
    (sym (kept (pointwise nat_eq order line.order)))
  where
    kept : (same : Bool) → weight_where test (cond (not same) (line ∷ others order lines) (others order lines))
        ≡ cond same 0 (cond (test line.order) line.weight 0) + weight_where test (others order lines)
    kept true = zero_more (weight_where test (others order lines))
      where
        zero_more : (n : ℕ) → n ≡ 0 + n
        zero_more n = omega arith
    kept false = weight_where-cons test line (others order lines)

    step : (same t u : Bool) (w n o r : ℕ) → (same ≡ true → t ≡ u) → n ≡ cond u o 0 + r
        → cond t w 0 + n ≡ cond u (cond same w 0 + o) 0 + (cond same 0 (cond t w 0) + r)
    step true t u w n o r e h = first t u (e refl) h
      where
        first : (t u : Bool) → t ≡ u → n ≡ cond u o 0 + r → cond t w 0 + n ≡ cond u (w + o) 0 + (0 + r)
        first true true e h = omega arith
        first false false e h = omega arith
        first true false e h = absurd (true≢false e)
        first false true e h = absurd (true≢false (sym e))
    step false t true w n o r e h = omega arith
    step false t false w n o r e h = omega arith

-- a line in front counts where its order passes
pub weight_where-with_line : (test : List ℕ → Bool) (w : ℕ) (order : List ℕ) (lines : List Entry)
    → weight_where test (with_line w order lines) ≡ cond (test order) w 0 + weight_where test lines
weight_where-with_line test zero order lines = none (test order) (weight_where test lines)
  where
    none : (b : Bool) (n : ℕ) → n ≡ cond b 0 0 + n
    none true n = omega arith
    none false n = omega arith
weight_where-with_line test (suc w) order lines =
    weight_where-cons test (record { weight = suc w; order = order }) lines

-- the voters of an order, by those of the same order and of others
pub weight_of-others : (order other : List ℕ) (lines : List Entry) → pointwise nat_eq order other ≡ false
    → weight_of order (others other lines) ≡ weight_of order lines
weight_of-others order other lines apart = step _ _ _ _ apart (weight_where-others (pointwise nat_eq order) other lines)
  where
    step : (b : Bool) (n o r : ℕ) → b ≡ false → n ≡ cond b o 0 + r → r ≡ n
    step b n o r e h = grind arith

-- profiles with the same weights have the same weights of other orders
pub same_weights_of_others : (order : List ℕ) (p q : List Entry) → HaveSameWeights p q
    → HaveSameWeights (others order p)
    (others order q)
same_weights_of_others order p q same other =
    step _ _ _ _ _ _ (weight_where-others (pointwise nat_eq other) order p)
    (weight_where-others (pointwise nat_eq other) order q) (same other)
    (ap (λ w. cond (pointwise nat_eq other order) w 0) (same order))
  where
    step : (n m a b r s : ℕ) → n ≡ a + r → m ≡ b + s → n ≡ m → a ≡ b → r ≡ s
    step n m a b r s e f g h = omega arith

-- ---- the orders of a profile are in a list
abbrev pub Covered : List (List ℕ) → List Entry → Type 0
Covered orders [] = Unit {0}
Covered orders (line ∷ lines) = Among line.order orders × Covered orders lines

pub covered_more : (orders more : List (List ℕ)) → ((o : List ℕ) → Among o orders → Among o more) → (lines : List Entry)
    → Covered orders lines → Covered more lines
covered_more orders more within [] covered = tt
covered_more orders more within (line ∷ lines) covered = (
  within line.order covered.0,
  covered_more orders more within
      lines covered.1,
)

abbrev pub orders_in : List Entry → List (List ℕ)
orders_in lines = map (λ line. line.order) lines

pub covered_by_its_own : (lines : List Entry) → Covered (orders_in lines) lines
covered_by_its_own [] = tt
covered_by_its_own (line ∷ lines) = (
  inl refl,
  covered_more (orders_in lines) (line.order ∷ orders_in lines) (λ o among.
      inr among) lines (covered_by_its_own lines),
)

pub covered_others : (order : List ℕ) (orders : List (List ℕ)) (lines : List Entry) → Covered (order ∷ orders) lines
    → Covered orders (others order lines)
covered_others order orders [] covered = tt
covered_others order orders (line ∷ lines) covered =
    step (pointwise nat_eq order line.order) (λ e. later e covered.0) (covered_others order orders lines covered.1)
  where
    later : pointwise nat_eq order line.order ≡ false → (line.order ≡ order) ⊎ Among line.order orders
        → Among line.order orders
    later e (inl same) = absurd (true≢false (sym (list_equal order line.order (sym same)) ∙ e))
    later e (inr among) = among

    step : (same : Bool) → (same ≡ false → Among line.order orders) → Covered orders (others order lines)
        → Covered orders (cond (not same) (line ∷ others order lines) (others order lines))
    step true among covered = covered
    step false among covered = (among refl, covered)
