-- Each profile is as good as one of those that are tried.
use Rattle.std.proofs.Common.{◌≡◌, ◌≢◌, ◌⊎◌, inl, inr, ℕ, zero, suc, ◌+◌, ◌-◌, ◌≤◌, Bool, true, false, cond, nat_eq}
use Rattle.std.proofs.Common.{List}
use Rattle.std.proofs.Common.{[], ◌∷◌, ◌++◌, map, refl, sym, ap, ap₂, ◌∙◌, arith, subst}
use Rattle.std.specs.List.{flat_map}
use Rattle.vir_altset.specs.Sets.{Set}
use Rattle.vir_profile.specs.declared.ballot.Entry.{Entry}
use Rattle.vir_profile.specs.Profiles.{weight_where, total_weight}
use Rattle.vir_term.specs.Tree.{Tree}
use Rattle.vir_mean.specs.Meaning.{mean}
use Rattle.vir_find.specs.Weights.{weight_of, HaveSameWeights}
use Rattle.vir_find.specs.Spreads.{with_line, down_from, spread}
use Rattle.vir_find.proofs.AlikeProfiles.{Alike, mean-alike}
use Rattle.vir_find.proofs.Lists.{Among, among_left, among_right, among_map, among_flat_map, by_number}
use Rattle.vir_find.proofs.OneOrder.{others, weight_where-others, weight_where-with_line, same_weights_of_others}
use Rattle.vir_find.proofs.OneOrder.{Covered}
use Rattle.vir_find.proofs.OneOrder.{covered_more, covered_others, covered_by_its_own, orders_in}

-- the profile with a line for each of these orders that somebody casts
unfoldable pub canonical : List (List ℕ) → List Entry → List Entry
canonical [] lines = []
canonical (order ∷ orders) lines =
    with_line (weight_of order lines) order (canonical orders (others order lines))

-- as many voters cast whatever is asked for
pub canonical-alike : (orders : List (List ℕ)) (lines : List Entry) → Covered orders lines → Alike lines
    (canonical orders lines)
unfolding canonical
canonical-alike [] [] covered test = refl
canonical-alike [] (line ∷ lines) covered test = absurd covered.0
canonical-alike (order ∷ orders) lines covered test =
    weight_where-others test order lines
    ∙ ap (λ n. cond (test order) (weight_of order lines) 0 + n) (canonical-alike orders (others order lines)
    (covered_others order orders lines covered) test)
    ∙ sym (weight_where-with_line test (weight_of order lines) order (canonical orders (others order lines)))

-- profiles with the same weights have one such profile
pub canonical-same : (orders : List (List ℕ)) (p q : List Entry) → HaveSameWeights p q → canonical orders p
    ≡ canonical orders q
unfolding canonical
canonical-same [] p q same = refl
canonical-same (order ∷ orders) p q same = ap₂ (λ w lines. with_line w order lines) (same order)
    (canonical-same orders (others order p) (others order q) (same_weights_of_others order p q same))

-- with the same weights of each order, sums of weights are the same
pub alike_of_weights : (p q : List Entry) → HaveSameWeights p q → Alike p q
alike_of_weights p q same test =
    let both = orders_in p ++ orders_in q in
    canonical-alike both p (covered_more (orders_in p) both (λ o. among_left o (orders_in p) (orders_in q)) p
    (covered_by_its_own p)) test
    ∙ ap (weight_where test) (canonical-same both p q same)
    ∙ sym (canonical-alike both q (covered_more (orders_in q) both (λ o. among_right o (orders_in p) (orders_in q)) q
    (covered_by_its_own q)) test)

pub same_weights : (t : Tree) (a : Set) (p q : List Entry) → HaveSameWeights p q → mean t a p ≡ mean t a q
same_weights t a p q same = mean-alike t a p q (alike_of_weights p q same)

-- ---- it is one of those that are tried
among_down : (w n : ℕ) → w ≤ n → Among w (down_from n)
unfolding down_from
among_down w zero within = inl (omega arith)
among_down w (suc n) within = by_number w (suc n) (λ same. inl same) (λ other. inr (among_down w n (omega arith)))

total-others : (order : List ℕ) (lines : List Entry) → total_weight lines ≡ weight_of order lines
    + total_weight (others order lines)
total-others order lines = weight_where-others (λ _. true) order lines

pub among_spread : (orders : List (List ℕ)) (lines : List Entry) (n : ℕ) → Covered orders lines → total_weight lines ≡ n
    → Among (canonical orders lines) (spread orders n)
unfolding canonical spread
among_spread [] [] zero covered total = inl refl
among_spread [] [] (suc n) covered total = absurd (omega arith)
among_spread [] (line ∷ lines) n covered total = absurd covered.0
among_spread (order ∷ orders) lines n covered total =
    let parts = total-others order lines in
    among_flat_map (λ w. map (with_line w order) (spread orders (n - w))) (weight_of order lines) _ (down_from n)
    (among_down (weight_of order lines) n (omega arith))
    (among_map (with_line (weight_of order lines) order) (canonical orders (others order lines)) _
    (among_spread orders (others order lines) (n - weight_of order lines) (covered_others order orders lines covered)
    (omega arith)))
