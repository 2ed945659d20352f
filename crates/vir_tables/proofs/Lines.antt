-- Weights over all lines, by what is left of them.
use Rattle.std.proofs.Common.{◌≡◌, ℕ, suc, ◌+◌, ◌<◌, ◌≤◌, Bool, cond, List, [], ◌∷◌, length, get_or, drop, sym, ap, ◌∙◌}
use Rattle.std.proofs.Common.{arith, add-one}
use Rattle.std.proofs.Math.Seq.{drop-cons}
use Rattle.std.proofs.lemmas.List.{drop_all}
use Rattle.std.proofs.lemmas.List.Sums.{sum_by-cons}
use Rattle.vir_profile.specs.declared.ballot.Entry.{Entry}
use Rattle.vir_profile.specs.Profiles.{total_weight, weight_where}

cond_le : (b : Bool) (w : ℕ) → cond b w 0 ≤ w
cond_le b w = grind arith

-- the line at the front of what is left
pub weight_where-drop : (test : List ℕ → Bool) (lines : List Entry) (i : ℕ) (line : Entry) → i < length lines → line
    ≡ get_or lines i line
    → weight_where test (drop i lines) ≡ cond (test line.order) line.weight 0 + weight_where test (drop (i + 1) lines)
weight_where-drop test lines i line within here =
    ap (weight_where test) (drop-cons lines i line within)
    ∙ sum_by-cons (λ (e : Entry). cond (test e.order) e.weight 0) (get_or lines i line) (drop (suc i) lines)
    ∙ ap (λ (e : Entry). cond (test e.order) e.weight 0 + weight_where test (drop (suc i) lines)) (sym here)
    ∙ ap (λ k. cond (test line.order) line.weight 0 + weight_where test (drop k lines)) (sym (add-one i))

-- the same of all weights
pub total_weight-drop : (lines : List Entry) (i : ℕ) (line : Entry) → i < length lines → line ≡ get_or lines i line
    → total_weight (drop i lines) ≡ line.weight + total_weight (drop (i + 1) lines)
total_weight-drop lines i line within here =
    ap total_weight (drop-cons lines i line within)
    ∙ sum_by-cons (λ (e : Entry). e.weight) (get_or lines i line) (drop (suc i) lines)
    ∙ ap (λ (e : Entry). e.weight + total_weight (drop (suc i) lines)) (sym here)
    ∙ ap (λ k. line.weight + total_weight (drop k lines)) (sym (add-one i))

-- no weight is greater than that of all lines
pub weight_where_le_total : (test : List ℕ → Bool) (lines : List Entry) → weight_where test lines ≤ total_weight lines
weight_where_le_total test [] = omega arith
weight_where_le_total test (line ∷ lines) =
    rw (
      sum_by-cons (λ (e : Entry). cond (test e.order) e.weight 0) line lines,
      sum_by-cons (λ (e : Entry). e.weight)
          line lines,
    )
    (omega (arith, weight_where_le_total test lines, cond_le (test line.order) line.weight))

pub nothing_left : (test : List ℕ → Bool) (lines : List Entry) (i : ℕ) → length lines ≤ i
    → weight_where test (drop i lines) ≡ 0
nothing_left test lines i end = ap (weight_where test) (drop_all i lines end)
