-- Sums of scores, and that they fit.
use Rattle.std.proofs.Common.{◌≡◌, ℕ, ◌+◌, ◌*◌, ◌<◌, ◌≤◌, List, ◌∷◌, map, length, drop, sym, ap, ◌∙◌, arith, pos, ℤ}
use Rattle.std.proofs.Common.{◌+ℤ◌, ◌≤ℤ◌}
use Rattle.std.proofs.lemmas.Int.{ints, to_z-of_z}
use Rattle.std.proofs.lemmas.List.{drop_all}
use mir.Syntax.{w128}
use mir.Val.{SFits, to_z, of_z}
use Rattle.vir_altset.specs.Sets.{limit}
use Rattle.vir_mean.specs.Numbers.{score_of, IsWithin}
use Rattle.vir_mean.specs.Numbers.{score_bound}
use Rattle.vir_mean.specs.Eliminators.{sum}

-- a sum of the scores of the first n of the list
pub record Added (scores : List ℤ) (list : List ℕ) (so_far : ℤ) (n : ℕ) : Type 0 where
  pub value : (so_far +ℤ sum (map (score_of scores) (drop n list))) ≡ sum (map (score_of scores) list)
  pub low : pos 0 ≤ℤ (so_far +ℤ pos (n * score_bound))
  pub high : so_far ≤ℤ pos (n * score_bound)

pub added_none : (scores : List ℤ) (list : List ℕ) → Added scores list (pos 0) 0
added_none scores list = record { value = omega (arith, ints); low = omega (arith, ints); high = omega (arith, ints) }

pub added_more : {scores : List ℤ} {list : List ℕ} {so_far : ℤ} {n : ℕ} → Added scores list so_far n → (y : ℕ)
    → drop n list ≡ y ∷ drop (n + 1) list → (v : ℤ) → v ≡ score_of scores y → IsWithin score_bound v
    → Added scores list (so_far +ℤ v) (n + 1)
added_more {scores} {list} {so_far} {n} s y here v e w = record {
  value = (let k = s.value in let h = ap (λ l. sum (map (score_of scores) l)) here in omega (arith, ints));
  low = let k = s.low in let l = w.low in omega (arith, ints);
  high = let k = s.high in let l = w.high in omega (arith, ints);
}

pub added_all : {scores : List ℤ} {list : List ℕ} {so_far : ℤ} {n : ℕ} → Added scores list so_far n → length list ≤ n
    → so_far ≡ sum (map (score_of scores) list)
added_all {scores} {list} {so_far} {n} s end = plus so_far ∙ ap (λ l. so_far +ℤ sum (map (score_of scores) l))
    (sym (drop_all n list end)) ∙ s.value
  where
    plus : (z : ℤ) → z ≡ z +ℤ pos 0
    plus z = omega (arith, ints)

pub backed : (z : ℤ) → SFits w128 z → to_z w128 (of_z w128 z) ≡ z
backed z fits = grind (arith, to_z-of_z)

pub fits_more : {scores : List ℤ} {list : List ℕ} {so_far : ℤ} {n : ℕ} → Added scores list so_far n → n < limit + 1
    → (v : ℤ) → IsWithin score_bound v → SFits w128 (so_far +ℤ v)
fits_more s h v w = let k = s.low in let l = s.high in let i = w.low in let j = w.high in omega (arith, ints)

pub small_fits : (v : ℤ) → IsWithin score_bound v → SFits w128 v
small_fits v w = let i = w.low in let j = w.high in omega (arith, ints)
