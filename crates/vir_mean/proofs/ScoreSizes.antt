-- How large scores are.
use Rattle.std.proofs.Common.{ℕ, suc, ◌+◌, ◌*◌, ◌^◌, ◌<◌, ◌≤◌, Bool, true, false, cond, not, List, [], ◌∷◌, length}
use Rattle.std.proofs.Common.{nat_eq, sym, arith, subst, pos, ℤ, ◌-ℤ◌}
use Rattle.std.proofs.lemmas.Int.{ints}
use Rattle.std.proofs.lemmas.List.Sums.{sum_by-cons}
use Rattle.std.specs.FinSet.{retain, len}
use Rattle.vir_altset.specs.Sets.{Set}
use Rattle.vir_profile.specs.declared.ballot.Entry.{Entry}
use Rattle.vir_profile.specs.Orders.{puts_before, begins_with}
use Rattle.vir_profile.specs.Profiles.{total_weight, weight_where, pairwise_weight}
use Rattle.vir_term.specs.declared.score.Score.{Score}
use Rattle.vir_term.specs.declared.score.Score.TheVariants.{Plurality, Borda, Copeland, Minimax, Condorcet}
use Rattle.vir_altset.specs.Splits.{bit}
use Rattle.vir_altset.specs.Sets.{limit}
use Rattle.vir_mean.specs.Listings.{total, least, others}
use Rattle.vir_mean.specs.Numbers.{score_bound}
use Rattle.vir_mean.specs.Numbers.{AreScores, IsWithin, AreSmall}
use Rattle.vir_mean.specs.Scores.{score, beats_all}
use Rattle.vir_mean.proofs.MemberCounts.{lists_members}
use Rattle.vir_mean.proofs.MemberListings.{len_retain}
use Rattle.vir_mean.specs.Members.{AreMembers}
use Rattle.vir_mean.proofs.PairScores.{others_in, borda_is, bit_le}

part_le : (b : Bool) (w : ℕ) → cond b w 0 ≤ w
part_le b w = grind arith

-- some lines weigh no more than all
where_le : (test : List ℕ → Bool) (lines : List Entry) → weight_where test lines ≤ total_weight lines
where_le test [] = omega arith
where_le test (line ∷ lines) =
    rw (
      sum_by-cons (λ (e : Entry). cond (test e.order) e.weight 0) line lines,
      sum_by-cons (λ (e : Entry). e.weight)
          line lines,
    )
    (omega (arith, where_le test lines, part_le (test line.order) line.weight))

-- a sum over a list is at most its length times a bound
total_le : (f : ℕ → ℕ) (b : ℕ) (list : List ℕ) → ((y : ℕ) → f y ≤ b) → total f list ≤ length list * b
total_le f b [] h = omega arith
total_le f b (y ∷ list) h = let k = h y in let rest : total f list ≤ length list * b = total_le f b list h
    in omega arith

others_le : (f : ℕ → ℕ) (b x : ℕ) (list : List ℕ) → ((y : ℕ) → f y ≤ b) → total f (others_in x list) ≤ length list * b
others_le f b x [] h = omega arith
others_le f b x (y ∷ list) h = step (nat_eq x y) (others_le f b x list h)
  where
    step : (same : Bool) → total f (others_in x list) ≤ length list * b
        → total f (cond (not same) (y ∷ others_in x list) (others_in x list)) ≤ suc (length list) * b
    step true rest = omega arith
    step false rest = let k = h y in omega arith

least_le : (f : ℕ → ℕ) (b : ℕ) (list : List ℕ) → ((y : ℕ) → f y ≤ b) → least f list ≤ b
least_le f b [] h = omega arith
least_le f b (y ∷ []) h = h y
least_le f b (y ∷ z ∷ list) h = let k = h y in omega arith

module _ (a : Set) (lines : List Entry) (x : ℕ) (list : List ℕ) (few : total_weight lines < 2 ^ 64)
    (members : AreMembers a list) where
  pair : (y : ℕ) → pairwise_weight lines x y ≤ 2 ^ 64
  pair y = let h = where_le (puts_before x y) lines in omega arith

  natural : (n : ℕ) → n ≤ score_bound → IsWithin score_bound (pos n)
  natural n h = record { low = omega (arith, ints); high = omega (arith, ints) }

  gap : (m n : ℕ) → m ≤ limit + 1 → n ≤ limit + 1 → IsWithin score_bound (pos m -ℤ pos n)
  gap m n h k = record { low = omega (arith, ints); high = omega (arith, ints) }

  passing : (t : ℕ → Bool) → len (retain a t) ≤ limit + 1
  passing t = let e = len_retain a t list (lists_members members) in let h = total_le (λ y. bit (t y)) 1 list
      (λ y. bit_le (t y)) in let k = members.few in omega arith

  within : (named : Score) → IsWithin score_bound (score named a lines x)
  within Plurality = natural _ (let h = where_le (begins_with x) lines in omega arith)
  within Borda = subst (IsWithin score_bound) (sym (borda_is a lines x list (lists_members members)))
      (natural _ (let h = others_le (pairwise_weight lines x) (2 ^ 64) x list pair in let k = members.few
      in omega arith))
  within Copeland = gap _ _ (passing _) (passing _)
  within Minimax = natural _ (let h = least_le (pairwise_weight lines x) (2 ^ 64) (others x a) pair in omega arith)
  within Condorcet = natural _ (let h = bit_le (beats_all x a lines) in omega arith)

pub all_small : (named : Score) (a : Set) (lines : List Entry) (list : List ℕ) (scores : List ℤ) → total_weight lines <
    2 ^ 64 → AreMembers a list → AreScores a (score named a lines) scores → AreSmall a scores
all_small named a lines list scores few members are =
    record { each = λ x m. subst (IsWithin score_bound) (sym (are.each x m)) (within a lines x list few members named) }
