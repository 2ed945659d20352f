-- A Condorcet winner's Borda score is above the average.
use Rattle.std.proofs.Common.{◌≡◌, ℕ, ◌+◌, ◌*◌, ◌<◌, ◌≤◌, Bool, true, false, cond, not, List, nat_eq, ap, ◌∙◌, arith}
use Rattle.std.proofs.Common.{pos, ℤ, ◌<ℤ◌, mul-le-mul_left}
use Rattle.std.proofs.lemmas.Bool.Decides.{nat_tests}
use Rattle.std.proofs.lemmas.Int.{ints}
use Rattle.std.specs.FinSet.{contains, len}
use Rattle.vir_altset.specs.Sets.{Set}
use Rattle.vir_profile.specs.declared.ballot.Entry.{Entry}
use Rattle.vir_profile.specs.Profiles.{IsProfileOn, total_weight, pairwise_weight}
use Rattle.vir_profile.specs.Winners.{IsCondorcetWinner}
use Rattle.vir_term.specs.declared.score.Score.TheVariants.{Borda}
use Rattle.vir_mean.specs.Listings.{listed, others, total}
use Rattle.vir_mean.specs.Scores.{score}
use Rattle.vir_mean.specs.Eliminators.{sum_of, scaled}
use Rattle.vir_mean.proofs.MemberCounts.{total_same}
use Rattle.vir_mean.proofs.MemberSums.{member_of_listed, often-listed_member, len-listed, total-constant, total-plus}
use Rattle.vir_mean.proofs.MemberSums.{total-at, total-filter, total-total, total-le, sum-pos}
use Rattle.vir_mean.proofs.PairWeights.{pairwise_weight-both}

eq_flip : (x y : ℕ) → nat_eq x y ≡ nat_eq y x
eq_flip x y = grind (arith, nat_tests)

-- how many voters put x before y, another alternative
abbrev wins : List Entry → ℕ → ℕ → ℕ
wins lines x y = cond (not (nat_eq x y)) (pairwise_weight lines x y) 0

module _ (a : Set) (lines : List Entry) (on : IsProfileOn a lines) where
  abbrev voters : ℕ
  voters = total_weight lines

  abbrev size : ℕ
  size = total (λ x. 1) (listed a)

  -- what a member wins against all others, and what it wins or loses against them
  abbrev won : ℕ → ℕ
  won x = total (wins lines x) (listed a)

  abbrev played : ℕ → ℕ
  played x = total (λ y. wins lines x y + wins lines y x) (listed a)

  -- each voter puts one of two members before the other
  wins-both : (x y : ℕ) → contains a x ≡ true → wins lines x y + wins lines y x + cond (nat_eq x y) voters 0 ≡ voters
  wins-both x y member = step (nat_eq x y) (nat_eq y x) (pairwise_weight lines x y) (pairwise_weight lines y x) voters
      (eq_flip x y) (λ apart. pairwise_weight-both a x y apart member lines on)
    where
      step : (b c : Bool) (m n v : ℕ) → b ≡ c → (b ≡ false → m + n ≡ v) → cond (not b) m 0 + cond (not c) n 0
          + cond b v 0 ≡ v
      step b c m n v same whole = grind arith

  played-all : (x : ℕ) → contains a x ≡ true → played x + voters ≡ voters * size
  played-all x member =
      let all = total_same (λ y. wins lines x y + wins lines y x + cond (nat_eq x y) voters 0) (λ y. voters) (listed a)
      (λ y some. wins-both x y member) in
      let apart = total-plus (λ y. wins lines x y + wins lines y x) (λ y. cond (nat_eq x y) voters 0) (listed a) in
      let self : total (λ y. cond (nat_eq x y) voters 0) (listed a) ≡ voters = total-at x voters (listed a)
      ∙ ap (λ n. voters * n) (often-listed_member a x member) ∙ (omega arith) in
      let same = total-constant voters (listed a) in
      omega arith

  -- what all win together, taken twice
  won-twice : total won (listed a) + total won (listed a) + voters * size ≡ voters * size * size
  won-twice =
      let turned = total-total (wins lines) (listed a) (listed a) in
      let both = total-plus won (λ x. total (λ y. wins lines y x) (listed a)) (listed a) in
      let rows = total_same played (λ x. won x + total (λ y. wins lines y x) (listed a)) (listed a)
      (λ x some. total-plus (wins lines x) (λ y. wins lines y x) (listed a)) in
      let more = total-plus played (λ x. voters) (listed a) in
      let all = total_same (λ x. played x + voters) (λ x. voters * size) (listed a)
      (λ x some. played-all x (member_of_listed a x some)) in
      let many = total-constant (voters * size) (listed a) in
      let once = total-constant voters (listed a) in
      omega arith

  borda-won : (x : ℕ) → total (pairwise_weight lines x) (others x a) ≡ won x
  borda-won x = total-filter (pairwise_weight lines x) (λ y. not (nat_eq x y)) (listed a)

  module _ (w : ℕ) (winner : IsCondorcetWinner w a lines) where
    -- against each other member the winner wins more than half
    won-most : played w + size ≤ won w + won w + 1
    won-most =
        let each = total-le (λ y. wins lines w y + wins lines y w + 1) (λ y. wins lines w y + wins lines w y
        + cond (nat_eq w y) 1 0) (listed a)
        (λ y some. step (nat_eq w y) (nat_eq y w) _ _ (eq_flip w y) (λ apart. winner.wins y (member_of_listed a y some)
        (eq_apart w y apart))) in
        let left = total-plus (λ y. wins lines w y + wins lines y w) (λ y. 1) (listed a) in
        let right = total-plus (λ y. wins lines w y + wins lines w y) (λ y. cond (nat_eq w y) 1 0) (listed a) in
        let twice = total-plus (wins lines w) (wins lines w) (listed a) in
        let self : total (λ y. cond (nat_eq w y) 1 0) (listed a) ≡ 1 = total-at w 1 (listed a)
        ∙ ap (λ n. 1 * n) (often-listed_member a w winner.member) in
        omega arith
      where
        eq_apart : (x y : ℕ) → nat_eq x y ≡ false → y ≡ x → ⊥
        eq_apart x y apart = grind (arith, nat_tests)

        step : (b c : Bool) (m n : ℕ) → b ≡ c → (b ≡ false → n < m) → cond (not b) m 0 + cond (not c) n 0
            + 1 ≤ cond (not b) m 0 + cond (not b) m 0 + cond b 1 0
        step b c m n same more = grind arith

    won-above : 2 ≤ len a → total won (listed a) < won w * len a
    won-above two = step (len a) size (total won (listed a)) (won w) (played w) voters (len-listed a) two won-twice
        (played-all w winner.member) won-most
      where
        step : (n m all most row v : ℕ) → n ≡ m → 2 ≤ n → all + all + v * m ≡ v * m * m → row + v ≡ v * m → row
            + m ≤ most + most + 1 → all < most * n
        step n m all most row v size two twice whole half =
            let square : (row + v) * m ≡ v * m * m = ap (λ z. z * m) whole in
            let more : m * (row + m) ≤ m * (most + most + 1) = mul-le-mul_left m half in
            let large : m * 2 ≤ m * m = mul-le-mul_left m (omega arith) in
            rw size (omega arith)

    pub borda_above_average : 2 ≤ len a → sum_of (score Borda a lines) a <ℤ scaled (score Borda a lines) a w
    borda_above_average two =
        let all = sum-pos (λ x. total (pairwise_weight lines x) (others x a)) (listed a) in
        let same = total_same (λ x. total (pairwise_weight lines x) (others x a)) won (listed a) (λ x some. borda-won x)
        in
        let above = won-above two in
        step _ _ _ _ _ all same (borda-won w) above
      where
        step : (z : ℤ) (m n k j : ℕ) → z ≡ pos m → m ≡ n → k ≡ j → n < j * len a → z <ℤ pos (k * len a)
        step z m n k j is same score less = rw (is, same, score) (omega (arith, ints))
