-- A lift that changes the score of another alternative may leave that of the lifted one as it is: by minimax, and by
-- the Condorcet score.
use Rattle.std.proofs.Common.{◌≡◌, ◌≢◌, ℕ, true, List, [], ◌∷◌, ℤ, pos, ◌<ℤ◌, refl, arith}
use Rattle.std.proofs.lemmas.Int.{ints}
use Rattle.std.specs.FinSet as set
use Rattle.vir_altset.specs.SetLaws.{contains-all}
use Rattle.vir_altset.specs.Sets.{Set}
use Rattle.vir_profile.specs.declared.ballot.Entry.{Entry}
use Rattle.vir_profile.specs.Profiles.{IsProfileOn}
use Rattle.vir_term.specs.declared.score.Score.{Score}
use Rattle.vir_term.specs.declared.score.Score.TheVariants.{Minimax, Condorcet}
use Rattle.vir_mean.specs.Lifts.{Lifts}
use Rattle.vir_mean.specs.Scores.{score, minimax_score, condorcet_score}
use Rattle.vir_mean.proofs.PairScores.{minimax_is, condorcet_is}
use Rattle.vir_mean.proofs.SmallElections.{by_number, each_listed, election, line, lists_three}
use Rattle.vir_mean.proofs.SmallElections.{one_two, one_two_three, three, three_one_two, three_two_one, two, two_one}

-- The score of the lifted one rises where a lift changes another one's.
abbrev RaisesTheLifted : Score → Type 0
RaisesTheLifted s = (a : Set) (p q : List Entry) (x : ℕ)
    → IsProfileOn a p → IsProfileOn a q → set.contains a x ≡ true → Lifts x p q
    → (y : ℕ) → set.contains a y ≡ true → y ≢ x → score s a q y ≢ score s a p y
    → score s a p x <ℤ score s a q x

differ : (v w : ℤ) → v ≡ pos 0 → w ≡ pos 1 → v ≢ w
differ v w none one same = omega (arith, ints)

no_rise : (v w z : ℤ) → v ≡ z → w ≡ z → v <ℤ w → ⊥
no_rise v w z before after rises = omega (arith, ints)

-- ---- three alternatives, by minimax
abbrev pub tied : List Entry
tied = line 1 by_number ∷ line 1 (3 ∷ 2 ∷ 1 ∷ []) ∷ []

-- 1 is lifted past 2
abbrev pub lifted : List Entry
lifted = line 1 by_number ∷ line 1 (3 ∷ 1 ∷ 2 ∷ []) ∷ []

pub first_lifted : Lifts 1 tied lifted
first_lifted = (
  record { agrees = record { weight = refl; others = refl }; nearer = omega arith },
  (record { agrees = record { weight = refl; others = refl }; nearer = omega arith }, tt),
)

unfoldable pub minimax_of : List Entry → ℕ → ℤ
minimax_of lines x = minimax_score three lines x

pub tied_scores : (minimax_of tied 1 ≡ pos 1) × (minimax_of tied 2 ≡ pos 1) × (minimax_of tied 3 ≡ pos 1)
unfolding minimax_of
tied_scores = (
  minimax_is three tied 1 by_number lists_three,
  minimax_is three tied 2 by_number lists_three,
  minimax_is three tied 3 by_number lists_three,
)

pub lifted_scores : (minimax_of lifted 1 ≡ pos 1) × (minimax_of lifted 2 ≡ pos 0) × (minimax_of lifted 3 ≡ pos 1)
unfolding minimax_of
lifted_scores = (
  minimax_is three lifted 1 by_number lists_three,
  minimax_is three lifted 2 by_number lists_three,
  minimax_is three lifted 3 by_number lists_three,
)

pub minimax_may_stay : RaisesTheLifted Minimax → ⊥
unfolding minimax_of
minimax_may_stay raises =
    no_rise (minimax_of tied 1) (minimax_of lifted 1) (pos 1) tied_scores.0 lifted_scores.0
    (raises three tied lifted 1 (election 3 tied (one_two_three, (three_two_one, tt))).lists
    (election 3 lifted (one_two_three, (three_one_two, tt))).lists (contains-all 3 1) first_lifted 2
    (contains-all 3 2) (λ same. omega (arith, same))
    (differ (minimax_of lifted 2) (minimax_of tied 2) lifted_scores.1 tied_scores.1))

-- ---- two alternatives, by the Condorcet score
abbrev behind : List Entry
behind = line 1 (2 ∷ 1 ∷ []) ∷ line 1 (2 ∷ 1 ∷ []) ∷ []

-- 1 is lifted past 2 in the first line
abbrev level : List Entry
level = line 1 (1 ∷ 2 ∷ []) ∷ line 1 (2 ∷ 1 ∷ []) ∷ []

made_level : Lifts 1 behind level
made_level = (
  record { agrees = record { weight = refl; others = refl }; nearer = omega arith },
  (record { agrees = record { weight = refl; others = refl }; nearer = omega arith }, tt),
)

unfoldable condorcet_of : List Entry → ℕ → ℤ
condorcet_of lines x = condorcet_score two lines x

behind_scores : (condorcet_of behind 1 ≡ pos 0) × (condorcet_of behind 2 ≡ pos 1)
unfolding condorcet_of
behind_scores =
    let lists = each_listed 2 (1 ∷ 2 ∷ []) one_two in
    (condorcet_is two behind 1 (1 ∷ 2 ∷ []) lists, condorcet_is two behind 2 (1 ∷ 2 ∷ []) lists)

level_scores : (condorcet_of level 1 ≡ pos 0) × (condorcet_of level 2 ≡ pos 0)
unfolding condorcet_of
level_scores =
    let lists = each_listed 2 (1 ∷ 2 ∷ []) one_two in
    (condorcet_is two level 1 (1 ∷ 2 ∷ []) lists, condorcet_is two level 2 (1 ∷ 2 ∷ []) lists)

pub condorcet_may_stay : RaisesTheLifted Condorcet → ⊥
unfolding condorcet_of
condorcet_may_stay raises =
    no_rise (condorcet_of behind 1) (condorcet_of level 1) (pos 0) behind_scores.0 level_scores.0
    (raises two behind level 1 (election 2 behind (two_one, (two_one, tt))).lists
    (election 2 level (one_two, (two_one, tt))).lists (contains-all 2 1) made_level 2
    (contains-all 2 2) (λ same. omega (arith, same))
    (differ (condorcet_of level 2) (condorcet_of behind 2) level_scores.1 behind_scores.1))
