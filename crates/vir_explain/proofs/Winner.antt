-- The alternative that beats all others.
use Rattle.std.proofs.Common.{◌≡◌, ◌≢◌, ℕ, zero, suc, ◌<◌, ◌≤◌, ◌||◌, ◌&&◌, Bool, true, false}
use Rattle.std.proofs.Common.{true≢false, cond, nat_eq, List, [], ◌∷◌}
use Rattle.std.proofs.Common.{Option, Some, None, MatchOption, refl, sym, ap, ◌∙◌, arith}
use Rattle.std.proofs.lemmas.Bool.Decides.{nat_tests}
use Rattle.std.specs.FinSet as set
use Rattle.std.specs.List.{list_all, list_any}
use Rattle.vir_altset.specs.Sets.{Set, all}
use Rattle.vir_profile.specs.declared.ballot.Entry.{Entry}
use Rattle.vir_profile.specs.Profiles.{Votes, pairwise_weight}
use Rattle.vir_profile.specs.Winners.{IsCondorcetWinner}
use Rattle.vir_profile.proofs.WinnerLaws.{condorcet_winner_is_unique}
use Rattle.vir_mean.specs.Scores.{beats, beats_all}
use Rattle.vir_mean.proofs.MemberCounts.{in_items}
use Rattle.vir_mean.proofs.ScoreComparisons.{list_all-each}
use Rattle.vir_explain.specs.PairTexts.{first_up_to, or_else, winner_of, IsWinner}
use Rattle.vir_explain.proofs.Listed.{member_of_all, bounds_of_member}

all_pass : (test : ℕ → Bool) (list : List ℕ) → ((y : ℕ) → list_any (nat_eq y) list ≡ true → test y ≡ true)
    → list_all test list ≡ true
all_pass test [] each = refl
all_pass test (x ∷ rest) each = both _ _ (each x (first x (list_any (nat_eq x) rest)))
    (all_pass test rest (λ y later. each y (further _ _ later)))
  where
    first : (x : ℕ) (b : Bool) → (nat_eq x x || b) ≡ true
    first x b = grind (arith, nat_tests)

    further : (b c : Bool) → c ≡ true → (b || c) ≡ true
    further b c h = grind arith

    both : (b c : Bool) → b ≡ true → c ≡ true → (b && c) ≡ true
    both b c h k = grind arith

module _ (a : Set) (lines : List Entry) (w : ℕ) where
  pub winner_of_test : set.contains a w ≡ true → beats_all w a lines ≡ true → IsCondorcetWinner w a lines
  winner_of_test member beaten = record {
    member = member;
    wins = λ y there apart. won y apart (list_all-each (λ y. nat_eq y w || beats lines w y) (set.items a) beaten y
        (sym (in_items a y) ∙ there));
  }
    where
      won : (y : ℕ) → y ≢ w → (nat_eq y w || beats lines w y) ≡ true → pairwise_weight lines y w < pairwise_weight
          lines w y
      won y apart is = grind (arith, nat_tests)

  pub test_of_winner : IsCondorcetWinner w a lines → beats_all w a lines ≡ true
  test_of_winner win = all_pass (λ y. nat_eq y w || beats lines w y) (set.items a)
      (λ y there. beaten y (λ apart. win.wins y (in_items a y ∙ there) apart))
    where
      beaten : (y : ℕ) → (y ≢ w → pairwise_weight lines y w < pairwise_weight lines w y)
          → (nat_eq y w || beats lines w y) ≡ true
      beaten y wins = grind (arith, nat_tests)

-- the first that passes a test
first_passes : (test : ℕ → Bool) (n : ℕ) → MatchOption (first_up_to test n) ((z : ℕ) → 1 ≤ z → z ≤ n → test z ≡ true →
    ⊥)
    (λ w. (1 ≤ w) × (w ≤ n) × (test w ≡ true))
unfolding first_up_to
first_passes test zero = λ z low high passes. absurd (omega arith)
first_passes test (suc n) = by (first_up_to test n) (test (suc n)) refl (first_passes test n)
  where
    by : (before : Option ℕ) (here : Bool) → test (suc n) ≡ here
        → MatchOption before ((z : ℕ) → 1 ≤ z → z ≤ n → test z ≡ true → ⊥) (λ w. (1 ≤ w) × (w ≤ n) × (test w ≡ true))
        → MatchOption (or_else before (cond here (Some (suc n)) None))
        ((z : ℕ) → 1 ≤ z → z ≤ suc n → test z ≡ true → ⊥) (λ w. (1 ≤ w) × (w ≤ suc n) × (test w ≡ true))
    by (Some w) here is (low, high, passes) = (low, omega arith, passes)
    by None true is none = (omega arith, omega arith, is)
    by None false is none = λ z low high passes. elim (nat_eq z (suc n)) as (λ b. nat_eq z (suc n) ≡ b → ⊥) [
      | true ↦ λ e. (let same : z ≡ suc n = grind (arith, nat_tests) in true≢false (sym passes ∙ ap test same ∙ is))
      | false ↦ λ e. none z low (grind (arith, nat_tests)) passes
    ] refl

pub winner_is : (votes : Votes) → IsWinner votes (winner_of votes)
winner_is votes = by (winner_of votes) (first_passes (λ w. beats_all w (all votes.alternatives) votes.lines)
    votes.alternatives)
  where
    by : (found : Option ℕ) → MatchOption found ((z : ℕ) → 1 ≤ z → z ≤ votes.alternatives
        → beats_all z (all votes.alternatives) votes.lines ≡ true → ⊥)
        (λ w. (1 ≤ w) × (w ≤ votes.alternatives) × (beats_all w (all votes.alternatives) votes.lines ≡ true))
        → IsWinner votes found
    by None none = λ w win. (let bounds = bounds_of_member votes.alternatives w win.member in none w bounds.0 bounds.1
        (test_of_winner (all votes.alternatives) votes.lines w win))
    by (Some w) (low, high, passes) = winner_of_test (all votes.alternatives) votes.lines w (member_of_all
        votes.alternatives w low high) passes

-- there is one answer
pub winner_unique : (votes : Votes) (one other : Option ℕ) → IsWinner votes one → IsWinner votes other → one ≡ other
winner_unique votes None None is is' = refl
winner_unique votes None (Some w) is is' = absurd (is w is')
winner_unique votes (Some v) None is is' = absurd (is' v is)
winner_unique votes (Some v) (Some w) is is' = ap Some (condorcet_winner_is_unique v w (all votes.alternatives)
    votes.lines
    is is')
