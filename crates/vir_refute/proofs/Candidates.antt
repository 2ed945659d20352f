-- Who can be the Condorcet winner of a profile, going through its alternatives.
use Rattle.std.proofs.Common.{◌≡◌, ◌≢◌, ℕ, ◌+◌, ◌<◌, ◌≤◌, List, sym, ◌∙◌, subst, arith}
use Rattle.vir_altset.specs.Sets.{all}
use Rattle.vir_profile.specs.declared.ballot.Entry.{Entry}
use Rattle.vir_profile.specs.Profiles.{pairwise_weight}
use Rattle.vir_profile.specs.Winners.{IsCondorcetWinner}
use Rattle.vir_refute.proofs.AllMembers.{member_of_all, within_all}
use Rattle.vir_refute.proofs.Stability.{of_numbers}

-- x beats y
abbrev pub Beats : List Entry → ℕ → ℕ → Type 0
Beats p x y = pairwise_weight p y x < pairwise_weight p x y

-- no alternative below the bound but the candidate can be the winner
abbrev pub IsOnly : ℕ → List Entry → ℕ → ℕ → Type 0
IsOnly m p candidate bound = (w : ℕ) → w < bound → IsCondorcetWinner w (all m) p → w ≡ candidate

pub only_first : (m : ℕ) (p : List Entry) → IsOnly m p 1 2
only_first m p w below winner = let some = (within_all m w winner.member).0 in omega arith

module _ (m : ℕ) (p : List Entry) (candidate y : ℕ) (some : 1 ≤ candidate) (older : candidate < y) (within : y ≤ m)
    (only : IsOnly m p candidate y) where
  -- whom the candidate beats isn't the winner
  pub only_stays : Beats p candidate y → IsOnly m p candidate (y + 1)
  only_stays beats w below winner = of_numbers w y
      (λ same.
      let wins : Beats p w candidate = winner.wins candidate (member_of_all m candidate some (omega arith))
      (λ e. absurd (omega arith)) in
      let Wins : ℕ → Type 0 = λ v. Beats p v candidate in
      let against : Beats p y candidate = subst Wins same wins in
      absurd (omega arith))
      (λ other. only w (omega arith) winner)

  -- and where it doesn't beat y, it isn't the winner itself
  pub only_changes : (Beats p candidate y → ⊥) → IsOnly m p y (y + 1)
  only_changes fails w below winner = of_numbers w y (λ same. same) (λ other.
      let is_candidate : w ≡ candidate = only w (omega arith) winner in
      let wins : Beats p w y = winner.wins y (member_of_all m y (omega arith) within) (λ e. other (sym e)) in
      let Wins : ℕ → Type 0 = λ v. Beats p v y in
      absurd (fails (subst Wins is_candidate wins)))

-- the candidate that is left
pub only_left : (m : ℕ) (p : List Entry) (candidate y : ℕ) → m < y → IsOnly m p candidate y → (w : ℕ)
    → IsCondorcetWinner w (all m) p → w ≡ candidate
only_left m p candidate y past only w winner = let within = (within_all m w winner.member).1 in
    only w (omega arith) winner

-- x beats each other alternative below the bound
abbrev pub BeatsBelow : ℕ → List Entry → ℕ → ℕ → Type 0
BeatsBelow m p x bound = (y : ℕ) → 1 ≤ y → y < bound → y ≢ x → Beats p x y

pub beats_more : (m : ℕ) (p : List Entry) (x y : ℕ) → BeatsBelow m p x y → (y ≢ x → Beats p x y)
    → BeatsBelow m p x (y + 1)
beats_more m p x y before here z some below other = of_numbers z y
    (λ same. let Beaten : ℕ → Type 0 = λ v. Beats p x v in
    subst Beaten (sym same) (here (λ e. other (same ∙ e))))
    (λ older. before z some (omega arith) other)

pub winner_of_all : (m : ℕ) (p : List Entry) (x y : ℕ) → 1 ≤ x → x ≤ m → m < y → BeatsBelow m p x y
    → IsCondorcetWinner x (all m) p
winner_of_all m p x y low high past beats = record {
  member = member_of_all m x low high;
  wins = λ z member other. beats z (within_all m z member).0
      (let most = (within_all m z member).1 in omega arith) other;
}
