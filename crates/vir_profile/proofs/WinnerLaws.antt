-- Laws of the Condorcet winner.
use Rattle.std.proofs.Common.{◌≡◌, ℕ, ◌≢◌, Bool, true, false, List, nat_eq, refl, sym, arith}
use Rattle.std.proofs.lemmas.Bool.Decides.{nat_tests}
use Rattle.std.specs.FinSet as set
use Rattle.vir_altset.specs.Sets.{Set, IsPart}
use Rattle.vir_profile.specs.declared.ballot.Entry.{Entry}
use Rattle.vir_profile.specs.Profiles.{restrict}
use Rattle.vir_profile.specs.Winners.{IsCondorcetWinner}
use Rattle.vir_profile.proofs.RestrictionLaws.{restriction_keeps_pairs}

-- a set has at most one Condorcet winner
pub condorcet_winner_is_unique : (v w : ℕ) (a : Set) (lines : List Entry) → IsCondorcetWinner v a lines
    → IsCondorcetWinner w a lines → v ≡ w
condorcet_winner_is_unique v w a lines by_v by_w = step (nat_eq v w) (λ e. same v w e) (λ e. other v w e)
  where
    same : (v w : ℕ) → nat_eq v w ≡ true → v ≡ w
    same v w e = grind (arith, nat_tests)

    other : (v w : ℕ) → nat_eq v w ≡ false → v ≢ w
    other v w e = grind (arith, nat_tests)

    both : v ≢ w → v ≡ w
    both apart =
        let over = by_v.wins w by_w.member (λ e. apart (sym e)) in
        let under = by_w.wins v by_v.member apart in
        absurd (omega arith)

    step : (b : Bool) → (b ≡ true → v ≡ w) → (b ≡ false → v ≢ w) → v ≡ w
    step true equal apart = equal refl
    step false equal apart = both (apart refl)

-- the Condorcet winner of a set is that of each part with it
pub condorcet_winner_stays : (w : ℕ) (a d : Set) (lines : List Entry) → IsPart d a → set.contains d w ≡ true
    → IsCondorcetWinner w a lines → IsCondorcetWinner w d (restrict d lines)
condorcet_winner_stays w a d lines part inside winner = record {
  member = inside;
  wins = λ y member other.
      let won = winner.wins y (part y member) other in
      let down = restriction_keeps_pairs d lines y w member inside in
      let up = restriction_keeps_pairs d lines w y inside member in
      omega arith;
}
