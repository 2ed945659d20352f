-- Loops, and Condorcet winners.
use Rattle.std.proofs.Common.{◌≡◌, ℕ, ◌≤◌, true, List, refl, ap, ◌∙◌, arith}
use Rattle.std.specs.FinSet as set
use Rattle.vir_altset.specs.Sets.{Set}
use Rattle.vir_altset.specs.SetLaws.{contains-empty}
use Rattle.vir_altset.specs.Splits.{IsSplitOf}
use Rattle.vir_altset.proofs.SizeLaws.{len_of_member}
use Rattle.vir_altset.proofs.SplitLaws.{deferred_part, all_deferred as deferring_split, join_split}
use Rattle.vir_profile.specs.declared.ballot.Entry.{Entry}
use Rattle.vir_profile.specs.Profiles.{restrict}
use Rattle.vir_profile.specs.Winners.{IsCondorcetWinner}
use Rattle.vir_profile.proofs.WinnerLaws.{condorcet_winner_stays}
use Rattle.vir_term.specs.declared.prop.Prop.TheVariants.{Cprog, Dcc, Ccomp}
use Rattle.vir_mean.specs.Modules.{Meaning, all_deferred}
use Rattle.vir_term.specs.Tree.{End, exactly, at_most, number_of}
use Rattle.vir_mean.specs.Properties.{Holds, IsCompatible}
use Rattle.vir_mean.specs.Compositions.{joined, loop_of}
use Rattle.vir_mean.proofs.MeaningLaws.{Splits}
use Rattle.vir_sound.proofs.MeaningLemmas.{by_turns}
use Rattle.vir_sound.proofs.WinnerLemmas.{defers, just_of_len, defers_alone, joined-defers, compatible_of_none}
use Rattle.vir_sound.proofs.WinnerLemmas.{joined_compatible}

-- Each turn leaves the winner among fewer, and the loop ends where it is left alone.
pub dcc_loop : (m : Meaning) → Splits m → Holds Cprog m → Holds Dcc (loop_of (exactly 1) m)
dcc_loop m splits progress a p w on winner = by_turns (exactly 1) m splits (λ a p s. (w : ℕ) → IsCondorcetWinner w a p
    → s ≡ defers w a)
    (λ a p on one w winner. defers_alone w a (all_deferred a p) (deferring_split a) refl
    (just_of_len w a winner.member one))
    (λ a p on more whole w winner. let some = len_of_member a w winner.member
    in absurd ((progress a p w on winner).fewer (omega arith) whole))
    (λ a p on more smaller rest w winner.
    let is = progress a p w on winner in
    ap (joined (m a p)) (rest w (stays a p w is.deferred winner))
    ∙ joined-defers w a (m a p) (splits a p) is.none_elected is.deferred)
    a p on w winner
  where
    stays : (a : Set) (p : List Entry) (w : ℕ) → set.contains (m a p).deferred w ≡ true → IsCondorcetWinner w a p
        → IsCondorcetWinner w (m a p).deferred (restrict (m a p).deferred p)
    stays a p w member winner = condorcet_winner_stays w a (m a p).deferred p (deferred_part a (m a p) (splits a p))
        member winner

pub dcc_until : (m : Meaning) → Splits m → Holds Cprog m → Holds Dcc (loop_of (at_most 1) m)
dcc_until m splits progress a p w on winner = by_turns (at_most 1) m splits (λ a p s. (w : ℕ) → IsCondorcetWinner w a p
    → s ≡ defers w a)
    (λ a p on one w winner. defers_alone w a (all_deferred a p) (deferring_split a) refl
    (just_of_len w a winner.member (let some = len_of_member a w winner.member in omega arith)))
    (λ a p on more whole w winner. let some = len_of_member a w winner.member
    in absurd ((progress a p w on winner).fewer (omega arith) whole))
    (λ a p on more smaller rest w winner.
    let is = progress a p w on winner in
    ap (joined (m a p)) (rest w (stays a p w is.deferred winner))
    ∙ joined-defers w a (m a p) (splits a p) is.none_elected is.deferred)
    a p on w winner
  where
    stays : (a : Set) (p : List Entry) (w : ℕ) → set.contains (m a p).deferred w ≡ true → IsCondorcetWinner w a p
        → IsCondorcetWinner w (m a p).deferred (restrict (m a p).deferred p)
    stays a p w member winner = condorcet_winner_stays w a (m a p).deferred p (deferred_part a (m a p) (splits a p))
        member winner

-- A loop that ends is compatible, and each turn keeps it so.
pub ccomp_loop : (k : End) (m : Meaning) → 1 ≤ number_of k → Splits m → Holds Ccomp m → Holds Ccomp (loop_of k m)
ccomp_loop k m positive splits compatible a p w on winner =
    (by_turns k m splits (λ a p s. IsSplitOf a s × ((w : ℕ) → IsCondorcetWinner w a p → IsCompatible w a s))
    (λ a p on few. ended a p)
    (λ a p on more whole. ended a p)
    (λ a p on more smaller rest. (
      join_split a (m a p) _ (splits a p) rest.0,
      λ w winner. joined_compatible w a (m a p) _ (splits a p) rest.0 winner.member (compatible a p w on winner)
          (λ member. rest.1 w (condorcet_winner_stays w a (m a p).deferred p (deferred_part a (m a p) (splits a p))
          member winner)),
    ))
    a p on).1 w winner
  where
    ended : (a : Set) (p : List Entry) → IsSplitOf a (all_deferred a p) × ((w : ℕ) → IsCondorcetWinner w a p
        → IsCompatible w a (all_deferred a p))
    ended a p = (deferring_split a, λ w winner. compatible_of_none w a (all_deferred a p) refl (contains-empty w))
