-- A property that no case violates holds.
use Rattle.std.proofs.Common.{◌≡◌, ◌≢◌, ◌⊎◌, inl, inr, ℕ, true, List, refl, arith}
use Rattle.std.specs.FinSet as set
use Rattle.vir_altset.specs.Sets.{Set}
use Rattle.vir_altset.proofs.SizeLaws.{HasMember}
use Rattle.vir_profile.specs.declared.ballot.Entry.{Entry}
use Rattle.vir_profile.specs.Elections.{IsElection}
use Rattle.vir_profile.specs.Winners.{IsCondorcetWinner}
use Rattle.vir_term.specs.declared.prop.Prop.{Prop}
use Rattle.vir_term.specs.declared.prop.Prop.TheVariants.{Ne, Ea, El, Defers, Rejects, Elim, Nb, Decr, Dli, Imono}
use Rattle.vir_term.specs.declared.prop.Prop.TheVariants.{Dimono, Dmono, Mono, Cc, Dcc, Cprog, Ccomp, Neut}
use Rattle.vir_mean.specs.Lifts.{Lifts}
use Rattle.vir_mean.specs.Modules.{Meaning}
use Rattle.vir_mean.specs.Properties.{Holds, ElectsNobody}
use Rattle.vir_mean.proofs.MeaningLaws.{Splits}
use Rattle.vir_mean.proofs.RestrictedLifts.{unchanged_profile_is_a_lift}
use Rattle.vir_sound.proofs.MeaningLemmas.{empty_of_none, none_at, member_of}
use Rattle.vir_refute.specs.Cases.{Election, one, pair, renamed}
use Rattle.vir_refute.specs.Violations.{OfWinner, PremiseOnOne, ConclusionOnOne, PremiseOnLift, ConclusionOnLift}
use Rattle.vir_refute.specs.Violations.{IsNeverViolated}
use Rattle.vir_refute.proofs.Stability.{Surely, surely, true_surely, number_surely, not_surely, set_surely}
use Rattle.vir_refute.proofs.Stability.{split_surely, stays_surely, progress_surely, compatible_surely, equal_or_not}

abbrev election : Set → List Entry → Election
election a p = record { members = a; lines = p }

module _ (prop : Prop) (m : Meaning) (never : IsNeverViolated prop m) where
  -- where the premise is true, the conclusion can't be false
  on_one : (a : Set) (p : List Entry) → IsElection a p → PremiseOnOne prop (election a p)
      → Surely (ConclusionOnOne prop (election a p) (m a p))
  on_one a p on premise fails =
      never (one (election a p)) on (record { one_or_lift = tt; premise = premise; conclusion_false = fails })

  on_lift : (a : Set) (p q : List Entry) (x : ℕ) → IsElection a p → IsElection a q → set.contains a x ≡ true
      → Lifts x p q → PremiseOnLift prop x (m a p) → Surely (ConclusionOnLift prop x (m a p) (m a q))
  on_lift a p q x on_p on_q member lifts premise fails =
      never (pair (election a p) (election a q) x) (on_p, on_q)
      (record {
        one_or_lift = record { same = refl; member = member; lifted = lifts };
        premise = premise;
        conclusion_false = fails;
      })

of_winner : (a : Set) (p : List Entry) (Says : ℕ → Type 0) (w : ℕ) → IsCondorcetWinner w a p
    → Surely (OfWinner (election a p) Says) → Surely (Says w)
of_winner a p Says w winner = surely (λ (of_each : OfWinner (election a p) Says). of_each w winner)

-- Whom a lift can be asked about can be lifted by nothing; on no alternatives nobody is elected.
elects_nobody : (m : Meaning) → Splits m → IsNeverViolated Dimono m → ElectsNobody m
elects_nobody m splits never a p on = in_cases (equal_or_not a set.empty)
  where
    in_cases : (a ≡ set.empty) ⊎ (a ≢ set.empty) → (m a p).elected ≡ set.empty
    in_cases (inl none) = empty_of_none (m a p).elected (λ x. let outside = none_at x none in let parts =
        (splits a p).parts x in grind arith)
    in_cases (inr some) =
        let has : HasMember a = member_of a some in
        set_surely (m a p).elected set.empty
        (λ elected. on_lift Dimono m never a p p has.one on on has.member (unchanged_profile_is_a_lift p has.one)
        (inr elected) (λ conclusion. elected conclusion.0))

pub holds_if_never_violated : (prop : Prop) (m : Meaning) → Splits m → IsNeverViolated prop m → Holds prop m
holds_if_never_violated Ne m splits never = λ a p on. set_surely _ _ (on_one Ne m never a p on tt)
holds_if_never_violated Ea m splits never = λ a p on. set_surely _ _ (on_one Ea m never a p on tt)
holds_if_never_violated El m splits never = λ a p on some. not_surely (on_one El m never a p on some)
holds_if_never_violated (Defers k) m splits never = λ a p on size.
    number_surely _ _ (on_one (Defers k) m never a p on size)
holds_if_never_violated (Rejects k) m splits never = λ a p on size.
    number_surely _ _ (on_one (Rejects k) m never a p on size)
holds_if_never_violated (Elim k) m splits never = λ a p on size.
    number_surely _ _ (on_one (Elim k) m never a p on size)
holds_if_never_violated Nb m splits never = λ a p on some. not_surely (on_one Nb m never a p on some)
holds_if_never_violated Decr m splits never = λ a p on size. not_surely (on_one Decr m never a p on size)
holds_if_never_violated Dli m splits never = λ a p q x on_p on_q member lifts deferred.
    split_surely _ _ (on_lift Dli m never a p q x on_p on_q member lifts deferred)
holds_if_never_violated Imono m splits never = λ a p q x on_p on_q member lifts elected.
    stays_surely x _ _ (on_lift Imono m never a p q x on_p on_q member lifts elected)
holds_if_never_violated Dimono m splits never = (
  elects_nobody m splits never,
  λ a p q x on_p on_q member lifts deferred.
      stays_surely x _ _ (surely (λ (both : ConclusionOnLift Dimono x (m a p) (m a q)). both.1 deferred)
      (on_lift Dimono m never a p q x on_p on_q member lifts (inl deferred))),
)
holds_if_never_violated Dmono m splits never = λ a p q x on_p on_q member lifts deferred.
    true_surely _ (on_lift Dmono m never a p q x on_p on_q member lifts deferred)
holds_if_never_violated Mono m splits never = λ a p q x on_p on_q member lifts elected.
    true_surely _ (on_lift Mono m never a p q x on_p on_q member lifts elected)
holds_if_never_violated Cc m splits never = λ a p w on winner.
    split_surely _ _ (of_winner a p _ w winner (on_one Cc m never a p on (w, winner)))
holds_if_never_violated Dcc m splits never = λ a p w on winner.
    split_surely _ _ (of_winner a p _ w winner (on_one Dcc m never a p on (w, winner)))
holds_if_never_violated Cprog m splits never = λ a p w on winner.
    progress_surely w a _ (of_winner a p _ w winner (on_one Cprog m never a p on (w, winner)))
holds_if_never_violated Ccomp m splits never = λ a p w on winner.
    compatible_surely w a _ (of_winner a p _ w winner (on_one Ccomp m never a p on (w, winner)))
holds_if_never_violated Neut m splits never = λ a p f on renaming. split_surely _ _ (λ fails.
    never (renamed (election a p) f) on (record { one_or_lift = renaming; premise = refl; conclusion_false = fails }))
