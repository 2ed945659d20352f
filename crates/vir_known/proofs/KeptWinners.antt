-- Rounds in which a Condorcet winner stays.
use Rattle.std.proofs.Common.{◌≡◌, ◌≢◌, ℕ, ◌≤◌, min, Bool, true, false, not, ◌||◌, ◌&&◌, List}
use Rattle.std.proofs.Common.{refl, sym, ap, ◌∙◌, arith}
use Rattle.std.proofs.lemmas.Bool.Decides.{nat_tests}
use Rattle.std.specs.FinSet as set
use Rattle.vir_altset.specs.Sets.{Set, IsPart}
use Rattle.vir_altset.specs.SetLaws.{contains-difference, contains-intersection, contains-union, set_members}
use Rattle.vir_altset.specs.declared.split.Split.{Split}
use Rattle.vir_altset.proofs.SplitLaws.{deferred_part, join_split}
use Rattle.vir_profile.specs.declared.ballot.Entry.{Entry}
use Rattle.vir_profile.specs.Profiles.{restrict}
use Rattle.vir_profile.specs.Elections.{IsElection}
use Rattle.vir_profile.specs.Winners.{IsCondorcetWinner}
use Rattle.vir_profile.proofs.WinnerLaws.{condorcet_winner_stays}
use Rattle.vir_term.specs.declared.leaf.Leaf.TheVariants.{PassFirst}
use Rattle.vir_term.specs.declared.prop.Prop.TheVariants.{Ne, Nb, Decr, Cprog, Ccomp}
use Rattle.vir_mean.specs.FixedOrders.{first_members}
use Rattle.vir_mean.specs.Modules.{Meaning, first_passed, first_dropped}
use Rattle.vir_mean.specs.Compositions.{seq_of, par_of}
use Rattle.vir_mean.specs.Properties.{Holds, just, IsCompatible}
use Rattle.vir_mean.proofs.MeaningLaws.{Splits, leaf_mean-split}
use Rattle.vir_sound.proofs.ElectingLaws.{ne_seq}
use Rattle.vir_sound.proofs.FirstMembers.{len-first_members}
use Rattle.vir_sound.proofs.MeaningLemmas.{in_both_cases, same_at, empty_of_none, union_none, all_rejected}
use Rattle.vir_sound.proofs.MeaningLemmas.{restricted_orders, deferred_profile}
use Rattle.vir_sound.proofs.WinnerLemmas.{defers, left_over, compatible_of_none, just_has_some, part_of_just}
use Rattle.vir_sound.proofs.WinnerLemmas.{defers_alone}
use Rattle.vir_known.specs.Deciding.{OnWinnersOf}

-- who keeps the winner, elects nobody and rejects somebody makes progress
pub cprog_ccomp : (m : Meaning) → Splits m → Holds Ccomp m → Holds Ne m → Holds Decr m → Holds Cprog m
cprog_ccomp m splits compatible none drops a p w on winner = record {
  none_elected = none a p on;
  deferred = left_over w a (m a p) (splits a p) (none a p on) winner.member (compatible a p w on winner).kept;
  fewer = λ two all. drops a p on two (empty_of_none _ (λ x.
      let parts = (splits a p).parts x in let whole = same_at x all in grind arith));
}

-- a first part that defers a winner alone, among at most so many, and a second that keeps somebody
pub dcc_seq_first_of : (most : ℕ) (m n : Meaning) → Splits m → Splits n
    → OnWinnersOf most m (λ w a s. s ≡ defers w a) → Holds Ne n → Holds Nb n
    → OnWinnersOf most (seq_of m n) (λ w a s. s ≡ defers w a)
dcc_seq_first_of most m n one other deferred none kept a p w on few winner =
    let first = deferred a p w on few winner in
    let d = (m a p).deferred in
    let alone : d ≡ just w = ap (λ (s : Split). s.deferred) first in
    let second = n d (restrict d p) in
    let split = other d (restrict d p) in
    let on_left : IsElection d (restrict d p) = deferred_profile m one a p on in
    let nobody = none d (restrict d p) on_left in
    let some : second.deferred ≢ set.empty = λ nothing. kept d (restrict d p) on_left (just_has_some w d alone)
    (all_rejected d second split nobody nothing) in
    let last = part_of_just w second.deferred (λ x member. sym (same_at x alone) ∙ deferred_part d second split x
    member) some in
    defers_alone w a _ (join_split a (m a p) second (one a p) split)
    (union_none _ _ (ap (λ (s : Split). s.elected) first) nobody) last

-- who defers a winner alone keeps it
pub compatible_of_dcc : (most : ℕ) (m : Meaning) → OnWinnersOf most m (λ w a s. s ≡ defers w a)
    → OnWinnersOf most m IsCompatible
compatible_of_dcc most m deferred a p w on few winner =
    let is = deferred a p w on few winner in
    compatible_of_none w a (m a p) (ap (λ (s : Split). s.elected) is)
    (ap (λ (s : Split). set.contains s.rejected w) is ∙ contains-difference a (just w) w
    ∙ step (set.contains a w) _ (is_just w))
  where
    step : (b c : Bool) → c ≡ true → (b && not c) ≡ false
    step b c same = grind arith

    is_just : (w : ℕ) → set.contains (just w) w ≡ true
    is_just w = grind (arith, nat_tests, set_members)

-- ---- the first k on an agenda, while all others wait
-- A winner among the first k is kept by what decides on these, and one who waits is kept by that.
module _ (k : ℕ) (agenda : List ℕ) (m : Meaning) (splits : Splits m) (none : Holds Ne m)
    (compatible : OnWinnersOf k m IsCompatible) where
  abbrev meeting : Meaning
  meeting = seq_of (first_passed k agenda) m

  abbrev waiting : Meaning
  waiting = first_dropped k agenda

  met : Splits (first_passed k agenda)
  met = leaf_mean-split (PassFirst k agenda)

  nobody : Holds Ne meeting
  nobody = ne_seq (first_passed k agenda) m met splits (λ a p on. refl) none

  kept : (a : Set) (p : List Entry) (w : ℕ) → IsElection a p → IsCondorcetWinner w a p
      → set.contains (par_of meeting waiting a p).rejected w ≡ false
  kept a p w on winner =
      let d = first_members k agenda a in
      let part : IsPart d a = deferred_part a (first_passed k agenda a p) (met a p) in
      contains-intersection _ _ w
      ∙ ap (λ b. b && set.contains d w) (contains-union (set.difference a d) (m d (restrict d p)).rejected w
      ∙ ap (λ b. b || set.contains (m d (restrict d p)).rejected w) (contains-difference a d w))
      ∙ in_both_cases (set.contains d w)
      (λ inside. meets (set.contains a w) (set.contains d w) (set.contains (m d (restrict d p)).rejected w) inside
      ((compatible d (restrict d p) w (restricted_orders a d p part on) (few (set.len d) (set.len a)
      (len-first_members k agenda a)) (condorcet_winner_stays w a d p part inside winner)).kept))
      (λ outside. waits (set.contains a w) (set.contains d w) (set.contains (m d (restrict d p)).rejected w) outside)
    where
      few : (n all : ℕ) → n ≡ min k all → n ≤ k
      few n all size = omega arith

      meets : (in_a in_d gone : Bool) → in_d ≡ true → gone ≡ false → (((in_a && not in_d) || gone) && in_d) ≡ false
      meets in_a in_d gone inside stays = grind arith

      waits : (in_a in_d gone : Bool) → in_d ≡ false → (((in_a && not in_d) || gone) && in_d) ≡ false
      waits in_a in_d gone outside = grind arith

  pub ccomp_round : Holds Ccomp (par_of meeting waiting)
  ccomp_round a p w on winner = compatible_of_none w a (par_of meeting waiting a p)
      (union_none _ _ (nobody a p on) refl) (kept a p w on winner)
