-- Sequential composition, and Condorcet winners.
use Rattle.std.proofs.Common.{◌≡◌, ◌≢◌, ℕ, true, List, sym, ap, ◌∙◌, arith}
use Rattle.std.specs.FinSet as set
use Rattle.vir_altset.specs.Sets.{Set, IsPart}
use Rattle.vir_altset.specs.SetLaws.{same_members}
use Rattle.vir_altset.specs.declared.split.Split.{Split}
use Rattle.vir_altset.proofs.SplitLaws.{deferred_part, split_of_empty, join_split}
use Rattle.vir_profile.specs.declared.ballot.Entry.{Entry}
use Rattle.vir_profile.specs.Profiles.{restrict}
use Rattle.vir_profile.specs.Elections.{IsElection}
use Rattle.vir_profile.specs.Winners.{IsCondorcetWinner}
use Rattle.vir_profile.proofs.WinnerLaws.{condorcet_winner_stays}
use Rattle.vir_term.specs.declared.prop.Prop.TheVariants.{Ne, El, Nb, Cc, Dcc, Cprog, Ccomp}
use Rattle.vir_mean.specs.Modules.{Meaning}
use Rattle.vir_mean.specs.Compositions.{joined, seq_of}
use Rattle.vir_mean.specs.Properties.{Holds, just}
use Rattle.vir_mean.proofs.MeaningLaws.{Splits}
use Rattle.vir_sound.proofs.WinnerLemmas.{elects, union-empty, empty-union, just_has_some, part_of_just, left_over}
use Rattle.vir_sound.proofs.WinnerLemmas.{defers_alone, elects_alone, joined-elects, joined-defers, joined_compatible}
use Rattle.vir_sound.proofs.MeaningLemmas.{same_at, union_none, all_rejected, deferred_profile}

module _ (m n : Meaning) (one : Splits m) (other : Splits n) (a : Set) (p : List Entry) (on : IsElection a p) where
  -- what the first part defers, the profile on it, and what the second part makes of it
  abbrev left : Set
  left = (m a p).deferred

  abbrev rest : List Entry
  rest = restrict (m a p).deferred p

  abbrev later : Split
  later = n (m a p).deferred (restrict (m a p).deferred p)

  left_part : IsPart left a
  left_part = deferred_part a (m a p) (one a p)

  later_part : IsPart later.deferred left
  later_part = deferred_part left later (other left rest)

  on_left : IsElection left rest
  on_left = deferred_profile m one a p on

  wins_left : (w : ℕ) → IsCondorcetWinner w a p → set.contains left w ≡ true → IsCondorcetWinner w left rest
  wins_left w winner member = condorcet_winner_stays w a left p left_part member winner

  -- a first part that is compatible and elects nobody leaves the winner
  winner_left : (w : ℕ) → IsCondorcetWinner w a p → Holds Ccomp m → Holds Ne m → set.contains left w ≡ true
  winner_left w winner compatible none = left_over w a (m a p) (one a p) (none a p on) winner.member
      (compatible a p w on winner).kept

  -- where both parts together defer all, the first does
  all_left : later.deferred ≡ a → left ≡ a
  all_left all = same_members left a (λ x. both _ _ _ (same_at x all) (later_part x) (left_part x))
    where
      both : (d l in_a : _) → d ≡ in_a → (d ≡ true → l ≡ true) → (l ≡ true → in_a ≡ true) → l ≡ in_a
      both d l in_a same there back = grind arith

pub cc_seq_first : (m n : Meaning) → Splits m → Splits n → Holds Cc m → Holds Cc (seq_of m n)
cc_seq_first m n one other elected a p w on winner =
    let first = elected a p w on winner in
    let second = split_of_empty (n set.empty (restrict set.empty p)) (other set.empty (restrict set.empty p)) in
    ap (λ (s : Split). joined s (n s.deferred (restrict s.deferred p))) first
    ∙ ap (joined (elects w a)) second
    ∙ (λ i. record {
      elected = union-empty (just w) i;
      rejected = union-empty (set.difference a (just w)) i;
      deferred = set.empty;
    })

pub cc_seq_dcc : (m n : Meaning) → Splits m → Splits n → Holds Dcc m → Holds El n → Holds Cc (seq_of m n)
cc_seq_dcc m n one other deferred some a p w on winner =
    let first = deferred a p w on winner in
    let alone : left m n one other a p on ≡ just w = ap (λ (s : Split). s.deferred) first in
    let second = elects_alone w _ _ alone (other _ _) (some _ _ (on_left m n one other a p on)
    (just_has_some w _ alone)) in
    (λ i. joined (first i) (second i))
    ∙ (λ i. record {
      elected = empty-union (just w) i;
      rejected = union-empty (set.difference a (just w)) i;
      deferred = set.empty;
    })

pub cc_seq_ccomp : (m n : Meaning) → Splits m → Splits n → Holds Ccomp m → Holds Ne m → Holds Cc n
    → Holds Cc (seq_of m n)
cc_seq_ccomp m n one other compatible none elected a p w on winner =
    let member = winner_left m n one other a p on w winner compatible none in
    ap (joined (m a p)) (elected _ _ w (on_left m n one other a p on) (wins_left m n one other a p on w winner member))
    ∙ joined-elects w a (m a p) (one a p) (none a p on) member

pub dcc_seq_ccomp : (m n : Meaning) → Splits m → Splits n → Holds Ccomp m → Holds Ne m → Holds Dcc n
    → Holds Dcc (seq_of m n)
dcc_seq_ccomp m n one other compatible none deferred a p w on winner =
    let member = winner_left m n one other a p on w winner compatible none in
    ap (joined (m a p)) (deferred _ _ w (on_left m n one other a p on) (wins_left m n one other a p on w winner member))
    ∙ joined-defers w a (m a p) (one a p) (none a p on) member

pub dcc_seq_first : (m n : Meaning) → Splits m → Splits n → Holds Dcc m → Holds Ne n → Holds Nb n
    → Holds Dcc (seq_of m n)
dcc_seq_first m n one other deferred none kept a p w on winner =
    let first = deferred a p w on winner in
    let alone : left m n one other a p on ≡ just w = ap (λ (s : Split). s.deferred) first in
    let second = later m n one other a p on in
    let split = other (m a p).deferred (restrict (m a p).deferred p) in
    let nobody = none _ _ (on_left m n one other a p on) in
    let some : second.deferred ≢ set.empty = λ nothing. kept _ _ (on_left m n one other a p on)
    (just_has_some w _ alone) (all_rejected _ second split nobody nothing) in
    let last = part_of_just w second.deferred (λ x member. sym (same_at x alone) ∙ later_part m n one other a p on x
    member) some in
    defers_alone w a _ (join_split a (m a p) second (one a p) split)
    (union_none _ _ (ap (λ (s : Split). s.elected) first) nobody) last

pub cprog_seq_first : (m n : Meaning) → Splits m → Splits n → Holds Cprog m → Holds Ccomp n → Holds Ne n
    → Holds Cprog (seq_of m n)
cprog_seq_first m n one other progress compatible none a p w on winner =
    let first = progress a p w on winner in
    let wins = wins_left m n one other a p on w winner first.deferred in
    let nobody = none _ _ (on_left m n one other a p on) in
    let second = compatible _ _ w (on_left m n one other a p on) wins in
    record {
      none_elected = union_none _ _ first.none_elected nobody;
      deferred = left_over w _ _ (other (m a p).deferred (restrict (m a p).deferred p)) nobody first.deferred
          second.kept;
      fewer = λ two all. first.fewer two (all_left m n one other a p on all);
    }

pub cprog_seq_second : (m n : Meaning) → Splits m → Splits n → Holds Ccomp m → Holds Ne m → Holds Cprog n
    → Holds Cprog (seq_of m n)
cprog_seq_second m n one other compatible none progress a p w on winner =
    let member = winner_left m n one other a p on w winner compatible none in
    let second = progress _ _ w (on_left m n one other a p on) (wins_left m n one other a p on w winner member) in
    record {
      none_elected = union_none _ _ (none a p on) second.none_elected;
      deferred = second.deferred;
      fewer = λ two all.
          let whole = all_left m n one other a p on all in
          second.fewer (let size = ap set.len whole in omega arith) (all ∙ sym whole);
    }

pub ccomp_seq : (m n : Meaning) → Splits m → Splits n → Holds Ccomp m → Holds Ccomp n → Holds Ccomp (seq_of m n)
ccomp_seq m n one other first second a p w on winner =
    joined_compatible w a (m a p) _ (one a p) (other _ _) winner.member (first a p w on winner)
    (λ member. second _ _ w (on_left m n one other a p on) (wins_left m n one other a p on w winner member))
