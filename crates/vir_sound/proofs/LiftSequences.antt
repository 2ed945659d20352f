-- The laws of lifts for sequential compositions.
use Rattle.std.proofs.Common.{◌≡◌, ◌≢◌, ℕ, true, ◌||◌, List, ⊎_elim, sym, ap, ◌∙◌, arith}
use Rattle.std.specs.FinSet as set
use Rattle.vir_altset.specs.Sets.{Set, IsPart}
use Rattle.vir_altset.specs.SetLaws.{contains-union}
use Rattle.vir_altset.specs.declared.split.Split.{Split}
use Rattle.vir_altset.proofs.SizeLaws.{len_of_member}
use Rattle.vir_altset.proofs.SplitLaws.{elected_part, deferred_part, join_split}
use Rattle.vir_profile.specs.declared.ballot.Entry.{Entry}
use Rattle.vir_profile.specs.Profiles.{restrict}
use Rattle.vir_profile.specs.Elections.{IsElection}
use Rattle.vir_term.specs.declared.prop.Prop.TheVariants.{Ne, Ea, El, Defers, Dli, Dimono, Dmono, Mono}
use Rattle.vir_mean.specs.Modules.{Meaning}
use Rattle.vir_mean.specs.Compositions.{joined, seq_of}
use Rattle.vir_mean.specs.Properties.{Holds, just}
use Rattle.vir_mean.specs.Lifts.{Lifts}
use Rattle.vir_mean.proofs.MeaningLaws.{Splits}
use Rattle.vir_mean.proofs.RestrictedLifts.{restricted_lift}
use Rattle.vir_sound.proofs.MeaningLemmas.{restricted_orders, same_at, none_at, not_empty, deferred_profile, union_none}
use Rattle.vir_sound.proofs.WinnerLemmas.{defers, contains-just-same, just_of_len, part_of_just, defers_alone}

-- a part of the set of x alone is that set, unless it is empty
still_alone : (x : ℕ) (d e : Set) → IsPart e d → d ≡ just x → e ≢ set.empty → e ≡ just x
still_alone x d e part alone some = part_of_just x e (λ y member. sym (same_at y alone) ∙ part y member) some

-- ---- sequences
-- the two parts' splits as one
seq_split : (m n : Meaning) → Splits m → Splits n → Splits (seq_of m n)
seq_split m n first second a p = join_split a (m a p) (n (m a p).deferred (restrict (m a p).deferred p)) (first a p)
    (second (m a p).deferred (restrict (m a p).deferred p))

-- what a sequence defers its first part does
deferred_by_first : (m n : Meaning) → Splits n → (a : Set) (p : List Entry) (x : ℕ)
    → set.contains (seq_of m n a p).deferred x ≡ true → set.contains (m a p).deferred x ≡ true
deferred_by_first m n second a p x deferred = deferred_part (m a p).deferred
    (n (m a p).deferred (restrict (m a p).deferred p)) (second (m a p).deferred (restrict (m a p).deferred p)) x
    deferred

pub dli_seq_both : (m n : Meaning) → Splits m → Splits n → Holds Dli m → Holds Dli n → Holds Dli (seq_of m n)
dli_seq_both m n first second one other a p q x at_p at_q inside lift deferred =
    let d = (m a p).deferred in
    let part : IsPart d a = deferred_part a (m a p) (first a p) in
    let in_d : set.contains d x ≡ true = deferred_by_first m n second a p x deferred in
    ap (λ (s : Split). joined s (n s.deferred (restrict s.deferred q))) (one a p q x at_p at_q inside lift in_d)
    ∙ ap (joined (m a p)) (other d (restrict d p) (restrict d q) x (restricted_orders a d p part at_p)
    (restricted_orders a d q part at_q) in_d (restricted_lift d p q x in_d lift) deferred)

-- ---- where the second part defers one alone
module _ (m n : Meaning) (first : Splits m) (second : Splits n) (dimono : Holds Dimono m) (none : Holds Ne n)
    (one : Holds (Defers 1) n) (dmono : Holds Dmono n) where
  -- where such a sequence defers x alone
  defers_just : (a : Set) (p : List Entry) (x : ℕ) → IsElection a p
      → (n (m a p).deferred (restrict (m a p).deferred p)).deferred ≡ just x
      → seq_of m n a p ≡ defers x a
  defers_just a p x at_p alone =
      let at_d = deferred_profile m first a p at_p in
      defers_alone x a (seq_of m n a p) (seq_split m n first second a p) (union_none _ _ (dimono.0 a p at_p)
      (none _ _ at_d)) alone

  -- what the second part defers of a set with x, where it defers x
  just_deferred : (d : Set) (p : List Entry) (x : ℕ) → IsElection d p → set.contains d x ≡ true
      → set.contains (n d p).deferred x ≡ true → (n d p).deferred ≡ just x
  just_deferred d p x at_p inside deferred = just_of_len x (n d p).deferred deferred
      (one d p at_p (len_of_member d x inside))

  -- the second part defers x where the first's deferred set stays, and where it becomes that of x
  still_just : (a : Set) (p q : List Entry) (x : ℕ) → IsElection a p → IsElection a q → set.contains a x ≡ true
      → Lifts x p q → set.contains (seq_of m n a p).deferred x ≡ true
      → (n (m a q).deferred (restrict (m a q).deferred q)).deferred ≡ just x
  still_just a p q x at_p at_q inside lift deferred =
      let d = (m a p).deferred in
      let part : IsPart d a = deferred_part a (m a p) (first a p) in
      let in_d : set.contains d x ≡ true = deferred_by_first m n second a p x deferred in
      let before : IsElection d (restrict d p) = restricted_orders a d p part at_p in
      let after : IsElection d (restrict d q) = restricted_orders a d q part at_q in
      let still = dmono d (restrict d p) (restrict d q) x before after in_d (restricted_lift d p q x in_d lift) deferred
      in
      ⊎_elim
      (λ (stays : (m a q).deferred ≡ d). ap (λ s. (n s (restrict s q)).deferred) stays ∙ just_deferred d (restrict d q)
      x after in_d still)
      (λ (becomes : (m a q).deferred ≡ just x). on_alone a q x at_q becomes)
      (dimono.1 a p q x at_p at_q inside lift in_d)
    where
      on_alone : (a : Set) (q : List Entry) (x : ℕ) → IsElection a q → (m a q).deferred ≡ just x
          → (n (m a q).deferred (restrict (m a q).deferred q)).deferred ≡ just x
      on_alone a q x at_q becomes =
          let d = (m a q).deferred in
          let at_d : IsElection d (restrict d q) = deferred_profile m first a q at_q in
          let in_d : set.contains d x ≡ true = same_at x becomes ∙ contains-just-same x in
          let size : set.len (n d (restrict d q)).deferred ≡ 1 = one d (restrict d q) at_d (len_of_member d x in_d) in
          still_alone x d (n d (restrict d q)).deferred (deferred_part d (n d (restrict d q)) (second d (restrict d q)))
          becomes (not_empty (n d (restrict d q)).deferred (omega arith))

-- both splits elect nobody and defer x alone
pub dli_seq_one : (m n : Meaning) → Splits m → Splits n → Holds Dimono m → Holds Ne n → Holds (Defers 1) n
    → Holds Dmono n → Holds Dli (seq_of m n)
dli_seq_one m n first second dimono none one dmono a p q x at_p at_q inside lift deferred =
    let in_d : set.contains (m a p).deferred x ≡ true = deferred_by_first m n second a p x deferred in
    let before = just_deferred m n first second dimono none one dmono (m a p).deferred (restrict (m a p).deferred p) x
    (deferred_profile m first a p at_p) in_d deferred in
    let after = still_just m n first second dimono none one dmono a p q x at_p at_q inside lift deferred in
    defers_just m n first second dimono none one dmono a q x at_q after
    ∙ sym (defers_just m n first second dimono none one dmono a p x at_p before)

-- ---- where the first part elects nobody, the second elects all that the sequence does
elected_by_second : (m n : Meaning) → Holds Ne m → (a : Set) (p : List Entry) (x : ℕ) → IsElection a p
    → set.contains (seq_of m n a p).elected x ≡ set.contains (n (m a p).deferred (restrict (m a p).deferred p)).elected
    x
elected_by_second m n none a p x at_p =
    contains-union (m a p).elected (n (m a p).deferred (restrict (m a p).deferred p)).elected x
    ∙ ap (λ b. b || set.contains (n (m a p).deferred (restrict (m a p).deferred p)).elected x)
    (none_at x (none a p at_p))

-- the first part defers the same set of x alone, of which the second elects somebody
pub mono_seq_defers : (m n : Meaning) → Splits m → Splits n → Holds Dli m → Holds Ne m → Holds (Defers 1) m → Holds El n
    → Holds Mono (seq_of m n)
mono_seq_defers m n first second dli none one some a p q x at_p at_q inside lift elected =
    let d = (m a p).deferred in
    let part : IsPart d a = deferred_part a (m a p) (first a p) in
    let in_d : set.contains d x ≡ true = elected_part d (n d (restrict d p)) (second d (restrict d p)) x
    (sym (elected_by_second m n none a p x at_p) ∙ elected) in
    let alone : d ≡ just x = just_of_len x d in_d (one a p at_p (len_of_member a x inside)) in
    let after : IsElection d (restrict d q) = restricted_orders a d q part at_q in
    let somebody = some d (restrict d q) after (not_empty d (len_of_member d x in_d)) in
    let winner = still_alone x d (n d (restrict d q)).elected (elected_part d (n d (restrict d q))
    (second d (restrict d q))) alone somebody in
    elected_by_second m n none a q x at_q
    ∙ ap (λ (s : Split). set.contains (n s.deferred (restrict s.deferred q)).elected x)
    (dli a p q x at_p at_q inside lift in_d)
    ∙ same_at x winner
    ∙ contains-just-same x

-- the second part elects all that the first defers
pub mono_seq_ea : (m n : Meaning) → Splits m → Splits n → Holds Ne m → Holds Dmono m → Holds Ea n
    → Holds Mono (seq_of m n)
mono_seq_ea m n first second none dmono all a p q x at_p at_q inside lift elected =
    elected_by_second m n none a q x at_q
    ∙ same_at x (all _ _ (deferred_profile m first a q at_q))
    ∙ dmono a p q x at_p at_q inside lift (sym (same_at x (all _ _ (deferred_profile m first a p at_p)))
    ∙ sym (elected_by_second m n none a p x at_p) ∙ elected)
