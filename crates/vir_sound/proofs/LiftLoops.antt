-- The laws of lifts for loops.
use Rattle.std.proofs.Common.{◌≡◌, ℕ, ◌<◌, ◌≤◌, true, List, ap, ◌∙◌, arith}
use Rattle.std.specs.FinSet as set
use Rattle.vir_altset.specs.Sets.{Set, IsPart}
use Rattle.vir_altset.specs.declared.split.Split.{Split}
use Rattle.vir_altset.proofs.SplitLaws.{deferred_part}
use Rattle.vir_profile.specs.declared.ballot.Entry.{Entry}
use Rattle.vir_profile.specs.Profiles.{restrict}
use Rattle.vir_profile.specs.Elections.{IsElection}
use Rattle.vir_term.specs.declared.prop.Prop.TheVariants.{Dli}
use Rattle.vir_mean.specs.Lifts.{Lifts}
use Rattle.vir_mean.specs.Modules.{Meaning}
use Rattle.vir_term.specs.Tree.{End, number_of}
use Rattle.vir_mean.specs.Compositions.{IsEnd, joined, loop_of}
use Rattle.vir_mean.specs.Properties.{Holds}
use Rattle.vir_mean.proofs.MeaningLaws.{Splits, turns-split}
use Rattle.vir_mean.proofs.LoopLaws.{loop_of-few, loop_of-whole, loop_of-more}
use Rattle.vir_mean.proofs.RestrictedLifts.{restricted_lift}
use Rattle.vir_sound.proofs.MeaningLemmas.{restricted_orders, same_at, by_turns}

module _ (k : End) (m : Meaning) (splits : Splits m) (dli : Holds Dli m) where
  -- the loop's split after a lift of an alternative that it defers is the one before
  abbrev Stays : Set → List Entry → Split → Type 0
  Stays a p s = (q : List Entry) (x : ℕ) → IsElection a q → set.contains a x ≡ true → Lifts x p q
      → set.contains s.deferred x ≡ true → loop_of k m a q ≡ s

  -- it goes on with the same set, on which the lift is one too
  stays_on : (a : Set) (p : List Entry) → IsElection a p → (IsEnd k (set.len a) → ⊥) → set.len (m a p).deferred <
      set.len a
      → Stays (m a p).deferred (restrict (m a p).deferred p)
      (loop_of k m (m a p).deferred (restrict (m a p).deferred p))
      → Stays a p (joined (m a p) (loop_of k m (m a p).deferred (restrict (m a p).deferred p)))
  stays_on a p at_p differ smaller rest q x at_q inside lift deferred =
      let d = (m a p).deferred in
      let part : IsPart d a = deferred_part a (m a p) (splits a p) in
      let in_d : set.contains d x ≡ true = deferred_part d (loop_of k m d (restrict d p))
      (turns-split (set.len d) k m splits d (restrict d p)) x deferred in
      let same : m a q ≡ m a p = dli a p q x at_p at_q inside lift in_d in
      loop_of-more k m splits a q differ (λ whole. fewer (ap (λ (s : Split). set.len s.deferred) same)
      (ap set.len whole) smaller)
      ∙ ap (λ (s : Split). joined s (loop_of k m s.deferred (restrict s.deferred q))) same
      ∙ ap (joined (m a p)) (rest (restrict d q) x (restricted_orders a d q part at_q) in_d
      (restricted_lift d p q x in_d lift) deferred)
    where
      fewer : {size after before : ℕ} → after ≡ before → after ≡ size → before < size → ⊥
      fewer same whole smaller = omega arith

  stays : (a : Set) (p : List Entry) → IsElection a p → Stays a p (loop_of k m a p)
  stays = by_turns k m splits Stays
      (λ a p at_p few q x at_q inside lift deferred. loop_of-few k m a q few)
      (λ a p at_p differ whole q x at_q inside lift deferred.
      loop_of-whole k m splits a q (ap (λ (s : Split). s.deferred) (dli a p q x at_p at_q inside lift (same_at x whole
      ∙ inside)) ∙ whole))
      stays_on

pub dli_loop : (k : End) (m : Meaning) → 1 ≤ number_of k → Splits m → Holds Dli m → Holds Dli (loop_of k m)
dli_loop k m some splits dli a p q x at_p at_q inside lift deferred = stays k m splits dli a p at_p q x at_q inside lift
    deferred
