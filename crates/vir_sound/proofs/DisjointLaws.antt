-- Laws of when two meanings look at different alternatives.
use Rattle.std.proofs.Common.{◌≡◌, ℕ, false, List, inl, inr, refl, ap, ◌∙◌, arith}
use Rattle.std.specs.FinSet as set
use Rattle.vir_altset.specs.Sets.{Set, IsPart}
use Rattle.vir_altset.specs.SetLaws.{contains-difference, contains-retain, contains-union, set_members}
use Rattle.vir_altset.specs.declared.split.Split.{Split}
use Rattle.vir_altset.proofs.SplitLaws.{deferred_part}
use Rattle.vir_profile.specs.declared.ballot.Entry.{Entry}
use Rattle.vir_profile.specs.Profiles.{restrict}
use Rattle.vir_profile.specs.Elections.{IsElection}
use Rattle.vir_mean.specs.FixedOrders.{is_among_first}
use Rattle.vir_mean.specs.Modules.{Meaning, first_passed, first_dropped}
use Rattle.vir_mean.specs.Compositions.{joined, rev_of, seq_of}
use Rattle.vir_mean.specs.Disjointness.{IsFree, AreDisjoint}
use Rattle.vir_mean.proofs.MeaningLaws.{Splits}
use Rattle.vir_sound.proofs.MeaningLemmas.{in_both_cases}
use Rattle.vir_mean.proofs.RestrictedLifts.{restriction_without_the_lifted}

-- disjointness goes both ways
pub swapped : (m n : Meaning) → AreDisjoint m n → AreDisjoint n m
swapped m n disjoint a b member = elim (disjoint a b member) [ inl free ↦ inr free | inr free ↦ inl free ]

-- ---- free alternatives
module _ (m : Meaning) (splits : Splits m) (a : Set) (b : ℕ) (free : IsFree m a b) where
  -- they aren't deferred
  pub not_deferred : (p : List Entry) → IsElection a p → set.contains (m a p).deferred b ≡ false
  not_deferred p on = let gone = free.rejected p on in let parts = (splits a p).parts b in grind arith

  -- what is free for the first part is free for a sequence
  seq_free : (n : Meaning) → IsFree (seq_of m n) a b
  seq_free n = record {
    rejected = λ p on. let gone = free.rejected p on in let later = contains-union (m a p).rejected
        (n (m a p).deferred (restrict (m a p).deferred p)).rejected b in grind arith;
    ignored = λ p q on other same.
        ap (λ lines. joined (m a p) (n (m a p).deferred lines)) (restriction_without_the_lifted (m a p).deferred p q b
        (not_deferred p on) same)
        ∙ ap (λ (s : Split). joined s (n s.deferred (restrict s.deferred q))) (free.ignored p q on other same);
  }

  -- and for a revision
  rev_free : IsFree (rev_of m) a b
  rev_free = record {
    rejected = λ p on. let gone = free.rejected p on in let parts = (splits a p).parts b in let left =
        contains-difference a (m a p).elected b in grind arith;
    ignored = λ p q on other same.
        ap (λ (s : Split). record { elected = set.empty; rejected = set.difference a s.elected; deferred = s.elected })
        (free.ignored p q on other same);
  }

-- of two disjoint meanings each rejects what the other defers
pub deferred_by_one : (m n : Meaning) → Splits m → AreDisjoint m n → (a : Set) (p : List Entry) → IsElection a p
    → IsPart (m a p).deferred (n a p).rejected
deferred_by_one m n splits disjoint a p on x member =
    elim (disjoint a x (deferred_part a (m a p) (splits a p) x member)) [
      | inl free ↦ absurd (let out = not_deferred m splits a x free p on in cc (member, out))
      | inr free ↦ free.rejected p on
    ]

-- ---- the first in a fixed order passed, and dropped
pub disj_pass_drop : (k : ℕ) (order : List ℕ) → AreDisjoint (first_passed k order) (first_dropped k order)
disj_pass_drop k order a b member = in_both_cases (is_among_first k order a b)
    (λ first. inr (record {
      rejected = λ p on. let kept = contains-retain a (is_among_first k order a) b in grind arith;
      ignored = λ p q on other same. refl;
    }))
    (λ later. inl (record { rejected = λ p on. grind (arith, set_members); ignored = λ p q on other same. refl }))

pub disj_drop_pass : (k : ℕ) (order : List ℕ) → AreDisjoint (first_dropped k order) (first_passed k order)
disj_drop_pass k order = swapped (first_passed k order) (first_dropped k order) (disj_pass_drop k order)

-- ---- compositions
pub disj_seq_left : (m n t : Meaning) → Splits m → Splits n → Splits t → AreDisjoint m t → AreDisjoint (seq_of m n) t
disj_seq_left m n t splits others third disjoint a b member = elim (disjoint a b member)
    [ inl free ↦ inl (seq_free m splits a b free n) | inr free ↦ inr free ]

pub disj_seq_right : (m n t : Meaning) → Splits m → Splits n → Splits t → AreDisjoint t m → AreDisjoint t (seq_of m n)
disj_seq_right m n t splits others third disjoint a b member = elim (disjoint a b member)
    [ inl free ↦ inl free | inr free ↦ inr (seq_free m splits a b free n) ]

pub disj_rev_left : (m t : Meaning) → Splits m → Splits t → AreDisjoint m t → AreDisjoint (rev_of m) t
disj_rev_left m t splits others disjoint a b member = elim (disjoint a b member)
    [ inl free ↦ inl (rev_free m splits a b free) | inr free ↦ inr free ]

pub disj_rev_right : (m t : Meaning) → Splits m → Splits t → AreDisjoint t m → AreDisjoint t (rev_of m)
disj_rev_right m t splits others disjoint a b member = elim (disjoint a b member) [
  | inl free ↦ inl free
  | inr free
      ↦ inr (rev_free m splits a b free)
]
