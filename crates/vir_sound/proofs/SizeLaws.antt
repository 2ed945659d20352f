-- Laws of how many are deferred and how many are rejected.
use Rattle.std.proofs.Common.{◌≡◌, ℕ, ◌+◌, ◌≤◌, List, ap, ◌∙◌, arith}
use Rattle.std.proofs.lemmas.Bool.Decides.{nat_tests}
use Rattle.std.specs.FinSet as set
use Rattle.vir_altset.specs.Sets.{Set, IsPart}
use Rattle.vir_altset.specs.SetLaws.{same_members, set_members}
use Rattle.vir_altset.specs.Splits.{IsSplitOf}
use Rattle.vir_altset.specs.declared.split.Split.{Split}
use Rattle.vir_altset.proofs.SizeLaws.{empty_of_len, len-make_up}
use Rattle.vir_profile.specs.declared.ballot.Entry.{Entry}
use Rattle.vir_profile.specs.Elections.{IsElection}
use Rattle.vir_term.specs.declared.prop.Prop.TheVariants.{Ne, Defers, Rejects, Elim, Nb, Decr}
use Rattle.vir_mean.specs.Modules.{Meaning, first_passed, first_dropped}
use Rattle.vir_term.specs.Tree.{exactly, at_most}
use Rattle.vir_mean.specs.Compositions.{seq_of, par_of, loop_of}
use Rattle.vir_mean.specs.Properties.{Holds}
use Rattle.vir_mean.specs.Disjointness.{AreDisjoint}
use Rattle.vir_mean.proofs.MeaningLaws.{Splits}
use Rattle.vir_sound.proofs.MeaningLemmas.{none_at, some_of, not_empty, len_of_not_elected, all_rejected}
use Rattle.vir_sound.proofs.MeaningLemmas.{deferred_profile, by_turns}
use Rattle.vir_sound.proofs.FirstMembers.{len-first_members}
use Rattle.vir_sound.proofs.DisjointLaws.{swapped, deferred_by_one}

-- ---- modules
pub defers_leaf : (k : ℕ) (order : List ℕ) → 1 ≤ k → Holds (Defers k) (first_passed k order)
defers_leaf k order some a p on size = let first = len-first_members k order a in omega arith

pub rejects_leaf : (k : ℕ) (order : List ℕ) → 1 ≤ k → Holds (Rejects k) (first_dropped k order)
rejects_leaf k order some a p on size = let first = len-first_members k order a in omega arith

-- ---- sequences
-- what elects nobody and doesn't reject all defers some
len-deferred : (m : Meaning) → Splits m → Holds Ne m → Holds Nb m → (a : Set) (p : List Entry) → IsElection a p
    → 1 ≤ set.len a → 1 ≤ set.len (m a p).deferred
len-deferred m splits nobody keeps a p on size =
    some_of (m a p).deferred (λ none. keeps a p on (not_empty a size) (all_rejected a (m a p) (splits a p)
    (nobody a p on) none))

pub defers_seq_one : (m n : Meaning) → Splits m → Splits n → Holds Ne m → Holds Nb m → Holds (Defers 1) n
    → Holds (Defers 1) (seq_of m n)
defers_seq_one m n splits other nobody keeps one a p on size = one _ _ (deferred_profile m splits a p on)
    (len-deferred m splits nobody keeps a p on size)

pub defers_seq_both : (k : ℕ) (m n : Meaning) → Splits m → Splits n → Holds (Defers k) m → Holds (Defers k) n
    → Holds (Defers k) (seq_of m n)
defers_seq_both k m n splits other first second a p on size = second _ _ (deferred_profile m splits a p on)
    (let left = first a p on size in omega arith)

-- ---- loops
pub defers_loop_elim : (k : ℕ) (m : Meaning) → 1 ≤ k → Splits m → Holds (Elim 1) m → Holds Ne m
    → Holds (Defers k) (loop_of (exactly k) m)
defers_loop_elim k m some splits one nobody =
    by_turns (exactly k) m splits (λ a p s. k ≤ set.len a → set.len s.deferred ≡ k)
    (λ a p on few size. few)
    (λ a p on many whole size.
    let gone = one a p on (omega arith) in
    let all = len_of_not_elected a (m a p) (splits a p) (nobody a p on) in
    let same = ap set.len whole in
    absurd (omega arith))
    (λ a p on many smaller rest size.
    let gone = one a p on (omega arith) in
    let all = len_of_not_elected a (m a p) (splits a p) (nobody a p on) in
    rest (omega arith))

pub defers_loop_one : (m : Meaning) → Splits m → Holds Ne m → Holds Nb m → Holds Decr m
    → Holds (Defers 1) (loop_of (exactly 1) m)
defers_loop_one m splits nobody keeps drops =
    by_turns (exactly 1) m splits (λ a p s. 1 ≤ set.len a → set.len s.deferred ≡ 1)
    (λ a p on few size. few)
    (λ a p on many whole size.
    let all = len_of_not_elected a (m a p) (splits a p) (nobody a p on) in
    let same = ap set.len whole in
    absurd (drops a p on (omega arith) (empty_of_len (m a p).rejected (omega arith))))
    (λ a p on many smaller rest size. rest (len-deferred m splits nobody keeps a p on size))

pub defers_until_elim : (k : ℕ) (m : Meaning) → 1 ≤ k → Splits m → Holds (Elim 1) m → Holds Ne m
    → Holds (Defers k) (loop_of (at_most k) m)
defers_until_elim k m some splits one nobody =
    by_turns (at_most k) m splits (λ a p s. k ≤ set.len a → set.len s.deferred ≡ k)
    (λ a p on few size. omega arith)
    (λ a p on many whole size.
    let gone = one a p on (omega arith) in
    let all = len_of_not_elected a (m a p) (splits a p) (nobody a p on) in
    let same = ap set.len whole in
    absurd (omega arith))
    (λ a p on many smaller rest size.
    let gone = one a p on (omega arith) in
    let all = len_of_not_elected a (m a p) (splits a p) (nobody a p on) in
    rest (omega arith))

pub defers_until_one : (m : Meaning) → Splits m → Holds Ne m → Holds Nb m → Holds Decr m
    → Holds (Defers 1) (loop_of (at_most 1) m)
defers_until_one m splits nobody keeps drops =
    by_turns (at_most 1) m splits (λ a p s. 1 ≤ set.len a → set.len s.deferred ≡ 1)
    (λ a p on few size. omega arith)
    (λ a p on many whole size.
    let all = len_of_not_elected a (m a p) (splits a p) (nobody a p on) in
    let same = ap set.len whole in
    absurd (drops a p on (omega arith) (empty_of_len (m a p).rejected (omega arith))))
    (λ a p on many smaller rest size. rest (len-deferred m splits nobody keeps a p on size))

-- ---- two at a time
-- Where the first elects nobody, and what it defers the second rejects, the second rejects those and what both do.
len-rejected_by_both : (a : Set) (s t : Split) → IsSplitOf a s → IsSplitOf a t → s.elected ≡ set.empty
    → IsPart s.deferred t.rejected
    → set.len (set.intersection s.rejected t.rejected) + set.len s.deferred ≡ set.len t.rejected
len-rejected_by_both a s t first second nobody part = len-make_up (set.intersection s.rejected t.rejected) s.deferred
    t.rejected
    (λ x. let none = none_at x nobody in grind (arith, nat_tests, set_members, first.parts x, second.parts x, part x))

pub elim_par_left : (m n : Meaning) → Splits m → Splits n → Holds Ne m → Holds (Defers 1) m → Holds (Rejects 2) n
    → AreDisjoint m n → Holds (Elim 1) (par_of m n)
elim_par_left m n splits others nobody one two disjoint a p on size =
    let left = one a p on (omega arith) in
    let gone = two a p on (omega arith) in
    let sum = len-rejected_by_both a (m a p) (n a p) (splits a p) (others a p) (nobody a p on)
    (deferred_by_one m n splits disjoint a p on) in
    omega arith

pub elim_par_right : (m n : Meaning) → Splits m → Splits n → Holds Ne n → Holds (Defers 1) n → Holds (Rejects 2) m
    → AreDisjoint m n → Holds (Elim 1) (par_of m n)
elim_par_right m n splits others nobody one two disjoint a p on size =
    ap set.len (intersection-swapped (m a p).rejected (n a p).rejected) ∙ elim_par_left n m others splits nobody one two
    (swapped m n disjoint) a p on size
  where
    intersection-swapped : (a b : Set) → set.intersection a b ≡ set.intersection b a
    intersection-swapped a b = same_members _ _ (λ x. grind (arith, nat_tests, set_members))
