-- Laws of keeping and of dropping: not all are rejected, somebody is rejected.
use Rattle.std.proofs.Common.{◌≡◌, ◌≢◌, ◌≤◌, true, sym, ap, arith}
use Rattle.std.specs.FinSet as set
use Rattle.vir_altset.specs.Sets.{Set, IsPart}
use Rattle.vir_altset.specs.SetLaws.{contains-union, contains-intersection, contains-difference, same_members}
use Rattle.vir_altset.specs.Splits.{IsSplitOf}
use Rattle.vir_altset.specs.declared.split.Split.{Split}
use Rattle.vir_altset.proofs.SizeLaws.{len_of_empty, len-retain}
use Rattle.vir_altset.proofs.SplitLaws.{rejected_part}
use Rattle.vir_profile.specs.Profiles.{restrict}
use Rattle.vir_term.specs.declared.leaf.Leaf.{Leaf}
use Rattle.vir_term.specs.declared.leaf.Leaf.TheVariants as leaf
use Rattle.vir_term.specs.declared.prop.Prop.TheVariants.{Ne, El, Defers, Rejects, Elim, Nb, Decr}
use Rattle.vir_term.specs.Kinds.{kind_of}
use Rattle.vir_mean.specs.FixedOrders.{is_among_first}
use Rattle.vir_mean.specs.Modules.{Meaning, leaf_mean}
use Rattle.vir_term.specs.Tree.{End, number_of}
use Rattle.vir_mean.specs.Compositions.{joined, rev_of, seq_of, par_of, loop_of}
use Rattle.vir_mean.specs.Properties.{Holds}
use Rattle.vir_mean.proofs.MeaningLaws.{Splits, turns-split}
use Rattle.vir_rules.specs.declared.row.Family.TheVariants.{KeepingSome, Dropping}
use Rattle.vir_rules.specs.Families.{is_of}
use Rattle.vir_sound.specs.Truth.{IsProperLeaf}
use Rattle.vir_sound.proofs.FirstMembers.{len-first_members}
use Rattle.vir_sound.proofs.MeaningLemmas.{same_at, none_at, empty_of_none, some_of, left_none, len_of_not_elected}
use Rattle.vir_sound.proofs.MeaningLemmas.{rejected-eliminated, deferred_profile, by_turns}

-- ---- not all are rejected
pub nb_leaf : (l : Leaf) → IsProperLeaf l → is_of KeepingSome (kind_of l) ≡ true → Holds Nb (leaf_mean l)
nb_leaf leaf.Elect proper fits a p on some all = cc
nb_leaf leaf.Defer proper fits a p on some all = some (sym all)
nb_leaf (leaf.PassFirst k order) proper fits a p on some all =
    let passed = len-first_members k order a in
    let sizes = len-retain a (is_among_first k order a) in
    let same = ap set.len all in
    let positive = some_of a some in
    absurd (omega arith)
nb_leaf (leaf.DropFirst k order) proper fits a p on some all = cc
nb_leaf leaf.Plurality proper fits a p on some all = cc
nb_leaf (leaf.Max s) proper fits a p on some all = rejected-eliminated a _ some all
nb_leaf (leaf.Min s) proper fits a p on some all = rejected-eliminated a _ some all
nb_leaf (leaf.Below s) proper fits a p on some all = rejected-eliminated a _ some all
nb_leaf (leaf.Upto s) proper fits a p on some all = rejected-eliminated a _ some all

-- where all but the elected are all, nobody is elected
pub nb_rev : (m : Meaning) → Splits m → Holds El m → Holds Nb (rev_of m)
nb_rev m splits elects a p on some all = elects a p on some (empty_of_none (m a p).elected (λ x.
    let parts = (splits a p).parts x in let others = contains-difference a (m a p).elected x in let same = same_at x all
    in grind arith))

-- Where two parts one after the other reject all, the first defers nothing and rejects all, or the second rejects all
-- that is deferred.
module _ (a : Set) (s t : Split) (first : IsSplitOf a s) (second : IsSplitOf s.deferred t)
    (all : set.union s.rejected t.rejected ≡ a) where
  rejected_by_second : t.rejected ≡ s.deferred
  rejected_by_second = same_members _ _ (λ x. let one = first.parts x in let two = second.parts x in let both =
      contains-union s.rejected t.rejected x in let same = same_at x all in grind arith)

  rejected_by_first : s.deferred ≡ set.empty → s.rejected ≡ a
  rejected_by_first nothing = same_members _ _ (λ x.
      let one = first.parts x in let two = second.parts x in let both = contains-union s.rejected t.rejected x
      in let same = same_at x all in let none = none_at x nothing in grind arith)

joined_keeps : (a : Set) (s t : Split) → IsSplitOf a s → IsSplitOf s.deferred t → s.rejected ≢ a
    → (s.deferred ≢ set.empty → t.rejected ≢ s.deferred) → (joined s t).rejected ≢ a
joined_keeps a s t first second one other all =
    other (λ nothing. one (rejected_by_first a s t first second all nothing)) (rejected_by_second a s t first second
    all)

pub nb_seq : (m n : Meaning) → Splits m → Splits n → Holds Nb m → Holds Nb n → Holds Nb (seq_of m n)
nb_seq m n splits also first second a p on some =
    joined_keeps a (m a p) _ (splits a p) (also (m a p).deferred (restrict (m a p).deferred p)) (first a p on some)
    (second _ _ (deferred_profile m splits a p on))

-- what both reject is no more than what one rejects
whole_left : (a b c : Set) → IsPart b a → set.intersection b c ≡ a → b ≡ a
whole_left a b c part all = same_members _ _ (λ x. let inside = part x in let both = contains-intersection b c x
    in let same = same_at x all in grind arith)

whole_right : (a b c : Set) → IsPart c a → set.intersection b c ≡ a → c ≡ a
whole_right a b c part all = same_members _ _ (λ x. let inside = part x in let both = contains-intersection b c x
    in let same = same_at x all in grind arith)

pub nb_par_left : (m n : Meaning) → Splits m → Splits n → Holds Nb m → Holds Nb (par_of m n)
nb_par_left m n splits also first a p on some all = first a p on some
    (whole_left a _ _ (rejected_part a (m a p) (splits a p)) all)

pub nb_par_right : (m n : Meaning) → Splits m → Splits n → Holds Nb n → Holds Nb (par_of m n)
nb_par_right m n splits also second a p on some all = second a p on some
    (whole_right a _ _ (rejected_part a (n a p) (also a p)) all)

pub nb_loop : (k : End) (m : Meaning) → 1 ≤ number_of k → Splits m → Holds Nb m → Holds Nb (loop_of k m)
nb_loop k m positive splits body = by_turns k m splits (λ a p s. a ≢ set.empty → s.rejected ≢ a)
    (λ a p on few some all. some (sym all))
    (λ a p on more whole some all. some (sym all))
    (λ a p on more smaller rest some. joined_keeps a (m a p) _ (splits a p) (turns-split (set.len (m a p).deferred) k m
    splits (m a p).deferred (restrict (m a p).deferred p)) (body a p on some) rest)

pub nb_el : (m : Meaning) → Splits m → Holds El m → Holds Nb m
nb_el m splits elects a p on some all = elects a p on some
    (empty_of_none (m a p).elected (λ x. let parts = (splits a p).parts x in let same = same_at x all in grind arith))

pub nb_defers : (m : Meaning) → Splits m → Holds Ne m → Holds (Defers 1) m → Holds Nb m
nb_defers m splits nobody defers a p on some all =
    let sizes = len_of_not_elected a (m a p) (splits a p) (nobody a p on) in
    let one = defers a p on (some_of a some) in
    let same = ap set.len all in
    absurd (omega arith)

-- ---- somebody is rejected
pub decr_leaf : (l : Leaf) → IsProperLeaf l → is_of Dropping (kind_of l) ≡ true → Holds Decr (leaf_mean l)
decr_leaf leaf.Elect proper fits a p on two none = cc
decr_leaf leaf.Defer proper fits a p on two none = cc
decr_leaf (leaf.PassFirst k order) proper fits a p on two none = cc
decr_leaf (leaf.DropFirst k order) proper fits a p on two none =
    let dropped = len-first_members k order a in
    let zero = len_of_empty _ none in
    absurd (omega arith)
decr_leaf leaf.Plurality proper fits a p on two none = cc
decr_leaf (leaf.Max s) proper fits a p on two none = cc
decr_leaf (leaf.Min s) proper fits a p on two none = cc
decr_leaf (leaf.Below s) proper fits a p on two none = cc
decr_leaf (leaf.Upto s) proper fits a p on two none = cc

pub decr_seq : (m n : Meaning) → Splits m → Splits n → Holds Decr m → Holds Decr (seq_of m n)
decr_seq m n splits also first a p on two none = first a p on two (left_none _ _ none)

pub decr_elim : (m : Meaning) → Splits m → Holds (Elim 1) m → Holds Decr m
decr_elim m splits one a p on two none = let size = one a p on two in let zero = len_of_empty _ none
    in absurd (omega arith)

pub decr_rejects : (m : Meaning) → Splits m → Holds (Rejects 1) m → Holds Decr m
decr_rejects m splits one a p on two none = let size = one a p on (omega arith) in let zero = len_of_empty _ none
    in absurd (omega arith)

pub decr_defers : (m : Meaning) → Splits m → Holds Ne m → Holds (Defers 1) m → Holds Decr m
decr_defers m splits nobody defers a p on two none =
    let sizes = len_of_not_elected a (m a p) (splits a p) (nobody a p on) in
    let one = defers a p on (omega arith) in
    let zero = len_of_empty _ none in
    absurd (omega arith)
