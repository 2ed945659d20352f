-- Laws of neutrality: under which compositions names make no difference.
use Rattle.std.proofs.Common.{◌≡◌, ℕ, ◌<◌, ◌≤◌, true, List, sym, ap, ap₂, subst, ◌∙◌, arith}
use Rattle.std.proofs.lemmas.Bool.Decides.{nat_tests}
use Rattle.std.specs.FinSet as set
use Rattle.vir_altset.specs.Sets.{Set, IsPart}
use Rattle.vir_altset.specs.SetLaws.{set_members}
use Rattle.vir_altset.specs.Splits.{IsSplitOf}
use Rattle.vir_altset.specs.declared.split.Split.{Split}
use Rattle.vir_altset.proofs.SplitLaws.{elected_part, rejected_part, deferred_part}
use Rattle.vir_profile.specs.declared.ballot.Entry.{Entry}
use Rattle.vir_profile.specs.Profiles.{restrict}
use Rattle.vir_term.specs.declared.leaf.Leaf.{Leaf}
use Rattle.vir_term.specs.declared.leaf.Leaf.TheVariants as leaf
use Rattle.vir_term.specs.declared.prop.Prop.TheVariants.{Neut}
use Rattle.vir_term.specs.Kinds.{kind_of}
use Rattle.vir_term.specs.Tree.{End, number_of}
use Rattle.vir_mean.specs.declared.elimination.Elimination.TheVariants.{Max, Min, Below, Upto}
use Rattle.vir_profile.specs.Elections.{IsElection}
use Rattle.vir_mean.specs.Modules.{Meaning, leaf_mean}
use Rattle.vir_mean.specs.Compositions.{IsEnd, joined, merged, rev_of, seq_of, par_of, loop_of}
use Rattle.vir_mean.specs.Neutrality.{IsRenaming, renamed_set, renamed_lines, renamed_split}
use Rattle.vir_mean.specs.Properties.{Holds}
use Rattle.vir_mean.proofs.LoopLaws.{loop_of-few, loop_of-whole, loop_of-more}
use Rattle.vir_mean.proofs.MeaningLaws.{Splits, turns-split}
use Rattle.vir_mean.proofs.RenamedLeaves.{whole, elect-neutral, defer-neutral, plurality-neutral, eliminator-neutral}
use Rattle.vir_mean.proofs.RenamedProfiles.{restrict-renamed}
use Rattle.vir_mean.proofs.RenamedSets.{renamed-empty, renamed-union, renamed-intersection, renamed-difference}
use Rattle.vir_mean.proofs.RenamedSets.{len-renamed}
use Rattle.vir_rules.specs.declared.row.Family.TheVariants.{Unordered}
use Rattle.vir_rules.specs.Families.{is_of}
use Rattle.vir_sound.specs.Truth.{IsProperLeaf}
use Rattle.vir_sound.proofs.MeaningLemmas.{deferred_profile, by_turns}

-- ---- modules
pub neut_leaf : (l : Leaf) → IsProperLeaf l → is_of Unordered (kind_of l) ≡ true → Holds Neut (leaf_mean l)
neut_leaf leaf.Elect proper fits = elect-neutral
neut_leaf leaf.Defer proper fits = defer-neutral
neut_leaf (leaf.PassFirst k order) proper fits = cc
neut_leaf (leaf.DropFirst k order) proper fits = cc
neut_leaf leaf.Plurality proper fits = plurality-neutral
neut_leaf (leaf.Max s) proper fits = eliminator-neutral Max s
neut_leaf (leaf.Min s) proper fits = eliminator-neutral Min s
neut_leaf (leaf.Below s) proper fits = eliminator-neutral Below s
neut_leaf (leaf.Upto s) proper fits = eliminator-neutral Upto s

-- ---- revision
pub neut_rev : (m : Meaning) → Splits m → Holds Neut m → Holds Neut (rev_of m)
neut_rev m splits neutral a p f on renaming =
    let s = m a p in
    let left : set.difference (renamed_set f a) (m (renamed_set f a) (renamed_lines f p)).elected
    ≡ renamed_set f (set.difference a s.elected)
    = ap (λ (u : Split). set.difference (renamed_set f a) u.elected) (neutral a p f on renaming)
    ∙ renamed-difference f a renaming a s.elected (whole a) (elected_part a s (splits a p)) in
    let kept : (m (renamed_set f a) (renamed_lines f p)).elected ≡ renamed_set f s.elected =
    ap (λ (u : Split). u.elected) (neutral a p f on renaming) in
    λ i. record { elected = sym (renamed-empty f) i; rejected = left i; deferred = kept i }

-- ---- sequences
-- a map that renames a set renames each part
renaming_part : (f : ℕ → ℕ) (a d : Set) → IsPart d a → IsRenaming f a → IsRenaming f d
renaming_part f a d part renaming = record {
  positive = λ x member. renaming.positive x (part x member);
  one_to_one = λ x y with_x with_y same. renaming.one_to_one x y (part x with_x) (part y with_y) same;
}

joined-renamed : (f : ℕ → ℕ) (a : Set) → IsRenaming f a → (s t : Split) → IsSplitOf a s → IsSplitOf s.deferred t
    → joined (renamed_split f s) (renamed_split f t) ≡ renamed_split f (joined s t)
joined-renamed f a renaming s t one other =
    let part = deferred_part a s one in
    λ i. record {
      elected = renamed-union f a renaming s.elected t.elected (elected_part a s one)
          (λ x member. part x (elected_part s.deferred t other x member)) i;
      rejected = renamed-union f a renaming s.rejected t.rejected (rejected_part a s one)
          (λ x member. part x (rejected_part s.deferred t other x member)) i;
      deferred = renamed_set f t.deferred;
    }

-- where both parts of a split that goes on are renamed, the whole is
further : (m : Meaning) → Splits m → Holds Neut m → (next : Meaning) → (a : Set) (p : List Entry) (f : ℕ → ℕ)
    → IsElection a p → IsRenaming f a
    → IsSplitOf (m a p).deferred (next (m a p).deferred (restrict (m a p).deferred p))
    → (IsRenaming f (m a p).deferred → next (renamed_set f (m a p).deferred)
    (renamed_lines f (restrict (m a p).deferred p))
    ≡ renamed_split f (next (m a p).deferred (restrict (m a p).deferred p)))
    → seq_of m next (renamed_set f a) (renamed_lines f p) ≡ renamed_split f (seq_of m next a p)
further m splits neutral next a p f on renaming rest_splits rest =
    let s = m a p in
    let part = deferred_part a s (splits a p) in
    ap (λ (u : Split). joined u (next u.deferred (restrict u.deferred (renamed_lines f p)))) (neutral a p f on renaming)
    ∙ ap (λ lines. joined (renamed_split f s) (next (renamed_set f s.deferred) lines))
    (restrict-renamed f a renaming s.deferred part p on.lists)
    ∙ ap (joined (renamed_split f s)) (rest (renaming_part f a s.deferred part renaming))
    ∙ joined-renamed f a renaming s (next s.deferred (restrict s.deferred p)) (splits a p) rest_splits

pub neut_seq : (m n : Meaning) → Splits m → Splits n → Holds Neut m → Holds Neut n → Holds Neut (seq_of m n)
neut_seq m n splits also first second a p f on renaming =
    further m splits first n a p f on renaming (also (m a p).deferred (restrict (m a p).deferred p))
    (λ renames. second (m a p).deferred (restrict (m a p).deferred p) f (deferred_profile m splits a p on) renames)

-- ---- two at a time
merged-renamed : (f : ℕ → ℕ) (a : Set) → IsRenaming f a → (s t : Split) → IsSplitOf a s → IsSplitOf a t
    → merged (renamed_split f s) (renamed_split f t) ≡ renamed_split f (merged s t)
merged-renamed f a renaming s t one other =
    let elected = renamed-union f a renaming s.elected t.elected (elected_part a s one) (elected_part a t other) in
    let deferred = renamed-union f a renaming s.deferred t.deferred (deferred_part a s one) (deferred_part a t other) in
    let left : set.difference (set.union (renamed_set f s.deferred) (renamed_set f t.deferred))
    (set.union (renamed_set f s.elected) (renamed_set f t.elected))
    ≡ renamed_set f (set.difference (set.union s.deferred t.deferred) (set.union s.elected t.elected))
    = ap (λ d. set.difference d (set.union (renamed_set f s.elected) (renamed_set f t.elected))) deferred
    ∙ ap (set.difference (renamed_set f (set.union s.deferred t.deferred))) elected
    ∙ renamed-difference f a renaming (set.union s.deferred t.deferred) (set.union s.elected t.elected)
    (union_part a s.deferred t.deferred (deferred_part a s one) (deferred_part a t other))
    (union_part a s.elected t.elected (elected_part a s one) (elected_part a t other)) in
    let one_part = rejected_part a s one in
    let other_part = rejected_part a t other in
    let rejected = renamed-intersection f a renaming s.rejected t.rejected one_part other_part in
    λ i. record { elected = elected i; rejected = rejected i; deferred = left i }
  where
    union_part : (a d e : Set) → IsPart d a → IsPart e a → IsPart (set.union d e) a
    union_part a d e one other x member = grind (arith, nat_tests, set_members, one x, other x)

pub neut_par : (m n : Meaning) → Splits m → Splits n → Holds Neut m → Holds Neut n → Holds Neut (par_of m n)
neut_par m n splits also first second a p f on renaming =
    ap₂ merged (first a p f on renaming) (second a p f on renaming) ∙ merged-renamed f a renaming (m a p) (n a p)
    (splits a p) (also a p)

-- ---- loops
pub neut_loop : (k : End) (m : Meaning) → 1 ≤ number_of k → Splits m → Holds Neut m → Holds Neut (loop_of k m)
neut_loop k m some splits neutral a p f on renaming =
    by_turns k m splits (λ a p s. (f : ℕ → ℕ) → IsRenaming f a → loop_of k m (renamed_set f a) (renamed_lines f p)
    ≡ renamed_split f s)
    (λ a p on few f renaming.
    loop_of-few k m (renamed_set f a) (renamed_lines f p) (subst (IsEnd k) (sym (len-renamed f a renaming a (whole a)))
    few)
    ∙ defer-neutral a p f on renaming)
    (λ a p on many all f renaming.
    loop_of-whole k m splits (renamed_set f a) (renamed_lines f p)
    (ap (λ (u : Split). u.deferred) (neutral a p f on renaming) ∙ ap (renamed_set f) all)
    ∙ defer-neutral a p f on renaming)
    (λ a p on many smaller rest f renaming.
    loop_of-more k m splits (renamed_set f a) (renamed_lines f p)
    (λ end. many (subst (IsEnd k) (len-renamed f a renaming a (whole a)) end))
    (λ all. less (len-renamed f a renaming (m a p).deferred (deferred_part a (m a p) (splits a p)))
    (len-renamed f a renaming a (whole a))
    (ap set.len (sym (ap (λ (u : Split). u.deferred) (neutral a p f on renaming)) ∙ all)) smaller)
    ∙ further m splits neutral (loop_of k m) a p f on renaming
    (turns-split (set.len (m a p).deferred) k m splits (m a p).deferred (restrict (m a p).deferred p)) (rest f))
    a p on f renaming
  where
    less : {d a new_d new_a : ℕ} → new_d ≡ d → new_a ≡ a → new_d ≡ new_a → d < a → ⊥
    less one other same smaller = omega arith
