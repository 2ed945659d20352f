-- The laws of lifts for parallel compositions.
use Rattle.std.proofs.Common.{◌≡◌, ℕ, Bool, true, false, ◌||◌, ⊎_elim, sym, ap₂, ◌∙◌, arith}
use Rattle.std.proofs.lemmas.Bool.Decides.{nat_tests}
use Rattle.std.specs.FinSet as set
use Rattle.vir_altset.specs.Sets.{Set}
use Rattle.vir_altset.specs.SetLaws.{contains-union, set_members}
use Rattle.vir_altset.specs.Splits.{IsSplitOf}
use Rattle.vir_altset.specs.declared.split.Split.{Split}
use Rattle.vir_term.specs.declared.prop.Prop.TheVariants.{Ne, Dli, Dmono, Mono}
use Rattle.vir_mean.specs.Modules.{Meaning}
use Rattle.vir_mean.specs.Compositions.{merged, par_of}
use Rattle.vir_mean.specs.Disjointness.{IsFree, AreDisjoint}
use Rattle.vir_mean.specs.Properties.{Holds}
use Rattle.vir_mean.proofs.MeaningLaws.{Splits}
use Rattle.vir_mean.proofs.RestrictedLifts.{same_of_lift}
use Rattle.vir_sound.proofs.MeaningLemmas.{none_at}

-- what a merged split defers and the first rejects, the second defers
deferred_second : (a : Set) (s t : Split) (x : ℕ) → IsSplitOf a s → set.contains s.rejected x ≡ true
    → set.contains (merged s t).deferred x ≡ true → set.contains t.deferred x ≡ true
deferred_second a s t x split rejected deferred = grind (arith, nat_tests, set_members, split.parts x)

-- and the other way round
deferred_first : (a : Set) (s t : Split) (x : ℕ) → IsSplitOf a t → set.contains t.rejected x ≡ true
    → set.contains (merged s t).deferred x ≡ true → set.contains s.deferred x ≡ true
deferred_first a s t x split rejected deferred = grind (arith, nat_tests, set_members, split.parts x)

-- the lifted is free for one of the two, whose split so stays; the other defers it
pub dli_par : (m n : Meaning) → Splits m → Splits n → AreDisjoint m n → Holds Dli m → Holds Dli n
    → Holds Dli (par_of m n)
dli_par m n first second disjoint one other a p q x at_p at_q inside lift deferred =
    let same_but = same_of_lift p q x lift in
    ⊎_elim
    (λ (free : IsFree m a x). ap₂ merged (sym (free.ignored p q at_p at_q same_but))
    (other a p q x at_p at_q inside lift (deferred_second a (m a p) (n a p) x (first a p) (free.rejected p at_p)
    deferred)))
    (λ (free : IsFree n a x).
    ap₂ merged (one a p q x at_p at_q inside lift (deferred_first a (m a p) (n a p) x (second a p)
    (free.rejected p at_p) deferred)) (sym (free.ignored p q at_p at_q same_but)))
    (disjoint a x inside)

-- where neither elects anybody, a merged split defers what one of them defers
deferred_by_one : (s t : Split) (x : ℕ) → s.elected ≡ set.empty → t.elected ≡ set.empty
    → set.contains (merged s t).deferred x ≡ (set.contains s.deferred x || set.contains t.deferred x)
deferred_by_one s t x none nobody =
    let in_s : set.contains s.elected x ≡ false = none_at x none in
    let in_t : set.contains t.elected x ≡ false = none_at x nobody in
    grind (arith, nat_tests, set_members)

-- each of two truths stays
either_stays : (b c d e : Bool) → (b ≡ true → d ≡ true) → (c ≡ true → e ≡ true) → (b || c) ≡ true → (d || e) ≡ true
either_stays b c d e one other some = grind arith

pub dmono_par : (m n : Meaning) → Splits m → Splits n → Holds Ne m → Holds Ne n → Holds Dmono m → Holds Dmono n
    → Holds Dmono (par_of m n)
dmono_par m n first second none nobody one other a p q x at_p at_q inside lift deferred =
    deferred_by_one (m a q) (n a q) x (none a q at_q) (nobody a q at_q)
    ∙ either_stays _ _ _ _ (one a p q x at_p at_q inside lift) (other a p q x at_p at_q inside lift)
    (sym (deferred_by_one (m a p) (n a p) x (none a p at_p) (nobody a p at_p)) ∙ deferred)

pub mono_par : (m n : Meaning) → Splits m → Splits n → Holds Mono m → Holds Mono n → Holds Mono (par_of m n)
mono_par m n first second one other a p q x at_p at_q inside lift elected =
    contains-union (m a q).elected (n a q).elected x
    ∙ either_stays _ _ _ _ (one a p q x at_p at_q inside lift) (other a p q x at_p at_q inside lift)
    (sym (contains-union (m a p).elected (n a p).elected x) ∙ elected)
