-- Meanings that defer nobody, and meanings that agree.
use Rattle.std.proofs.Common.{◌≡◌, ◌≢◌, ℕ, ◌<◌, ◌≤◌, Bool, true, false, true≢false, sym, ap, ◌∙◌, subst, arith}
use Rattle.std.proofs.lemmas.Bool.Decides.{nat_tests}
use Rattle.std.specs.FinSet as set
use Rattle.vir_altset.specs.Sets.{Set}
use Rattle.vir_altset.specs.SetLaws.{set_members}
use Rattle.vir_altset.specs.declared.split.Split.{Split}
use Rattle.vir_altset.proofs.SplitLaws.{deferred_part, split_of_empty}
use Rattle.vir_profile.specs.Profiles.{restrict}
use Rattle.vir_term.specs.declared.prop.Prop.{Prop}
use Rattle.vir_term.specs.declared.prop.Prop.TheVariants.{Ne, Ea, El, Defers, Rejects, Elim, Nb, Decr, Dli, Imono}
use Rattle.vir_term.specs.declared.prop.Prop.TheVariants.{Dimono, Dmono, Mono, Cc, Dcc, Cprog, Ccomp, Neut}
use Rattle.vir_mean.specs.Modules.{Meaning}
use Rattle.vir_mean.specs.Compositions.{joined, seq_of, par_of}
use Rattle.vir_mean.specs.Neutrality.{renamed_set, renamed_lines, renamed_split}
use Rattle.vir_mean.specs.Properties.{Holds, OnEach, OnLifts, OnWinners, StaysOrBecomes, MakesProgress}
use Rattle.vir_mean.specs.Properties.{IsCompatible}
use Rattle.vir_mean.proofs.MeaningLaws.{Splits}
use Rattle.vir_mean.proofs.RenamedElections.{renamed_election}
use Rattle.vir_sound.proofs.MeaningLemmas.{deferred_profile, empty_of_none, none_at}
use Rattle.vir_sound.proofs.WinnerLemmas.{elects, defers, union-empty}
use Rattle.vir_known.specs.Deciding.{DefersNobody, Agree}

-- ---- compositions that defer nobody
pub nobody_seq_last : (m n : Meaning) → Splits m → DefersNobody n → DefersNobody (seq_of m n)
nobody_seq_last m n first none a p on = none _ _ (deferred_profile m first a p on)

pub nobody_seq_first : (m n : Meaning) → Splits n → DefersNobody m → DefersNobody (seq_of m n)
nobody_seq_first m n second none a p on = empty_of_none _ (λ x. step _ _
    (deferred_part (m a p).deferred (n (m a p).deferred (restrict (m a p).deferred p))
    (second (m a p).deferred (restrict (m a p).deferred p)) x) (none_at x (none a p on)))
  where
    step : (b c : Bool) → (b ≡ true → c ≡ true) → c ≡ false → b ≡ false
    step b c there none = grind arith

pub nobody_par : (m n : Meaning) → DefersNobody m → DefersNobody n → DefersNobody (par_of m n)
nobody_par m n one other a p on = empty_of_none _ (λ x.
    let left = none_at x (one a p on) in
    let right = none_at x (other a p on) in
    grind (arith, nat_tests, set_members))

-- ---- what follows
-- a premise on who is deferred is never met
pub dli_nobody : (m : Meaning) → DefersNobody m → Holds Dli m
dli_nobody m none a p q x at_p at_q inside lift deferred =
    absurd (true≢false (sym deferred ∙ none_at x (none a p at_p)))

pub dmono_nobody : (m : Meaning) → DefersNobody m → Holds Dmono m
dmono_nobody m none a p q x at_p at_q inside lift deferred =
    absurd (true≢false (sym deferred ∙ none_at x (none a p at_p)))

-- and one on who is elected, where nobody is
pub imono_ne : (m : Meaning) → Holds Ne m → Holds Imono m
imono_ne m none a p q x at_p at_q inside lift elected =
    absurd (true≢false (sym elected ∙ none_at x (none a p at_p)))

-- ---- meanings that agree
-- what comes after a meaning that defers nobody changes nothing
pub seq_agrees : (m n : Meaning) → Splits n → DefersNobody m → Agree (seq_of m n) m
seq_agrees m n second none a p on =
    let nothing : (m a p).deferred ≡ set.empty = none a p on in
    ap (λ (d : Set). joined (m a p) (n d (restrict d p))) nothing
    ∙ ap (joined (m a p))
    (split_of_empty (n set.empty (restrict set.empty p)) (second set.empty (restrict set.empty p)))
    ∙ (λ i. record {
      elected = union-empty (m a p).elected i;
      rejected = union-empty (m a p).rejected i;
      deferred = sym nothing i;
    })

module _ (m n : Meaning) (same : Agree m n) where
  each : (Says : Set → Split → Type 0) → OnEach m Says → OnEach n Says
  each Says holds a p on = subst (Says a) (same a p on) (holds a p on)

  lifts : (Says : ℕ → Split → Split → Type 0) → OnLifts m Says → OnLifts n Says
  lifts Says holds a p q x at_p at_q inside lift =
      subst (λ s. Says x s (n a q)) (same a p at_p)
      (subst (λ t. Says x (m a p) t) (same a q at_q) (holds a p q x at_p at_q inside lift))

  winners : (Says : ℕ → Set → Split → Type 0) → OnWinners m Says → OnWinners n Says
  winners Says holds a p w on winner = subst (Says w a) (same a p on) (holds a p w on winner)

  pub agreeing : (prop : Prop) → Holds prop m → Holds prop n
  agreeing Ne holds = each (λ a s. s.elected ≡ set.empty) holds
  agreeing Ea holds = each (λ a s. s.elected ≡ a) holds
  agreeing El holds = each (λ a s. a ≢ set.empty → s.elected ≢ set.empty) holds
  agreeing (Defers k) holds = each (λ a s. k ≤ set.len a → set.len s.deferred ≡ k) holds
  agreeing (Rejects k) holds = each (λ a s. k ≤ set.len a → set.len s.rejected ≡ k) holds
  agreeing (Elim k) holds = each (λ a s. k < set.len a → set.len s.rejected ≡ k) holds
  agreeing Nb holds = each (λ a s. a ≢ set.empty → s.rejected ≢ a) holds
  agreeing Decr holds = each (λ a s. 2 ≤ set.len a → s.rejected ≢ set.empty) holds
  agreeing Dli holds = lifts (λ x s t. set.contains s.deferred x ≡ true → t ≡ s) holds
  agreeing Imono holds = lifts (λ x s t. set.contains s.elected x ≡ true → StaysOrBecomes x s.elected t.elected) holds
  agreeing Dimono holds = (
    each (λ a s. s.elected ≡ set.empty) holds.0,
    lifts (λ x s t. set.contains s.deferred x ≡ true → StaysOrBecomes x s.deferred t.deferred) holds.1,
  )
  agreeing Dmono holds = lifts (λ x s t. set.contains s.deferred x ≡ true → set.contains t.deferred x ≡ true) holds
  agreeing Mono holds = lifts (λ x s t. set.contains s.elected x ≡ true → set.contains t.elected x ≡ true) holds
  agreeing Cc holds = winners (λ w a s. s ≡ elects w a) holds
  agreeing Dcc holds = winners (λ w a s. s ≡ defers w a) holds
  agreeing Cprog holds = winners MakesProgress holds
  agreeing Ccomp holds = winners IsCompatible holds
  agreeing Neut holds = λ a p f on renaming.
      sym (same (renamed_set f a) (renamed_lines f p) (renamed_election f a p on renaming))
      ∙ holds a p f on renaming ∙ ap (renamed_split f) (same a p on)

pub agree_back : (m n : Meaning) → Agree m n → Agree n m
agree_back m n same a p on = sym (same a p on)
