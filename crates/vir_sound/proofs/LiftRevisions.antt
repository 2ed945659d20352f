-- The laws of lifts for revisions, and those that take one property from another.
use Rattle.std.proofs.Common.{◌≡◌, ℕ, true, true≢false, inl, ⊎_elim, refl, sym, ap, ◌∙◌}
use Rattle.std.specs.FinSet as set
use Rattle.vir_altset.specs.Sets.{Set}
use Rattle.vir_altset.specs.declared.split.Split.{Split}
use Rattle.vir_term.specs.declared.prop.Prop.TheVariants.{Ne, Ea, Dli, Imono, Dimono, Dmono, Mono}
use Rattle.vir_mean.specs.Modules.{Meaning}
use Rattle.vir_mean.specs.Compositions.{rev_of}
use Rattle.vir_mean.specs.Properties.{Holds, just, StaysOrBecomes}
use Rattle.vir_mean.proofs.MeaningLaws.{Splits}
use Rattle.vir_sound.proofs.MeaningLemmas.{same_at, none_at}
use Rattle.vir_sound.proofs.WinnerLemmas.{contains-just-same}

-- x is in a set that stays or becomes that of x
still_in : (x : ℕ) (before after : Set) → set.contains before x ≡ true → StaysOrBecomes x before after
    → set.contains after x ≡ true
still_in x before after inside =
    ⊎_elim
    (λ (stays : after ≡ before). same_at x stays ∙ inside)
    (λ (becomes : after ≡ just x). same_at x becomes ∙ contains-just-same x)

-- what is elected is deferred, and nobody is elected
pub dimono_rev : (m : Meaning) → Splits m → Holds Imono m → Holds Dimono (rev_of m)
dimono_rev m splits imono = (λ a p lists. refl, imono)

pub dmono_rev : (m : Meaning) → Splits m → Holds Mono m → Holds Dmono (rev_of m)
dmono_rev m splits mono = mono

pub dimono_dli : (m : Meaning) → Splits m → Holds Dli m → Holds Ne m → Holds Dimono m
dimono_dli m splits dli ne = (
  ne,
  λ a p q x at_p at_q inside lift deferred.
      inl (ap (λ (s : Split). s.deferred) (dli a p q x at_p at_q inside lift deferred)),
)

pub dmono_dli : (m : Meaning) → Splits m → Holds Dli m → Holds Dmono m
dmono_dli m splits dli a p q x at_p at_q inside lift deferred = ap (λ (s : Split). set.contains s.deferred x)
    (dli a p q x at_p at_q inside lift deferred) ∙ deferred

pub dmono_dimono : (m : Meaning) → Splits m → Holds Dimono m → Holds Dmono m
dmono_dimono m splits dimono a p q x at_p at_q inside lift deferred =
    still_in x (m a p).deferred (m a q).deferred deferred (dimono.1 a p q x at_p at_q inside lift deferred)

-- nobody is elected
pub mono_ne : (m : Meaning) → Splits m → Holds Ne m → Holds Mono m
mono_ne m splits ne a p q x at_p at_q inside lift elected = absurd (true≢false (sym elected ∙ none_at x (ne a p at_p)))

-- all are elected
pub mono_ea : (m : Meaning) → Splits m → Holds Ea m → Holds Mono m
mono_ea m splits ea a p q x at_p at_q inside lift elected = same_at x (ea a q at_q) ∙ inside

pub mono_imono : (m : Meaning) → Splits m → Holds Imono m → Holds Mono m
mono_imono m splits imono a p q x at_p at_q inside lift elected =
    still_in x (m a p).elected (m a q).elected elected (imono a p q x at_p at_q inside lift elected)
