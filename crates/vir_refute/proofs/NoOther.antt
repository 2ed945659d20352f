-- Sets without members but one.
use Rattle.std.proofs.Common.{◌≡◌, ℕ, Bool, true, false, not, ◌&&◌, nat_eq, sym, ap, ◌∙◌, arith}
use Rattle.std.proofs.lemmas.Bool.Decides.{nat_tests}
use Rattle.std.specs.FinSet as set
use Rattle.vir_altset.specs.Sets.{Set}
use Rattle.vir_altset.specs.SetLaws.{contains-difference}
use Rattle.vir_mean.specs.Properties.{just}
use Rattle.vir_sound.proofs.MeaningLemmas.{empty_of_none, none_at}
use Rattle.vir_sound.proofs.WinnerLemmas.{contains-just}

others-contains : (a : Set) (w x : ℕ) → set.contains (set.difference a (just w)) x
    ≡ (set.contains a x && not (nat_eq x w))
others-contains a w x = contains-difference a (just w) x ∙ ap (λ b. set.contains a x && not b) (contains-just w x)

pub no_other_member : (a : Set) (w : ℕ) → set.difference a (just w) ≡ set.empty → (x : ℕ) → set.contains a x ≡ true
    → x ≡ w
no_other_member a w none x member = step (set.contains a x) w x member (sym (others-contains a w x) ∙ none_at x none)
  where
    step : (inside : Bool) (w x : ℕ) → inside ≡ true → (inside && not (nat_eq x w)) ≡ false → x ≡ w
    step inside w x member none = grind (arith, nat_tests)

pub without_others : (a : Set) (w : ℕ) → ((x : ℕ) → set.contains a x ≡ true → x ≡ w) → set.difference a (just w)
    ≡ set.empty
without_others a w alone = empty_of_none (set.difference a (just w)) (λ x.
    others-contains a w x ∙ step (set.contains a x) w x (alone x))
  where
    step : (inside : Bool) (w x : ℕ) → (inside ≡ true → x ≡ w) → (inside && not (nat_eq x w)) ≡ false
    step inside w x alone = grind (arith, nat_tests)
