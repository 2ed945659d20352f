-- Premises and conclusions on profiles that are alike, and on chains of lifts.
use Rattle.std.proofs.Common.{◌≡◌, ◌≢◌, ◌⊎◌, inl, inr, ℕ, ◌<◌, ◌≤◌, Bool, true, false, true≢false, List, refl, sym, ap}
use Rattle.std.proofs.Common.{◌∙◌, subst}
use Rattle.std.specs.FinSet as set
use Rattle.vir_altset.specs.Sets.{Set}
use Rattle.vir_altset.specs.SetLaws.{contains-insert-same}
use Rattle.vir_altset.specs.declared.split.Split.{Split}
use Rattle.vir_profile.specs.declared.ballot.Entry.{Entry}
use Rattle.vir_profile.specs.Orders.{puts_before}
use Rattle.vir_profile.specs.Profiles.{pairwise_weight}
use Rattle.vir_profile.specs.Winners.{IsCondorcetWinner}
use Rattle.vir_term.specs.declared.prop.Prop.{Prop}
use Rattle.vir_term.specs.declared.prop.Prop.TheVariants.{Ne, Ea, El, Defers, Rejects, Elim, Nb, Decr, Dli, Imono}
use Rattle.vir_term.specs.declared.prop.Prop.TheVariants.{Dimono, Dmono, Mono, Cc, Dcc, Cprog, Ccomp, Neut}
use Rattle.vir_mean.specs.Properties.{just, StaysOrBecomes}
use Rattle.vir_refute.specs.Cases.{Election}
use Rattle.vir_refute.specs.Violations.{is_on_lifts, OfWinner, SaysOfWinner, PremiseOnOne, ConclusionOnOne}
use Rattle.vir_refute.specs.Violations.{PremiseOnLift}
use Rattle.vir_refute.specs.Violations.{ConclusionOnLift}
use Rattle.vir_refute.proofs.Stability.{Surely, surely, true_surely, number_surely, not_surely, set_surely}
use Rattle.vir_refute.proofs.Stability.{split_surely, stays_surely, progress_surely, compatible_surely, equal_or_not}
use Rattle.vir_find.proofs.AlikeProfiles.{Alike}

abbrev pub on : Set → List Entry → Election
on a lines = record { members = a; lines = lines }

-- ---- a Condorcet winner of one is one of the other
winner-alike : (w : ℕ) (a : Set) (p q : List Entry) → Alike p q → IsCondorcetWinner w a p → IsCondorcetWinner w a q
winner-alike w a p q alike winner = record {
  member = winner.member;
  wins = λ y inside other.
      subst (λ n. n < pairwise_weight q w y) (alike (puts_before y w))
      (subst (λ n. pairwise_weight p y w < n) (alike (puts_before w y)) (winner.wins y inside other));
}

pub premise-alike : (prop : Prop) (a : Set) (p q : List Entry) → Alike p q → PremiseOnOne prop (on a p)
    → PremiseOnOne prop (on a q)
premise-alike Cc a p q alike has = (has.0, winner-alike has.0 a p q alike has.1)
premise-alike Dcc a p q alike has = (has.0, winner-alike has.0 a p q alike has.1)
premise-alike Cprog a p q alike has = (has.0, winner-alike has.0 a p q alike has.1)
premise-alike Ccomp a p q alike has = (has.0, winner-alike has.0 a p q alike has.1)
premise-alike Ne a p q alike premise = premise
premise-alike Ea a p q alike premise = premise
premise-alike El a p q alike premise = premise
premise-alike (Defers k) a p q alike premise = premise
premise-alike (Rejects k) a p q alike premise = premise
premise-alike (Elim k) a p q alike premise = premise
premise-alike Nb a p q alike premise = premise
premise-alike Decr a p q alike premise = premise
premise-alike Dli a p q alike premise = premise
premise-alike Imono a p q alike premise = premise
premise-alike Dimono a p q alike premise = premise
premise-alike Dmono a p q alike premise = premise
premise-alike Mono a p q alike premise = premise
premise-alike Neut a p q alike premise = premise

of_winner-alike : (a : Set) (p q : List Entry) (Says : ℕ → Type 0) → Alike p q → OfWinner (on a p) Says
    → OfWinner (on a q) Says
of_winner-alike a p q Says alike says w winner = says w (winner-alike w a q p (λ test. sym (alike test)) winner)

pub conclusion-alike : (prop : Prop) (a : Set) (p q : List Entry) (s : Split) → Alike p q
    → ConclusionOnOne prop (on a p) s → ConclusionOnOne prop (on a q) s
conclusion-alike Ne a p q s alike is = is
conclusion-alike Ea a p q s alike is = is
conclusion-alike El a p q s alike is = is
conclusion-alike (Defers k) a p q s alike is = is
conclusion-alike (Rejects k) a p q s alike is = is
conclusion-alike (Elim k) a p q s alike is = is
conclusion-alike Nb a p q s alike is = is
conclusion-alike Decr a p q s alike is = is
conclusion-alike Dli a p q s alike is = of_winner-alike a p q (λ w. SaysOfWinner Dli w a s) alike is
conclusion-alike Imono a p q s alike is = of_winner-alike a p q (λ w. SaysOfWinner Imono w a s) alike is
conclusion-alike Dimono a p q s alike is = of_winner-alike a p q (λ w. SaysOfWinner Dimono w a s) alike is
conclusion-alike Dmono a p q s alike is = of_winner-alike a p q (λ w. SaysOfWinner Dmono w a s) alike is
conclusion-alike Mono a p q s alike is = of_winner-alike a p q (λ w. SaysOfWinner Mono w a s) alike is
conclusion-alike Cc a p q s alike is = of_winner-alike a p q (λ w. SaysOfWinner Cc w a s) alike is
conclusion-alike Dcc a p q s alike is = of_winner-alike a p q (λ w. SaysOfWinner Dcc w a s) alike is
conclusion-alike Cprog a p q s alike is = of_winner-alike a p q (λ w. SaysOfWinner Cprog w a s) alike is
conclusion-alike Ccomp a p q s alike is = of_winner-alike a p q (λ w. SaysOfWinner Ccomp w a s) alike is
conclusion-alike Neut a p q s alike is = of_winner-alike a p q (λ w. SaysOfWinner Neut w a s) alike is

-- ---- what can't be false is true
winner_surely : (e : Election) (Says : ℕ → Type 0) → ((w : ℕ) → Surely (Says w) → Says w) → Surely (OfWinner e Says)
    → OfWinner e Says
winner_surely e Says each sure w winner = each w (surely (λ (says : OfWinner e Says). says w winner) sure)

pub on_one_surely : (prop : Prop) (e : Election) (s : Split) → Surely (ConclusionOnOne prop e s)
    → ConclusionOnOne prop e s
on_one_surely Ne e s sure = set_surely _ _ sure
on_one_surely Ea e s sure = set_surely _ _ sure
on_one_surely El e s sure = not_surely sure
on_one_surely (Defers k) e s sure = number_surely _ _ sure
on_one_surely (Rejects k) e s sure = number_surely _ _ sure
on_one_surely (Elim k) e s sure = number_surely _ _ sure
on_one_surely Nb e s sure = not_surely sure
on_one_surely Decr e s sure = not_surely sure
on_one_surely Dli e s sure = λ w winner. tt
on_one_surely Imono e s sure = λ w winner. tt
on_one_surely Dimono e s sure = λ w winner. tt
on_one_surely Dmono e s sure = λ w winner. tt
on_one_surely Mono e s sure = λ w winner. tt
on_one_surely Cc e s sure = winner_surely e (λ w. SaysOfWinner Cc w e.members s) (λ w. split_surely _ _) sure
on_one_surely Dcc e s sure = winner_surely e (λ w. SaysOfWinner Dcc w e.members s) (λ w. split_surely _ _) sure
on_one_surely Cprog e s sure = winner_surely e (λ w. SaysOfWinner Cprog w e.members s)
    (λ w. progress_surely w e.members s) sure
on_one_surely Ccomp e s sure = winner_surely e (λ w. SaysOfWinner Ccomp w e.members s)
    (λ w. compatible_surely w e.members s) sure
on_one_surely Neut e s sure = λ w winner. tt

pub on_lift_surely : (prop : Prop) (x : ℕ) (s t : Split) → Surely (ConclusionOnLift prop x s t)
    → ConclusionOnLift prop x s t
on_lift_surely Dli x s t sure = split_surely t s sure
on_lift_surely Imono x s t sure = stays_surely x _ _ sure
on_lift_surely Dimono x s t sure = (
  set_surely s.elected set.empty (surely (λ (is : ConclusionOnLift Dimono x s t). is.0) sure),
  λ deferred. stays_surely x _ _ (surely (λ (is : ConclusionOnLift Dimono x s t). is.1 deferred) sure),
)
on_lift_surely Dmono x s t sure = true_surely _ sure
on_lift_surely Mono x s t sure = true_surely _ sure
on_lift_surely Ne x s t sure = tt
on_lift_surely Ea x s t sure = tt
on_lift_surely El x s t sure = tt
on_lift_surely (Defers k) x s t sure = tt
on_lift_surely (Rejects k) x s t sure = tt
on_lift_surely (Elim k) x s t sure = tt
on_lift_surely Nb x s t sure = tt
on_lift_surely Decr x s t sure = tt
on_lift_surely Cc x s t sure = tt
on_lift_surely Dcc x s t sure = tt
on_lift_surely Cprog x s t sure = tt
on_lift_surely Ccomp x s t sure = tt
on_lift_surely Neut x s t sure = tt

-- ---- chains
-- where the premise is true, so is the conclusion
abbrev pub Says : Prop → ℕ → Split → Split → Type 0
Says prop x s t = PremiseOnLift prop x s → ConclusionOnLift prop x s t

still_in : (x : ℕ) (before after : Set) → StaysOrBecomes x before after → set.contains before x ≡ true
    → set.contains after x ≡ true
still_in x before after (inl stays) inside = ap (λ a. set.contains a x) stays ∙ inside
still_in x before after (inr becomes) inside = ap (λ a. set.contains a x) becomes ∙ contains-insert-same set.empty x

stays_after : (x : ℕ) (first second third : Set) → StaysOrBecomes x first second → StaysOrBecomes x second third
    → StaysOrBecomes x first third
stays_after x first second third (inl stays) (inl stays') = inl (stays' ∙ stays)
stays_after x first second third (inr becomes) (inl stays') = inr (stays' ∙ becomes)
stays_after x first second third one (inr becomes) = inr becomes

pub says-chain : (prop : Prop) (x : ℕ) (s t u : Split) → Says prop x s t → Says prop x t u → Says prop x s u
says-chain Dli x s t u first second deferred =
    second (ap (λ (split : Split). set.contains split.deferred x) (first deferred) ∙ deferred) ∙ first deferred
says-chain Imono x s t u first second elected =
    let one = first elected in
    stays_after x s.elected t.elected u.elected one (second (still_in x s.elected t.elected one elected))
says-chain Dimono x s t u first second premise = (
  (first premise).0,
  λ deferred.
      let one = (first premise).1 deferred in
      let inside = still_in x s.deferred t.deferred one deferred in
      stays_after x s.deferred t.deferred u.deferred one ((second (inl inside)).1 inside),
)
says-chain Dmono x s t u first second deferred = second (first deferred)
says-chain Mono x s t u first second elected = second (first elected)
says-chain Ne x s t u first second premise = tt
says-chain Ea x s t u first second premise = tt
says-chain El x s t u first second premise = tt
says-chain (Defers k) x s t u first second premise = tt
says-chain (Rejects k) x s t u first second premise = tt
says-chain (Elim k) x s t u first second premise = tt
says-chain Nb x s t u first second premise = tt
says-chain Decr x s t u first second premise = tt
says-chain Cc x s t u first second premise = tt
says-chain Dcc x s t u first second premise = tt
says-chain Cprog x s t u first second premise = tt
says-chain Ccomp x s t u first second premise = tt
says-chain Neut x s t u first second premise = tt

-- what is said of the unchanged profile by one alternative is said by each
pub says-unchanged : (prop : Prop) (x y : ℕ) (s : Split) → Says prop y s s → Says prop x s s
says-unchanged Dli x y s says premise = refl
says-unchanged Imono x y s says premise = inl refl
says-unchanged Dimono x y s says premise = (nobody (equal_or_not s.elected set.empty), λ deferred. inl refl)
  where
    nobody : (s.elected ≡ set.empty) ⊎ (s.elected ≢ set.empty) → s.elected ≡ set.empty
    nobody (inl none) = none
    nobody (inr some) = (says (inr some)).0
says-unchanged Dmono x y s says premise = premise
says-unchanged Mono x y s says premise = premise
says-unchanged Ne x y s says premise = tt
says-unchanged Ea x y s says premise = tt
says-unchanged El x y s says premise = tt
says-unchanged (Defers k) x y s says premise = tt
says-unchanged (Rejects k) x y s says premise = tt
says-unchanged (Elim k) x y s says premise = tt
says-unchanged Nb x y s says premise = tt
says-unchanged Decr x y s says premise = tt
says-unchanged Cc x y s says premise = tt
says-unchanged Dcc x y s says premise = tt
says-unchanged Cprog x y s says premise = tt
says-unchanged Ccomp x y s says premise = tt
says-unchanged Neut x y s says premise = tt

-- ---- what a property asks nothing of
pub never_on_one : (prop : Prop) (e : Election) → is_on_lifts prop ≡ true → PremiseOnOne prop e → ⊥
never_on_one Dli e kind premise = premise
never_on_one Imono e kind premise = premise
never_on_one Dimono e kind premise = premise
never_on_one Dmono e kind premise = premise
never_on_one Mono e kind premise = premise
never_on_one Ne e kind premise = true≢false (sym kind)
never_on_one Ea e kind premise = true≢false (sym kind)
never_on_one El e kind premise = true≢false (sym kind)
never_on_one (Defers k) e kind premise = true≢false (sym kind)
never_on_one (Rejects k) e kind premise = true≢false (sym kind)
never_on_one (Elim k) e kind premise = true≢false (sym kind)
never_on_one Nb e kind premise = true≢false (sym kind)
never_on_one Decr e kind premise = true≢false (sym kind)
never_on_one Cc e kind premise = true≢false (sym kind)
never_on_one Dcc e kind premise = true≢false (sym kind)
never_on_one Cprog e kind premise = true≢false (sym kind)
never_on_one Ccomp e kind premise = true≢false (sym kind)
never_on_one Neut e kind premise = true≢false (sym kind)

pub never_on_lift : (prop : Prop) (x : ℕ) (s : Split) → is_on_lifts prop ≡ false → PremiseOnLift prop x s → ⊥
never_on_lift Dli x s kind premise = true≢false kind
never_on_lift Imono x s kind premise = true≢false kind
never_on_lift Dimono x s kind premise = true≢false kind
never_on_lift Dmono x s kind premise = true≢false kind
never_on_lift Mono x s kind premise = true≢false kind
never_on_lift Ne x s kind premise = premise
never_on_lift Ea x s kind premise = premise
never_on_lift El x s kind premise = premise
never_on_lift (Defers k) x s kind premise = premise
never_on_lift (Rejects k) x s kind premise = premise
never_on_lift (Elim k) x s kind premise = premise
never_on_lift Nb x s kind premise = premise
never_on_lift Decr x s kind premise = premise
never_on_lift Cc x s kind premise = premise
never_on_lift Dcc x s kind premise = premise
never_on_lift Cprog x s kind premise = premise
never_on_lift Ccomp x s kind premise = premise
never_on_lift Neut x s kind premise = premise
