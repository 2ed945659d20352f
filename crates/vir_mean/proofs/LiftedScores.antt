-- What a lift does to scores: that of the lifted alternative doesn't fall, and no other rises.
use Rattle.std.proofs.Common.{◌≡◌, ◌≢◌, ◌⊎◌, inl, inr, ℕ, ◌<◌, ◌≤◌, Bool, true, false, true≢false, not, ◌||◌, ◌&&◌}
use Rattle.std.proofs.Common.{nat_eq, nat_lt, List, refl, sym, ap, ap₂, ◌∙◌, subst, arith, eqb-true, pos, ◌-ℤ◌, ◌≤ℤ◌}
use Rattle.std.proofs.Common.{◌<ℤ◌, int_lt}
use Rattle.std.proofs.lemmas.Bool.Decides.{nat_tests}
use Rattle.std.proofs.lemmas.Int.{ints}
use Rattle.std.specs.FinSet as set
use Rattle.vir_altset.specs.Sets.{Set, IsPart}
use Rattle.vir_altset.specs.SetLaws.{contains-remove}
use Rattle.vir_altset.specs.Splits.{bit}
use Rattle.vir_altset.proofs.SizeLaws.{len-part, whole_part}
use Rattle.vir_profile.specs.declared.ballot.Entry.{Entry}
use Rattle.vir_profile.specs.Profiles.{IsProfileOn, pairwise_weight}
use Rattle.vir_profile.specs.Winners.{IsCondorcetWinner}
use Rattle.vir_term.specs.declared.score.Score.{Score}
use Rattle.vir_term.specs.declared.score.Score.TheVariants.{Plurality, Borda, Copeland, Minimax, Condorcet}
use Rattle.vir_mean.specs.Eliminators.{is_passed}
use Rattle.vir_mean.specs.Lifts.{Lifts}
use Rattle.vir_mean.specs.Listings.{others}
use Rattle.vir_mean.specs.Scores.{beats, beats_all, score}
use Rattle.vir_mean.proofs.EliminatedSplits.{retain_same}
use Rattle.vir_mean.proofs.MemberCounts.{often, in_items, finds, total_same}
use Rattle.vir_mean.proofs.MemberListings.{others_list}
use Rattle.vir_mean.proofs.ScoreComparisons.{total-no_less, total-greater, least-no_less, list_all-weaker}
use Rattle.vir_mean.proofs.ScoreComparisons.{list_all-each, retain-weaker, retain-tells}
use Rattle.vir_mean.proofs.LiftedWeights.{lifted_first_weight, other_first_weight, moved_first_weight}
use Rattle.vir_mean.proofs.LiftedWeights.{pairwise_weight-of_lifted, pairwise_weight-against_lifted}
use Rattle.vir_mean.proofs.LiftedWeights.{pairwise_weight-against_other, pairwise_weight-of_other}
use Rattle.vir_mean.proofs.LiftedWeights.{pairwise_weight-between_others, moved_pairwise_weight}

-- ---- numbers as whole numbers
up : {m n : ℕ} → m ≤ n → pos m ≤ℤ pos n
up no_less = omega (arith, ints)

up_bit : (b c : Bool) → (b ≡ true → c ≡ true) → pos (bit b) ≤ℤ pos (bit c)
up_bit b c implied = up (step b c implied)
  where
    step : (b c : Bool) → (b ≡ true → c ≡ true) → bit b ≤ bit c
    step b c implied = grind arith

up_gap : (k l m n : ℕ) → k ≤ m → n ≤ l → (pos k -ℤ pos l) ≤ℤ (pos m -ℤ pos n)
up_gap k l m n more fewer = omega (arith, ints)

strictly_up : {m n : ℕ} → m < n → pos m <ℤ pos n
strictly_up greater = omega (arith, ints)

other : (x y : ℕ) → y ≢ x → nat_eq x y ≡ false
other x y apart = grind (arith, nat_tests)

-- who has more for it and fewer against it beats whom it beat
stronger : (k l m n : ℕ) → k ≤ m → n ≤ l → nat_lt l k ≡ true → nat_lt n m ≡ true
stronger k l m n more fewer less = grind (arith, nat_tests)

implied_or : (b c d : Bool) → (c ≡ true → d ≡ true) → (b || c) ≡ true → (b || d) ≡ true
implied_or b c d implied one = grind arith

module _ (a : Set) (p q : List Entry) (x : ℕ) (on : IsProfileOn a p) (on_after : IsProfileOn a q)
    (inside : set.contains a x ≡ true) (lifted : Lifts x p q) where
  of_lifted : (y : ℕ) → pairwise_weight p x y ≤ pairwise_weight q x y
  of_lifted = pairwise_weight-of_lifted a p q x on on_after inside lifted

  against_lifted : (y : ℕ) → pairwise_weight q y x ≤ pairwise_weight p y x
  against_lifted = pairwise_weight-against_lifted a p q x on on_after inside lifted

  of_other : (y z : ℕ) → nat_eq x y ≡ false → pairwise_weight q y z ≤ pairwise_weight p y z
  of_other = pairwise_weight-of_other a p q x on on_after inside lifted

  against_other : (y z : ℕ) → nat_eq x y ≡ false → pairwise_weight p z y ≤ pairwise_weight q z y
  against_other = pairwise_weight-against_other a p q x on on_after inside lifted

  -- ---- who beats whom
  -- whom x beat, it beats
  pub lifted_beats : (y : ℕ) → beats p x y ≡ true → beats q x y ≡ true
  lifted_beats y = stronger _ _ _ _ (of_lifted y) (against_lifted y)

  -- who beats x, beat it
  pub lifted_is_beaten : (y : ℕ) → beats q y x ≡ true → beats p y x ≡ true
  lifted_is_beaten y = stronger _ _ _ _ (against_lifted y) (of_lifted y)

  -- whom another beats, it beat
  pub other_beats : (y : ℕ) → nat_eq x y ≡ false → (z : ℕ) → beats q y z ≡ true → beats p y z ≡ true
  other_beats y apart z = stronger _ _ _ _ (of_other y z apart) (against_other y z apart)

  -- who beat another, beats it
  pub other_is_beaten : (y : ℕ) → nat_eq x y ≡ false → (z : ℕ) → beats p z y ≡ true → beats q z y ≡ true
  other_is_beaten y apart z = stronger _ _ _ _ (against_other y z apart) (of_other y z apart)

  -- between two others nothing changes
  pub others_beat : (y z : ℕ) → nat_eq x y ≡ false → nat_eq x z ≡ false → beats q y z ≡ beats p y z
  others_beat y z not_y not_z = ap₂ nat_lt (same z y not_z not_y) (same y z not_y not_z)
    where
      same : (y z : ℕ) → nat_eq x y ≡ false → nat_eq x z ≡ false → pairwise_weight q y z ≡ pairwise_weight p y z
      same = pairwise_weight-between_others a p q x on on_after inside lifted

  lifted_beats_all : beats_all x a p ≡ true → beats_all x a q ≡ true
  lifted_beats_all = list_all-weaker _ _ (set.items a) (λ y. implied_or (nat_eq y x) (beats p x y) (beats q x y)
      (lifted_beats y))

  other_beats_all : (y : ℕ) → nat_eq x y ≡ false → beats_all y a q ≡ true → beats_all y a p ≡ true
  other_beats_all y apart = list_all-weaker _ _ (set.items a) (λ z. implied_or (nat_eq z y) (beats q y z) (beats p y z)
      (other_beats y apart z))

  -- ---- the scores
  pub lifted_score_never_falls : (s : Score) → score s a p x ≤ℤ score s a q x
  lifted_score_never_falls Plurality = up (lifted_first_weight a p q x on on_after inside lifted)
  lifted_score_never_falls Borda = up (total-no_less _ _ (others x a) of_lifted)
  lifted_score_never_falls Copeland = up_gap _ _ _ _ (len-part _ _ (retain-weaker a _ _ lifted_beats))
      (len-part _ _ (retain-weaker a _ _ lifted_is_beaten))
  lifted_score_never_falls Minimax = up (least-no_less _ _ (others x a) of_lifted)
  lifted_score_never_falls Condorcet = up_bit _ _ lifted_beats_all

  other_score : (s : Score) (y : ℕ) → nat_eq x y ≡ false → score s a q y ≤ℤ score s a p y
  other_score Plurality y apart = up (other_first_weight a p q x on on_after inside lifted y apart)
  other_score Borda y apart = up (total-no_less _ _ (others y a) (λ z. of_other y z apart))
  other_score Copeland y apart = up_gap _ _ _ _ (len-part _ _ (retain-weaker a _ _ (other_beats y apart)))
      (len-part _ _ (retain-weaker a _ _ (other_is_beaten y apart)))
  other_score Minimax y apart = up (least-no_less _ _ (others y a) (λ z. of_other y z apart))
  other_score Condorcet y apart = up_bit _ _ (other_beats_all y apart)

  pub no_other_score_rises : (s : Score) (y : ℕ) → set.contains a y ≡ true → y ≢ x → score s a q y ≤ℤ score s a p y
  no_other_score_rises s y member apart = other_score s y (other x y apart)

  -- ---- where another's score changes
  -- x's first places rise with it
  pub moved_plurality : (y : ℕ) → set.contains a y ≡ true → y ≢ x → score Plurality a q y ≢ score Plurality a p y
      → score Plurality a p x <ℤ score Plurality a q x
  moved_plurality y member apart moved = strictly_up (moved_first_weight a p q x on on_after inside lifted y
      (other x y apart) (λ e. moved (ap pos e)))

  -- another of the set than x stands among the others
  among_others : (y : ℕ) → set.contains a y ≡ true → nat_eq x y ≡ false → 0 < often y (others x a)
  among_others y member apart = step (nat_eq x y) (nat_eq y x) (set.contains a y) (often y (others x a)) turn
      ((others_list a x).each y ∙ ap bit (contains-remove a x y)) member apart
    where
      step : (e f b : Bool) (n : ℕ) → e ≡ f → n ≡ bit (not f && b) → b ≡ true → e ≡ false → 0 < n
      step e f b n same is member apart = grind arith

      turn : nat_eq x y ≡ nat_eq y x
      turn = grind (arith, nat_tests)

  pub moved_borda : (y : ℕ) → set.contains a y ≡ true → y ≢ x → score Borda a q y ≢ score Borda a p y
      → score Borda a p x <ℤ score Borda a q x
  moved_borda y member apart moved =
      strictly_up (total-greater _ _ (others x a) y of_lifted (among_others y member (other x y apart))
      (moved_pairwise_weight a p q x on on_after inside lifted y (other x y apart) differ))
    where
      each : pairwise_weight q y x ≡ pairwise_weight p y x → (z : ℕ) → pairwise_weight q y z ≡ pairwise_weight p y z
      each same z = elim (nat_eq x z) as (λ b. nat_eq x z ≡ b → pairwise_weight q y z ≡ pairwise_weight p y z) [
        | true ↦ λ e. subst (λ z. pairwise_weight q y z ≡ pairwise_weight p y z) (eqb-true x z e) same
        | false ↦ λ e. pairwise_weight-between_others a p q x on on_after inside lifted y z (other x y apart) e
      ] refl

      differ : pairwise_weight q y x ≢ pairwise_weight p y x
      differ same =
          moved (ap pos (total_same (pairwise_weight q y) (pairwise_weight p y) (others y a) (λ z some. each same z)))

  pub moved_copeland : (y : ℕ) → set.contains a y ≡ true → y ≢ x → score Copeland a q y ≢ score Copeland a p y
      → score Copeland a p x <ℤ score Copeland a q x
  moved_copeland y member apart moved = step _ _ _ _ (len-part _ _ more) (len-part _ _ fewer)
      (λ e f. moved (unchanged (whole_part _ _ more (at_most e)) (whole_part _ _ fewer (at_most f))))
    where
      more : IsPart (set.retain a (beats p x)) (set.retain a (beats q x))
      more = retain-weaker a _ _ lifted_beats

      fewer : IsPart (set.retain a (λ z. beats q z x)) (set.retain a (λ z. beats p z x))
      fewer = retain-weaker a _ _ lifted_is_beaten

      at_most : {m n : ℕ} → m ≡ n → m ≤ n
      at_most same = omega arith

      step : (k l m n : ℕ) → k ≤ m → n ≤ l → (m ≡ k → l ≡ n → ⊥) → (pos k -ℤ pos l) <ℤ (pos m -ℤ pos n)
      step k l m n most least differ = elim (nat_eq m k) as (λ b. nat_eq m k ≡ b
          → (pos k -ℤ pos l) <ℤ (pos m -ℤ pos n)) [
            | true ↦ λ e. let same = eqb-true m k e in let apart : l ≢ n = differ same in omega (arith, ints)
            | false ↦ λ e. let apart = differs m k e in omega (arith, ints)
          ] refl
        where
          differs : (m k : ℕ) → nat_eq m k ≡ false → m ≢ k
          differs m k e = grind (arith, nat_tests)

      each : (t u : ℕ → Bool) → t x ≡ u x → ((z : ℕ) → nat_eq x z ≡ false → t z ≡ u z) → (z : ℕ) → t z ≡ u z
      each t u here there z = elim (nat_eq x z) as (λ b. nat_eq x z ≡ b → t z ≡ u z) [
        | true ↦ λ e. subst (λ z. t z ≡ u z) (eqb-true x z e) here
        | false ↦ λ e. there z e
      ] refl

      unchanged : set.retain a (beats p x) ≡ set.retain a (beats q x) → set.retain a (λ z. beats q z x)
          ≡ set.retain a (λ z. beats p z x) → score Copeland a q y ≡ score Copeland a p y
      unchanged won lost = ap₂ (λ s t. pos (set.len s) -ℤ pos (set.len t))
          (retain_same a (beats q y) (beats p y) (λ z _. each (beats q y) (beats p y) (retain-tells a (λ z. beats q z x)
          (λ z. beats p z x) y member lost) (λ z e. others_beat y z (other x y apart) e) z))
          (retain_same a (λ z. beats q z y) (λ z. beats p z y) (λ z _. each (λ z. beats q z y) (λ z. beats p z y)
          (sym (retain-tells a (beats p x) (beats q x) y member won)) (λ z e. others_beat z y e (other x y apart))
          z))

  -- where none has a greater Condorcet score than x, all keep theirs, or x is the Condorcet winner
  pub lifted_leader_by_condorcet_score : is_passed (score Condorcet a p) a x ≡ false
      → ((y : ℕ) → set.contains a y ≡ true → score Condorcet a q y ≡ score Condorcet a p y) ⊎ IsCondorcetWinner x a q
  lifted_leader_by_condorcet_score leads = elim (beats_all x a q) as (λ b. beats_all x a q ≡ b
      → ((y : ℕ) → set.contains a y ≡ true → score Condorcet a q y ≡ score Condorcet a p y) ⊎ IsCondorcetWinner x a q) [
        | true ↦ λ e.
            inr
            (record {
              member = inside;
              wins = λ y member apart. wins (nat_eq y x) _ _ (other y x (λ same. apart (sym same)))
                  (list_all-each _ (set.items a) e y (sym (in_items a y) ∙ member));
            })
        | false ↦ λ e. inl (λ y member. ap (λ b. pos (bit b)) (same e y member))
      ] refl
    where
      wins : (same : Bool) (m n : ℕ) → same ≡ false → (same || nat_lt m n) ≡ true → m < n
      wins same m n apart one = grind (arith, nat_tests)

      before : beats_all x a q ≡ false → beats_all x a p ≡ false
      before e = step _ _ lifted_beats_all e
        where
          step : (b c : Bool) → (b ≡ true → c ≡ true) → c ≡ false → b ≡ false
          step b c implied fails = grind arith

      nobody : beats_all x a q ≡ false → (y : ℕ) → set.contains a y ≡ true → beats_all y a p ≡ true → ⊥
      nobody e y member f =
          true≢false (sym (finds (λ z. int_lt (score Condorcet a p x) (score Condorcet a p z)) (set.items a) y
          (sym (in_items a y) ∙ member) (ap₂ (λ b c. int_lt (pos (bit b)) (pos (bit c))) (before e) f)) ∙ leads)

      same : beats_all x a q ≡ false → (y : ℕ) → set.contains a y ≡ true → beats_all y a q ≡ beats_all y a p
      same e y member = elim (nat_eq x y) as (λ b. nat_eq x y ≡ b → beats_all y a q ≡ beats_all y a p) [
        | true ↦ λ f. subst (λ z. beats_all z a q ≡ beats_all z a p) (eqb-true x y f) (e ∙ sym (before e))
        | false ↦ λ f. step _ _ (other_beats_all y f) (nobody e y member)
      ] refl
        where
          step : (b c : Bool) → (b ≡ true → c ≡ true) → (c ≡ true → ⊥) → b ≡ c
          step true c implied fails = absurd (fails (implied refl))
          step false true implied fails = absurd (fails refl)
          step false false implied fails = refl
