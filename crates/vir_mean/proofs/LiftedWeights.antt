-- What a lift does to the numbers of voters who put one alternative first, or before another.
use Rattle.std.proofs.Common.{◌≡◌, ◌≢◌, ℕ, ◌+◌, ◌<◌, ◌≤◌, Bool, true, false, cond, nat_eq, List, [], ◌∷◌, refl, ap, ◌∙◌}
use Rattle.std.proofs.Common.{subst, arith, eqb-true}
use Rattle.std.proofs.lemmas.List.Elements.{All-head, All-tail}
use Rattle.std.proofs.lemmas.List.Sums.{sum_by-cons}
use Rattle.std.specs.FinSet as set
use Rattle.vir_altset.specs.Sets.{Set}
use Rattle.vir_altset.specs.Splits.{bit}
use Rattle.vir_profile.specs.declared.ballot.Entry.{Entry}
use Rattle.vir_profile.specs.Orders.{IsListing, puts_before, begins_with}
use Rattle.vir_profile.specs.Profiles.{IsProfileOn, weight_where, pairwise_weight, first_weight}
use Rattle.vir_mean.specs.Lifts.{Raises, Lifts}
use Rattle.vir_mean.proofs.LiftedOrders.{line_begins, line_begins_no_more, line_begins_with_either, line_puts_before}
use Rattle.vir_mean.proofs.LiftedOrders.{line_puts_no_more_before, line_puts_either, puts_before-itself}

-- the first line counts where its order passes
weight_where-cons : (test : List ℕ → Bool) (line : Entry) (lines : List Entry) → weight_where test (line ∷ lines)
    ≡ cond (test line.order) line.weight 0 + weight_where test lines
weight_where-cons test line lines = sum_by-cons (λ (line : Entry). cond (test line.order) line.weight 0) line lines

-- the test of no order
abbrev never : List ℕ → Bool
never order = false

weight_where-never : (lines : List Entry) → weight_where never lines ≡ 0
weight_where-never [] = refl
weight_where-never (line ∷ lines) = let first = weight_where-cons never line lines in let rest = weight_where-never
    lines in omega arith

-- nobody puts an alternative before itself
pub pairwise_weight-itself : (lines : List Entry) (x : ℕ) → pairwise_weight lines x x ≡ 0
pairwise_weight-itself [] x = refl
pairwise_weight-itself (line ∷ lines) x =
    weight_where-cons (puts_before x x) line lines ∙ ap (λ b. cond b line.weight 0 + pairwise_weight lines x x)
    (puts_before-itself x line.order)
    ∙ (let rest = pairwise_weight-itself lines x in omega arith)

module _ (a : Set) (x : ℕ) where
  -- two tests together pass no less often after a lift of x
  abbrev PassNoLess : (s t s' t' : List ℕ → Bool) → Type 0
  PassNoLess s t s' t' =
      (before after : Entry) → IsListing a before.order → IsListing a after.order → Raises x before after
      → bit (s before.order) + bit (t before.order) ≤ bit (s' after.order) + bit (t' after.order)

  weight_where-no_less : (s t s' t' : List ℕ → Bool) → PassNoLess s t s' t' → (p q : List Entry) → IsProfileOn a p
      → IsProfileOn a q → Lifts x p q
      → weight_where s p + weight_where t p ≤ weight_where s' q + weight_where t' q
  weight_where-no_less s t s' t' pass [] [] on on_after lifted = omega arith
  weight_where-no_less s t s' t' pass (before ∷ p) (after ∷ q) on on_after lifted =
      rw (
        weight_where-cons s before p,
        weight_where-cons t before p,
        weight_where-cons s' after q,
        weight_where-cons t'
            after q,
      )
      (step _ _ _ _ _ _ _ _ _ _ lifted.0.agrees.weight
      (pass before after (All-head (λ line. IsListing a line.order) before p on)
      (All-head (λ line. IsListing a line.order) after q on_after) lifted.0)
      (weight_where-no_less s t s' t' pass p q (All-tail (λ line. IsListing a line.order) before p on)
      (All-tail (λ line. IsListing a line.order) after q on_after) lifted.1))
    where
      step : (v w k l m n : ℕ) (b c d e : Bool) → v ≡ w → bit b + bit c ≤ bit d + bit e → k + l ≤ m + n
          → (cond b v 0 + k) + (cond c v 0 + l) ≤ (cond d w 0 + m) + (cond e w 0 + n)
      step v w k l m n b c d e is few rest = grind arith
  weight_where-no_less s t s' t' pass [] (after ∷ q) on on_after lifted = absurd lifted
  weight_where-no_less s t s' t' pass (before ∷ p) [] on on_after lifted = absurd lifted

  -- a test passes no more often after a lift of x
  abbrev PassesNoMore : (List ℕ → Bool) → Type 0
  PassesNoMore t = (before after : Entry) → IsListing a before.order → IsListing a after.order → Raises x before after
      → bit (t after.order) ≤ bit (t before.order)

  weight_where-no_more : (t : List ℕ → Bool) → PassesNoMore t → (p q : List Entry) → IsProfileOn a p → IsProfileOn a q
      → Lifts x p q → weight_where t q ≤ weight_where t p
  weight_where-no_more t pass [] [] on on_after lifted = omega arith
  weight_where-no_more t pass (before ∷ p) (after ∷ q) on on_after lifted =
      rw (weight_where-cons t before p, weight_where-cons t after q)
      (step _ _ _ _ _ _ lifted.0.agrees.weight
      (pass before after (All-head (λ line. IsListing a line.order) before p on)
      (All-head (λ line. IsListing a line.order) after q on_after) lifted.0)
      (weight_where-no_more t pass p q (All-tail (λ line. IsListing a line.order) before p on)
      (All-tail (λ line. IsListing a line.order) after q on_after) lifted.1))
    where
      step : (v w m n : ℕ) (b c : Bool) → v ≡ w → bit c ≤ bit b → n ≤ m → cond c w 0 + n ≤ cond b v 0 + m
      step v w m n b c is few rest = grind arith
  weight_where-no_more t pass [] (after ∷ q) on on_after lifted = absurd lifted
  weight_where-no_more t pass (before ∷ p) [] on on_after lifted = absurd lifted

module _ (a : Set) (p q : List Entry) (x : ℕ) (on : IsProfileOn a p) (on_after : IsProfileOn a q)
    (inside : set.contains a x ≡ true) (lifted : Lifts x p q) where
  alone : (t : List ℕ → Bool) → ((before after : Entry) → IsListing a before.order → IsListing a after.order
      → Raises x before after → bit (t before.order) ≤ bit (t after.order)) → weight_where t p ≤ weight_where t q
  alone t pass =
      let both = weight_where-no_less a x t never t never (λ before after lists lists_after raised. let one =
      pass before after lists lists_after raised in omega arith) p q on on_after lifted in
      let none = weight_where-never p in
      let none_after = weight_where-never q in
      omega arith

  -- as many voters put x first, or more
  pub lifted_first_weight : first_weight p x ≤ first_weight q x
  lifted_first_weight = alone (begins_with x) (λ before after lists lists_after raised. line_begins a x inside before
      after lists lists_after raised)

  -- as many put another first, or fewer
  pub other_first_weight : (y : ℕ) → nat_eq x y ≡ false → first_weight q y ≤ first_weight p y
  other_first_weight y apart = weight_where-no_more a x (begins_with y) (λ before after lists lists_after raised.
      line_begins_no_more a x inside before after lists lists_after raised y apart) p q on on_after lifted

  -- those who don't put y first any more put x first
  pub moved_first_weight : (y : ℕ) → nat_eq x y ≡ false → first_weight q y ≢ first_weight p y
      → first_weight p x < first_weight q x
  moved_first_weight y apart moved =
      let both = weight_where-no_less a x (begins_with x) (begins_with y) (begins_with x) (begins_with y)
      (λ before after lists lists_after raised. line_begins_with_either a x inside before after lists lists_after
      raised y apart) p q on on_after lifted in
      let fewer = other_first_weight y apart in
      omega arith

  -- against another than x as many voters put anything before it, or more
  pub pairwise_weight-against_other : (y z : ℕ) → nat_eq x y ≡ false → pairwise_weight p z y ≤ pairwise_weight q z y
  pairwise_weight-against_other y z apart = alone (puts_before z y) (λ before after lists lists_after raised.
      line_puts_before a x inside before after lists lists_after raised y apart z)

  -- and as many put it before anything, or fewer
  pub pairwise_weight-of_other : (y z : ℕ) → nat_eq x y ≡ false → pairwise_weight q y z ≤ pairwise_weight p y z
  pairwise_weight-of_other y z apart = weight_where-no_more a x (puts_before y z)
      (λ before after lists lists_after raised. line_puts_no_more_before a x inside before after lists lists_after
      raised y apart z) p q on on_after lifted

  -- so x itself is put before anything by as many, or more
  pub pairwise_weight-of_lifted : (y : ℕ) → pairwise_weight p x y ≤ pairwise_weight q x y
  pairwise_weight-of_lifted y = elim (nat_eq x y) as (λ b. nat_eq x y ≡ b → pairwise_weight p x y ≤ pairwise_weight q x
      y) [
        | true ↦ λ e. subst (λ z. pairwise_weight p x z ≤ pairwise_weight q x z) (eqb-true x y e)
            (let none = pairwise_weight-itself p x in omega arith)
        | false ↦ λ e. pairwise_weight-against_other y x e
      ] refl

  pub pairwise_weight-against_lifted : (y : ℕ) → pairwise_weight q y x ≤ pairwise_weight p y x
  pairwise_weight-against_lifted y = elim (nat_eq x y) as (λ b. nat_eq x y ≡ b → pairwise_weight q y x ≤ pairwise_weight
      p y x) [
        | true ↦ λ e. subst (λ z. pairwise_weight q z x ≤ pairwise_weight p z x) (eqb-true x y e)
            (let none = pairwise_weight-itself q x in omega arith)
        | false ↦ λ e. pairwise_weight-of_other y x e
      ] refl

  -- between two others nothing changes
  pub pairwise_weight-between_others : (y z : ℕ) → nat_eq x y ≡ false → nat_eq x z ≡ false → pairwise_weight q y z
      ≡ pairwise_weight p y z
  pairwise_weight-between_others y z not_y not_z =
      let most = pairwise_weight-of_other y z not_y in
      let least = pairwise_weight-against_other z y not_z in
      omega arith

  -- those who don't put y before x any more put x before y
  pub moved_pairwise_weight : (y : ℕ) → nat_eq x y ≡ false → pairwise_weight q y x ≢ pairwise_weight p y x
      → pairwise_weight p x y < pairwise_weight q x y
  moved_pairwise_weight y apart moved =
      let both = weight_where-no_less a x (puts_before x y) (puts_before y x) (puts_before x y) (puts_before y x)
      (λ before after lists lists_after raised. line_puts_either a x inside before after lists lists_after raised y
      apart) p q on on_after lifted in
      let fewer = pairwise_weight-of_other y x apart in
      omega arith
