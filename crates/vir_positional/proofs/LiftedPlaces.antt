-- What a lift does to places, and so to positional scores.
use Rattle.std.proofs.Common.{◌≡◌, ◌≢◌, ℕ, suc, ◌+◌, ◌*◌, ◌≤◌, Bool, true, false, cond, not, nat_eq, nat_le, List}
use Rattle.std.proofs.Common.{[], ◌∷◌, refl, sym, ap, ◌∙◌, arith, pos, ◌≤ℤ◌}
use Rattle.std.proofs.Math.Nat.{mul-le-mul_left}
use Rattle.std.proofs.lemmas.Bool.Decides.{nat_tests}
use Rattle.std.proofs.lemmas.Int.{ints}
use Rattle.std.proofs.lemmas.List.Elements.{All-head, All-tail}
use Rattle.std.specs.FinSet as set
use Rattle.vir_altset.specs.Sets.{Set}
use Rattle.vir_altset.specs.Splits.{bit}
use Rattle.vir_profile.specs.declared.ballot.Entry.{Entry}
use Rattle.vir_profile.specs.Orders.{IsListing}
use Rattle.vir_profile.specs.Profiles.{IsProfileOn}
use Rattle.vir_mean.specs.FixedOrders.{place}
use Rattle.vir_mean.specs.Lifts.{without, Raises, Lifts}
use Rattle.vir_mean.proofs.MemberCounts.{often, lists_of}
use Rattle.vir_positional.specs.declared.weight_form.WeightForm.{WeightForm}
use Rattle.vir_positional.specs.Positional.{weighed, positional}
use Rattle.vir_positional.specs.Weights.{weight_of, IsForm}
use Rattle.vir_mean.proofs.Leaders.{IsLift}
use Rattle.vir_positional.proofs.WeighedLines.{weighed-cons}
use Rattle.vir_positional.proofs.WeightLaws.{weight-falls}

-- an order without what doesn't stand in it keeps all places
place-without_none : (x y : ℕ) (order : List ℕ) → often x order ≡ 0 → place y (without x order) ≡ place y order
place-without_none x y [] none = refl
place-without_none x y (z ∷ rest) none = step (nat_eq x z) (nat_eq y z) (without x rest) none refl
    (place-without_none x y rest)
  where
    step : (b e : Bool) (others : List ℕ) → bit b + often x rest ≡ 0 → e ≡ nat_eq y z
        → (often x rest ≡ 0 → place y others ≡ place y rest)
        → place y (cond (not b) (z ∷ others) others) ≡ cond e 0 (suc (place y rest))
    step true e others none is same = absurd (omega arith)
    step false e others none is same = ap (λ t. cond t 0 (suc (place y others))) (sym is) ∙ ap (λ k. cond e 0 (suc k))
        (same (plain (often x rest) none))
      where
        plain : (n : ℕ) → 0 + n ≡ 0 → n ≡ 0
        plain n h = omega arith

-- another stands behind as many of the others as before, and behind x where x stands before it
place-beside : (x y : ℕ) → nat_eq x y ≡ false → (order : List ℕ) → often x order ≡ 1
    → place y order ≡ place y (without x order) + bit (nat_le (place x order) (place y (without x order)))
place-beside x y apart [] once = absurd (omega arith)
place-beside x y apart (z ∷ rest) once =
    step (nat_eq x z) (nat_eq y z) (without x rest) (place x rest) (place y rest) (once) (both x y z apart) refl
    (place-without_none x y rest) (place-beside x y apart rest)
  where
    both : (x y z : ℕ) → nat_eq x y ≡ false → nat_eq x z ≡ true → nat_eq y z ≡ false
    both x y z apart e = grind (arith, nat_tests)

    step : (b e : Bool) (others : List ℕ) (px py : ℕ) → bit b + often x rest ≡ 1 → (b ≡ true → e ≡ false) → e
        ≡ nat_eq y z
        → (often x rest ≡ 0 → place y others ≡ py) → (often x rest ≡ 1 → py ≡ place y others
        + bit (nat_le px (place y others)))
        → cond e 0 (suc py) ≡ place y (cond (not b) (z ∷ others) others)
        + bit (nat_le (cond b 0 (suc px)) (place y (cond (not b) (z ∷ others) others)))
    step true e others px py once not_y is none later = front e py (place y others) (not_y refl) (none (omega arith))
      where
        front : (e : Bool) (py po : ℕ) → e ≡ false → po ≡ py → cond e 0 (suc py) ≡ po + bit (nat_le 0 po)
        front e py po h same = grind (arith, nat_tests)
    step false e others px py once not_y is none later =
        behind e py px (place y others) (later (omega arith)) ∙ ap (λ k. k + bit (nat_le (suc px) k))
        (ap (λ t. cond t 0 (suc (place y others))) is)
      where
        behind : (e : Bool) (py px po : ℕ) → py ≡ po + bit (nat_le px po) → cond e 0 (suc py) ≡ cond e 0 (suc po)
            + bit (nat_le (suc px) (cond e 0 (suc po)))
        behind e py px po h = grind (arith, nat_tests)

module _ (a : Set) (x : ℕ) (inside : set.contains a x ≡ true) where
  once : (order : List ℕ) → IsListing a order → often x order ≡ 1
  once order lists = (lists_of a order lists).each x ∙ ap bit inside

  -- another stands no nearer after a lift
  place-no_nearer : (y : ℕ) → nat_eq x y ≡ false → (before after : Entry) → IsListing a before.order
      → IsListing a after.order → Raises x before after
      → place y before.order ≤ place y after.order
  place-no_nearer y apart before after on on_after raised =
      step _ _ _ _ _ _ (place-beside x y apart before.order (once before.order on)) (place-beside x y apart after.order
      (once after.order on_after)) (ap (place y) raised.agrees.others) raised.nearer
    where
      step : (p q k l m n : ℕ) → p ≡ k + bit (nat_le m k) → q ≡ l + bit (nat_le n l) → k ≡ l → n ≤ m → p ≤ q
      step p q k l m n e f same nearer = grind (arith, nat_tests)

  module _ (f : ℕ → ℕ) (falls : (i j : ℕ) → i ≤ j → f j ≤ f i) where
    -- weights that never rise give the lifted no less
    weighed-of_lifted : (p q : List Entry) → Lifts x p q → weighed f p x ≤ weighed f q x
    weighed-of_lifted [] [] lifted = omega arith
    weighed-of_lifted (before ∷ p) (after ∷ q) lifted =
        step _ _ _ _ _ _ _ _ (weighed-cons f before p x) (weighed-cons f after q x) lifted.0.agrees.weight
        (mul-le-mul_left before.weight (falls (place x after.order) (place x before.order) lifted.0.nearer))
        (weighed-of_lifted p q lifted.1)
      where
        step : (s t v w f g m n : ℕ) → s ≡ v * f + m → t ≡ w * g + n → v ≡ w → v * f ≤ v * g → m ≤ n → s ≤ t
        step s t v w f g m n e h same most rest = let k = ap (λ u. u * g) same in omega arith
    weighed-of_lifted [] (after ∷ q) lifted = absurd lifted
    weighed-of_lifted (before ∷ p) [] lifted = absurd lifted

    -- and another no more
    weighed-of_other : (y : ℕ) → nat_eq x y ≡ false → (p q : List Entry) → IsProfileOn a p → IsProfileOn a q
        → Lifts x p q → weighed f q y ≤ weighed f p y
    weighed-of_other y apart [] [] on on_after lifted = omega arith
    weighed-of_other y apart (before ∷ p) (after ∷ q) on on_after lifted =
        step _ _ _ _ _ _ _ _ (weighed-cons f before p y) (weighed-cons f after q y) lifted.0.agrees.weight
        (mul-le-mul_left before.weight (falls (place y before.order) (place y after.order)
        (place-no_nearer y apart before after (All-head (λ line. IsListing a line.order) before p on)
        (All-head (λ line. IsListing a line.order) after q on_after) lifted.0)))
        (weighed-of_other y apart p q (All-tail (λ line. IsListing a line.order) before p on)
        (All-tail (λ line. IsListing a line.order) after q on_after) lifted.1)
      where
        step : (s t v w f g m n : ℕ) → s ≡ v * f + m → t ≡ w * g + n → v ≡ w → v * g ≤ v * f → n ≤ m → t ≤ s
        step s t v w f g m n e h same most rest = let k = ap (λ u. u * g) same in omega arith
    weighed-of_other y apart [] (after ∷ q) on on_after lifted = absurd lifted
    weighed-of_other y apart (before ∷ p) [] on on_after lifted = absurd lifted

up : {m n : ℕ} → m ≤ n → pos m ≤ℤ pos n
up no_less = omega (arith, ints)

other : (x y : ℕ) → y ≢ x → nat_eq x y ≡ false
other x y apart = grind (arith, nat_tests)

-- a positional score of the lifted doesn't fall, and none of another rises
pub positional_lift : (kept : WeightForm) → IsForm kept → (a : Set) (p q : List Entry) (x : ℕ) → IsProfileOn a p
    → IsProfileOn a q → set.contains a x ≡ true → Lifts x p q
    → IsLift a x (positional kept a p) (positional kept a q)
positional_lift kept is a p q x on on_after inside lifted = record {
  inside = inside;
  rises = up (weighed-of_lifted a x inside (λ i. weight_of kept i (set.len a)) (weight-falls kept is (set.len a)) p q
      lifted);
  falls = λ y member apart. up (weighed-of_other a x inside (λ i. weight_of kept i (set.len a))
      (weight-falls kept is (set.len a)) y (other x y apart) p q on on_after lifted);
}
