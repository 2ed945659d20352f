-- Lifts, restricted to a set.
use Rattle.std.proofs.Common.{◌≡◌, ℕ, zero, suc, ◌≤◌, Bool, true, false, cond, not, nat_eq, List, [], ◌∷◌, length, take}
use Rattle.std.proofs.Common.{filter, refl, sym, ap, ◌∙◌, arith}
use Rattle.std.proofs.lemmas.Bool.Decides.{nat_tests}
use Rattle.std.specs.FinSet as set
use Rattle.vir_altset.specs.Sets.{Set}
use Rattle.vir_profile.specs.declared.ballot.Entry.{Entry}
use Rattle.vir_profile.specs.Profiles.{restrict, restricted_line}
use Rattle.vir_mean.specs.FixedOrders.{place}
use Rattle.vir_mean.specs.Lifts.{without, AgreesBut, Raises, SameBut, Lifts}
use Rattle.vir_mean.proofs.RestrictionLemmas.{filter-filter}

-- ---- one order
-- two tests keep the same, whichever comes first
filter-swap : (t u : ℕ → Bool) (order : List ℕ) → filter t (filter u order) ≡ filter u (filter t order)
filter-swap t u [] = refl
filter-swap t u (y ∷ rest) = step (filter t rest) (filter u rest) (filter-swap t u rest)
  where
    step : (by_t by_u : List ℕ) → filter t by_u ≡ filter u by_t → filter t (cond (u y) (y ∷ by_u) by_u)
        ≡ filter u (cond (t y) (y ∷ by_t) by_t)
    step by_t by_u same = grind arith

-- where x stands in what a test keeps: behind those kept of the first ones of the order without it
place-filter : (t : ℕ → Bool) (x : ℕ) → t x ≡ true → (order : List ℕ) → place x (filter t order)
    ≡ length (filter t (take (place x order) (without x order)))
place-filter t x kept [] = refl
place-filter t x kept (y ∷ rest) = step (place x rest) (filter t rest) (without x rest) (place-filter t x kept rest)
  where
    step : (n : ℕ) (by_t others : List ℕ) → place x by_t ≡ length (filter t (take n others))
        → place x (cond (t y) (y ∷ by_t) by_t)
        ≡ length (filter t (take (cond (nat_eq x y) 0 (suc n)) (cond (not (nat_eq x y)) (y ∷ others) others)))
    step n by_t others is = grind (arith, nat_tests)

-- of fewer first ones no more are kept
take-fewer : (t : ℕ → Bool) (m n : ℕ) (order : List ℕ) → m ≤ n → length (filter t (take m order)) ≤ length
    (filter t (take n order))
take-fewer t zero n order fewer = omega arith
take-fewer t (suc m) zero order fewer = absurd (omega arith)
take-fewer t (suc m) (suc n) [] fewer = omega arith
take-fewer t (suc m) (suc n) (y ∷ rest) fewer = step (take m rest) (take n rest) (take-fewer t m n rest (omega arith))
  where
    step : (some more : List ℕ) → length (filter t some) ≤ length (filter t more) → length (filter t (y ∷ some)) ≤
        length (filter t (y ∷ more))
    step some more fewer = grind arith

module _ (d : Set) (x : ℕ) (before after : Entry) where
  restricted_agrees : AgreesBut x before after → AgreesBut x (restricted_line d before) (restricted_line d after)
  restricted_agrees agrees = record {
    weight = agrees.weight;
    others = filter-swap _ (set.contains d) before.order ∙ ap (filter (set.contains d)) agrees.others
        ∙ sym (filter-swap _ (set.contains d) after.order);
  }

  restricted_raises : set.contains d x ≡ true → Raises x before after → Raises x (restricted_line d before)
      (restricted_line d after)
  restricted_raises inside raised = record {
    agrees = restricted_agrees raised.agrees;
    nearer =
        let stands = place-filter (set.contains d) x inside before.order in
        let stands_after = place-filter (set.contains d) x inside after.order in
        let fewer = take-fewer (set.contains d) (place x after.order) (place x before.order) (without x before.order)
        raised.nearer in
        let same : length (filter (set.contains d) (take (place x after.order) (without x before.order)))
        ≡ length (filter (set.contains d) (take (place x after.order) (without x after.order)))
        = ap (λ order. length (filter (set.contains d) (take (place x after.order) order))) raised.agrees.others in
        omega arith;
  }

  -- a set without x keeps nothing of where x stands
  restricted_same : set.contains d x ≡ false → AgreesBut x before after → restricted_line d before
      ≡ restricted_line d after
  restricted_same outside agrees = λ i. record { weight = agrees.weight i; order = order i }
    where
      others : (order : List ℕ) → filter (set.contains d) (without x order) ≡ filter (set.contains d) order
      others = filter-filter (λ y. not (nat_eq x y)) (set.contains d) (λ y member. step y (set.contains d) outside
          member)
        where
          step : (y : ℕ) (t : ℕ → Bool) → t x ≡ false → t y ≡ true → not (nat_eq x y) ≡ true
          step y t outside member = grind (arith, nat_tests)

      order : filter (set.contains d) before.order ≡ filter (set.contains d) after.order
      order = sym (others before.order) ∙ ap (filter (set.contains d)) agrees.others ∙ others after.order

-- ---- profiles
-- a lift changes nothing but where x stands
pub same_of_lift : (p q : List Entry) (x : ℕ) → Lifts x p q → SameBut x p q
same_of_lift [] [] x lifted = tt
same_of_lift (before ∷ p) (after ∷ q) x lifted = (lifted.0.agrees, same_of_lift p q x lifted.1)
same_of_lift [] (after ∷ q) x lifted = absurd lifted
same_of_lift (before ∷ p) [] x lifted = absurd lifted

-- profiles that are the same but for x are so on each set
pub restricted_same_but : (d : Set) (p q : List Entry) (x : ℕ) → SameBut x p q → SameBut x (restrict d p) (restrict d q)
restricted_same_but d [] [] x same = tt
restricted_same_but d (before ∷ p) (after ∷ q) x same = (
  restricted_agrees d x before after same.0,
  restricted_same_but
      d p q x same.1,
)
restricted_same_but d [] (after ∷ q) x same = absurd same
restricted_same_but d (before ∷ p) [] x same = absurd same

-- a lift of a member of a set is a lift on that set
pub restricted_lift : (d : Set) (p q : List Entry) (x : ℕ) → set.contains d x ≡ true → Lifts x p q
    → Lifts x (restrict d p) (restrict d q)
restricted_lift d [] [] x inside lifted = tt
restricted_lift d (before ∷ p) (after ∷ q) x inside lifted = (
  restricted_raises d x before after inside lifted.0,
  restricted_lift d p q x inside lifted.1,
)
restricted_lift d [] (after ∷ q) x inside lifted = absurd lifted
restricted_lift d (before ∷ p) [] x inside lifted = absurd lifted

-- profiles that are the same but for x are the same on a set without x
pub restriction_without_the_lifted : (d : Set) (p q : List Entry) (x : ℕ) → set.contains d x ≡ false → SameBut x p q
    → restrict d p ≡ restrict d q
restriction_without_the_lifted d [] [] x outside same = refl
restriction_without_the_lifted d (before ∷ p) (after ∷ q) x outside same = λ i. restricted_same d x before after outside
    same.0 i ∷ restriction_without_the_lifted d p q x outside same.1 i
restriction_without_the_lifted d [] (after ∷ q) x outside same = absurd same
restriction_without_the_lifted d (before ∷ p) [] x outside same = absurd same

-- the unchanged profile is a lift
pub unchanged_profile_is_a_lift : (p : List Entry) (x : ℕ) → Lifts x p p
unchanged_profile_is_a_lift [] x = tt
unchanged_profile_is_a_lift (line ∷ p) x =
    (record { agrees = record { weight = refl; others = refl }; nearer = omega arith }, unchanged_profile_is_a_lift p x)
