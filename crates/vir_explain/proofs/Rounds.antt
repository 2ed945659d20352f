-- The rounds of a loop, one after another.
use Rattle.std.proofs.Common.{◌≡◌, ℕ, zero, suc, ◌+◌, ◌-◌, ◌<◌, Bool, true, false, List, [], ◌++◌, cond}
use Rattle.std.proofs.Common.{refl, sym, ap, ◌∙◌, subst, length, length-append, append_assoc, append-nil, arith}
use Rattle.std.proofs.lemmas.Grind.{flat_map-append}
use Rattle.std.specs.FinSet as set
use Rattle.vir_altset.specs.Sets.{Set}
use Rattle.vir_term.specs.Tree.{End}
use Rattle.vir_mean.specs.Compositions.{is_end}
use Rattle.vir_explain.specs.Visits.{Visit, rounds}
use Rattle.vir_explain.specs.VisitTexts.{visit_text, visits_text}
use Rattle.vir_explain.specs.TextLimits.{IsTooLong}

module _ (k : End) (left : Set → Set) (visited : Set → List Visit) where
  -- at the end there are none
  pub rounds-end : (most : ℕ) (a : Set) → is_end k (set.len a) ≡ true → rounds most k left visited a ≡ []
  unfolding rounds
  rounds-end zero a end = refl
  rounds-end (suc most) a end = ap (λ b. cond b [] (visited a ++ cond (set.is_subset a (left a)) []
      (rounds most k left visited (left a)))) end

  -- a round that leaves the whole set is the last one
  pub rounds-whole : (most : ℕ) (a : Set) → is_end k (set.len a) ≡ false → set.is_subset a (left a) ≡ true
      → rounds (suc most) k left visited a ≡ visited a
  unfolding rounds
  rounds-whole most a some whole =
      ap (λ b. cond b [] (visited a ++ cond (set.is_subset a (left a)) [] (rounds most k left visited (left a)))) some
      ∙ ap (λ b. visited a ++ cond b [] (rounds most k left visited (left a))) whole ∙ append-nil (visited a)

  -- any other goes on with what it leaves
  pub rounds-more : (most : ℕ) (a : Set) → is_end k (set.len a) ≡ false → set.is_subset a (left a) ≡ false
      → rounds (suc most) k left visited a ≡ visited a ++ rounds most k left visited (left a)
  unfolding rounds
  rounds-more most a some other =
      ap (λ b. cond b [] (visited a ++ cond (set.is_subset a (left a)) [] (rounds most k left visited (left a)))) some
      ∙ ap (λ b. visited a ++ cond b [] (rounds most k left visited (left a))) other

  -- without a turn left there are none
  pub rounds-none : (a : Set) → rounds 0 k left visited a ≡ []
  unfolding rounds
  rounds-none a = refl

  -- ---- their text, behind what is told already, where i of n rounds were made
  next_of : (n i : ℕ) → i < n → n - i ≡ suc (n - (i + 1))
  next_of n i below = omega arith

  pub told-end : (n : ℕ) (a : Set) (text whole : List ℕ) → is_end k (set.len a) ≡ true
      → text ++ visits_text (rounds n k left visited a) ≡ whole → text ≡ whole
  told-end n a text whole end so_far =
      sym (append-nil text) ∙ ap (λ vs. text ++ visits_text vs) (sym (rounds-end n a end)) ∙ so_far

  pub told-none : (n i : ℕ) (a : Set) (text whole : List ℕ) → n - i ≡ 0
      → text ++ visits_text (rounds (n - i) k left visited a) ≡ whole → text ≡ whole
  told-none n i a text whole none so_far =
      sym (append-nil text) ∙ ap (λ vs. text ++ visits_text vs) (sym (rounds-none a))
      ∙ ap (λ m. text ++ visits_text (rounds m k left visited a)) (sym none) ∙ so_far

  pub told-whole : (n i : ℕ) (a : Set) (text after whole : List ℕ) → i < n → is_end k (set.len a) ≡ false
      → set.is_subset a (left a) ≡ true → text ++ visits_text (rounds (n - i) k left visited a) ≡ whole
      → after ≡ text ++ visits_text (visited a) → after ≡ whole
  told-whole n i a text after whole below some all so_far one =
      one ∙ ap (λ vs. text ++ visits_text vs) (sym (ap (λ m. rounds m k left visited a) (next_of n i below)
      ∙ rounds-whole (n - (i + 1)) a some all)) ∙ so_far

  pub told-more : (n i : ℕ) (a d : Set) (text after whole : List ℕ) → i < n → is_end k (set.len a) ≡ false
      → set.is_subset a (left a) ≡ false → d ≡ left a
      → text ++ visits_text (rounds (n - i) k left visited a) ≡ whole
      → after ≡ text ++ visits_text (visited a)
      → after ++ visits_text (rounds (n - (i + 1)) k left visited d) ≡ whole
  told-more n i a d text after whole below some other is so_far one =
      let rest = rounds (n - (i + 1)) k left visited (left a) in
      ap (λ e. after ++ visits_text (rounds (n - (i + 1)) k left visited e)) is
      ∙ ap (λ xs. xs ++ visits_text rest) one
      ∙ append_assoc text (visits_text (visited a)) (visits_text rest)
      ∙ ap (λ xs. text ++ xs) (sym (flat_map-append visit_text (visited a) rest))
      ∙ ap (λ vs. text ++ visits_text vs) (sym (ap (λ m. rounds m k left visited a) (next_of n i below)
      ∙ rounds-more (n - (i + 1)) a some other))
      ∙ so_far

  longer : (text more whole : List ℕ) → text ++ more ≡ whole → IsTooLong text → IsTooLong whole
  longer text more whole is long = omega (arith, length-append text more, ap length is)

  -- with a round that is to come a text is too long, and so it is with all of them
  pub too_long-round : (n i : ℕ) (a : Set) (text whole : List ℕ) → i < n → is_end k (set.len a) ≡ false
      → text ++ visits_text (rounds (n - i) k left visited a) ≡ whole → IsTooLong (text ++ visits_text (visited a))
      → IsTooLong whole
  too_long-round n i a text whole below some so_far long = by (set.is_subset a (left a)) refl
    where
      by : (all : Bool) → set.is_subset a (left a) ≡ all → IsTooLong whole
      by true is = subst IsTooLong (ap (λ vs. text ++ visits_text vs) (sym (ap (λ m. rounds m k left visited a)
          (next_of n i below) ∙ rounds-whole (n - (i + 1)) a some is)) ∙ so_far) long
      by false is =
          let rest = rounds (n - (i + 1)) k left visited (left a) in
          let parts : (text ++ visits_text (visited a)) ++ visits_text rest ≡ whole =
          append_assoc text (visits_text (visited a)) (visits_text rest)
          ∙ ap (λ xs. text ++ xs) (sym (flat_map-append visit_text (visited a) rest))
          ∙ ap (λ vs. text ++ visits_text vs) (sym (ap (λ m. rounds m k left visited a) (next_of n i below)
          ∙ rounds-more (n - (i + 1)) a some is)) ∙ so_far in
          longer (text ++ visits_text (visited a)) (visits_text rest) whole parts long
