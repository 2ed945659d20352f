-- Each single raise of a profile is tried on the profile that is tried in its place.
use Rattle.std.proofs.Common.{◌≡◌, ◌≢◌, ◌⊎◌, inl, inr, ℕ, zero, suc, ◌+◌, ◌-◌, ◌<◌, ◌≤◌, Bool, true, false, true≢false}
use Rattle.std.proofs.Common.{cond, nat_eq, List, [], ◌∷◌, ◌++◌, map, refl, sym, ap, ◌∙◌, arith, subst}
use Rattle.std.specs.Cmp.Lexicographic.{pointwise}
use Rattle.vir_profile.specs.declared.ballot.Entry.{Entry}
use Rattle.vir_profile.specs.Profiles.{weight_where}
use Rattle.vir_mean.specs.FixedOrders.{place}
use Rattle.vir_mean.specs.Lifts.{without, Raises, Lifts}
use Rattle.vir_mean.proofs.RestrictedLifts.{unchanged_profile_is_a_lift}
use Rattle.vir_find.specs.Weights.{weight_of}
use Rattle.vir_find.specs.Spreads.{with_line}
use Rattle.vir_find.specs.Raises.{Raise, raises, Lift, behind_line, line_lift, single_lifts}
use Rattle.vir_find.proofs.AlikeProfiles.{Alike, weight_where-cons}
use Rattle.vir_find.proofs.Canonical.{canonical, canonical-alike}
use Rattle.vir_find.proofs.Lists.{Among, among_left, among_right, among_map, in_cases, list_same, list_equal}
use Rattle.vir_find.proofs.OneOrder.{others, weight_where-others, weight_where-with_line, weight_of-others, Covered}
use Rattle.vir_find.proofs.OneOrder.{covered_others}

-- a lift that is tried, where one voter of `order` raises
pub record IsTried (lines tried : List Entry) (order : List ℕ) (r : Raise) : Type 0 where
  pub lift : Lift
  pub among : Among lift (single_lifts tried)
  pub lifted : lift.lifted ≡ r.alternative
  pub lifts : Lifts r.alternative lift.before lift.after
  pub before : Alike lift.before lines
  pub after : (test : List ℕ → Bool) → weight_where test lift.after + cond (test order) 1 0
      ≡ weight_where test lines + cond (test r.order) 1 0

module _ (order : List ℕ) (r : Raise) (raise : Among r (raises order))
    (agrees : without r.alternative order ≡ without r.alternative r.order)
    (nearer : place r.alternative r.order ≤ place r.alternative order) where
  abbrev one_line : ℕ → List ℕ → Entry
  one_line w order = record { weight = w; order = order }

  lifts_behind : (w : ℕ) (o : List ℕ) (p q : List Entry) → Lifts r.alternative p q → Lifts r.alternative
      (with_line w o p) (with_line w o q)
  lifts_behind zero o p q lifts = lifts
  lifts_behind (suc w) o p q lifts =
      (record { agrees = record { weight = refl; others = refl }; nearer = omega arith }, lifts)

  -- in the first line
  at_first : (w : ℕ) (lines rest : List Entry) → ((test : List ℕ → Bool) → weight_where test lines
      ≡ cond (test order) (suc w) 0 + weight_where test rest)
      → IsTried lines (with_line (suc w) order rest) order r
  unfolding single_lifts
  at_first w lines rest parts = record {
    lift = line_lift (one_line (suc w) order) rest r;
    among = among_left _ _ _ (among_map (line_lift (one_line (suc w) order) rest) r (raises order) raise);
    lifted = refl;
    lifts = lifts_behind (suc w - 1) order _ _ (
      record { agrees = record { weight = refl; others = agrees }; nearer = nearer },
      unchanged_profile_is_a_lift rest r.alternative,
    );
    before = λ test. weight_where-with_line test (suc w - 1) order (one_line 1 order ∷ rest)
        ∙ ap (λ n. cond (test order) (suc w - 1) 0 + n) (weight_where-cons test (one_line 1 order) rest)
        ∙ same (test order) (weight_where test rest) ∙ sym (parts test);
    after = λ test. moved (test order) (test r.order) _ _ _ _
        (weight_where-with_line test (suc w - 1) order (one_line 1 r.order ∷ rest))
        (weight_where-cons test (one_line 1 r.order) rest) (parts test);
  }
    where
      same : (b : Bool) (n : ℕ) → cond b (suc w - 1) 0 + (cond b 1 0 + n) ≡ cond b (suc w) 0 + n
      same true n = omega arith
      same false n = omega arith

      moved : (b c : Bool) (l m n k : ℕ) → l ≡ cond b (suc w - 1) 0 + m → m ≡ cond c 1 0 + n → k ≡ cond b (suc w) 0 + n
          → l + cond b 1 0 ≡ k + cond c 1 0
      moved true c l m n k e f g = omega arith
      moved false c l m n k e f g = omega arith

  -- in a later line
  behind_first : (w : ℕ) (first : List ℕ) (lines other tried : List Entry) → ((test : List ℕ → Bool)
      → weight_where test lines ≡ cond (test first) w 0 + weight_where test other)
      → IsTried other tried order r → IsTried lines (with_line w first tried) order r
  unfolding single_lifts
  behind_first zero first lines other tried parts is = record {
    lift = is.lift;
    among = is.among;
    lifted = is.lifted;
    lifts = is.lifts;
    before = λ test. is.before test ∙ same (test first) _ _ (parts test);
    after = λ test. is.after test ∙ ap (λ n. n + cond (test r.order) 1 0) (same (test first) _ _ (parts test));
  }
    where
      same : (b : Bool) (l n : ℕ) → l ≡ cond b 0 0 + n → n ≡ l
      same true l n e = omega arith
      same false l n e = omega arith
  behind_first (suc w) first lines other tried parts is = record {
    lift = behind_line (one_line (suc w) first) is.lift;
    among = among_right _ (map (line_lift (one_line (suc w) first) tried) (raises first)) _
        (among_map (behind_line (one_line (suc w) first)) is.lift (single_lifts tried) is.among);
    lifted = is.lifted;
    lifts = (record { agrees = record { weight = refl; others = refl }; nearer = omega arith }, is.lifts);
    before = λ test. weight_where-cons test (one_line (suc w) first) is.lift.before
        ∙ ap (λ n. cond (test first) (suc w) 0 + n) (is.before test) ∙ sym (parts test);
    after = λ test. moved (cond (test first) (suc w) 0) (cond (test order) 1 0) (cond (test r.order) 1 0) _ _ _ _
        (weight_where-cons test (one_line (suc w) first) is.lift.after) (is.after test) (parts test);
  }
    where
      moved : (f b c l m n k : ℕ) → l ≡ f + m → m + b ≡ n + c → k ≡ f + n → l + b ≡ k + c
      moved f b c l m n k e g h = omega arith

  -- whichever order it is of
  pub tried_among : (orders : List (List ℕ)) (lines : List Entry) → Covered orders lines → Among order orders
      → 1 ≤ weight_of order lines → IsTried lines (canonical orders lines) order r
  unfolding canonical
  tried_among [] lines covered among some = absurd among
  tried_among (first ∷ orders) lines covered among some =
      in_cases (pointwise nat_eq order first)
      (λ e. at_this (weight_of first lines) (subst (λ o. 1 ≤ weight_of o lines) (list_same order first e) some)
      (list_same order first e) (canonical-alike orders rest (covered_others first orders lines covered)) parts)
      (λ e. behind_first (weight_of first lines) first lines rest (canonical orders rest) parts
      (tried_among orders rest (covered_others first orders lines covered) (not_first e among)
      (subst (λ n. 1 ≤ n) (sym (weight_of-others order first lines e)) some)))
    where
      rest : List Entry
      rest = others first lines

      parts : (test : List ℕ → Bool) → weight_where test lines ≡ cond (test first) (weight_of first lines) 0
          + weight_where test rest
      parts test = weight_where-others test first lines

      not_first : pointwise nat_eq order first ≡ false → (order ≡ first) ⊎ Among order orders → Among order orders
      not_first e (inl same) = absurd (true≢false (sym (list_equal order first same) ∙ e))
      not_first e (inr later) = later

      at_this : (w : ℕ) → 1 ≤ w → order ≡ first → Alike rest (canonical orders rest)
          → ((test : List ℕ → Bool) → weight_where test lines ≡ cond (test first) w 0 + weight_where test rest)
          → IsTried lines (with_line w first (canonical orders rest)) order r
      at_this zero some same alike parts = absurd (omega arith)
      at_this (suc w) some same alike parts =
          subst (λ o. IsTried lines (with_line (suc w) o (canonical orders rest)) order r) same
          (at_first w lines (canonical orders rest) (λ test. parts test
          ∙ ap (λ n. cond (test first) (suc w) 0 + n) (alike test)
          ∙ ap (λ o. cond (test o) (suc w) 0 + weight_where test (canonical orders rest)) (sym same)))
