-- Where no case that is tried violates a property, it holds up to that size.
use Rattle.std.proofs.Common.{◌≡◌, ◌⊎◌, inl, inr, ℕ, zero, suc, ◌+◌, ◌-◌, ◌<◌, ◌≤◌, Bool, true, false, true≢false, cond}
use Rattle.std.proofs.Common.{List}
use Rattle.std.proofs.Common.{[], ◌∷◌, ◌++◌, map, length, nat_eq, refl, sym, ap, ◌∙◌, arith, subst}
use Rattle.std.proofs.lemmas.List.Elements.{All-cons, All-head, All-tail}
use Rattle.std.proofs.lemmas.List.Sums.{sum_by-cons}
use Rattle.std.specs.Cmp.Lexicographic.{pointwise}
use Rattle.std.specs.List.{All, flat_map}
use Rattle.std.specs.FinSet as set
use Rattle.vir_altset.specs.Sets.{Set, all}
use Rattle.vir_altset.specs.Splits.{bit}
use Rattle.vir_altset.specs.declared.split.Split.{Split}
use Rattle.vir_profile.specs.declared.ballot.Entry.{Entry}
use Rattle.vir_profile.specs.Elections.{IsElection}
use Rattle.vir_profile.specs.Orders.{IsListing}
use Rattle.vir_profile.specs.Profiles.{IsProfileOn, weight_where, total_weight}
use Rattle.vir_term.specs.Tree.{Tree}
use Rattle.vir_term.specs.declared.prop.Prop.{Prop}
use Rattle.vir_term.specs.declared.prop.Prop.TheVariants.{Neut}
use Rattle.vir_mean.specs.FixedOrders.{place}
use Rattle.vir_mean.specs.Lifts.{without, Lifts}
use Rattle.vir_mean.specs.Meaning.{mean}
use Rattle.vir_mean.specs.Modules.{Meaning}
use Rattle.vir_mean.specs.Neutrality.{IsRenaming, renamed_set, renamed_lines, renamed_split}
use Rattle.vir_mean.proofs.MeaningLaws.{Splits, mean-split}
use Rattle.vir_mean.proofs.MemberCounts.{often, lists_of}
use Rattle.vir_mean.proofs.RestrictedLifts.{unchanged_profile_is_a_lift}
use Rattle.vir_refute.specs.Cases.{Election, Case, one, pair, renamed, AreElections, IsOneOrLift, IsLift}
use Rattle.vir_refute.specs.Violations.{is_on_lifts, Premise, Conclusion, PremiseOnOne, ConclusionOnOne, Violates}
use Rattle.vir_refute.proofs.AllMembers.{member_of_all}
use Rattle.vir_refute.proofs.Stability.{split_surely}
use Rattle.vir_find.specs.Exchanges.{exchanging}
use Rattle.vir_find.specs.Permutations.{up_to, orders}
use Rattle.vir_find.specs.Raises.{Raise, Lift, raises, single_lifts}
use Rattle.vir_find.specs.Spreads.{spread}
use Rattle.vir_find.specs.Trials.{election, lift_case, exchange_case, is_neutrality, cases_of, cases_at, cases_on}
use Rattle.vir_find.specs.Trials.{cases}
use Rattle.vir_find.specs.UpTo.{IsWithin, IsUpTo, HoldsUpTo}
use Rattle.vir_find.specs.Weights.{weight_of}
use Rattle.vir_find.proofs.AlikeProfiles.{Alike, GoesByWeights, weight_where-cons, mean-alike}
use Rattle.vir_find.proofs.Canonical.{canonical, canonical-alike, among_spread}
use Rattle.vir_find.proofs.Chains.{line, by_single_raises}
use Rattle.vir_find.proofs.Conclusions.{on, premise-alike, conclusion-alike, on_one_surely, on_lift_surely, Says}
use Rattle.vir_find.proofs.Conclusions.{says-chain, says-unchanged, never_on_one, never_on_lift}
use Rattle.vir_find.proofs.NeighbourExchanges.{exchange_onto, Keeps, keeps_all}
use Rattle.vir_find.proofs.CaseKinds.{cases_of-lifts, cases_of-exchanges, cases_of-one, never_of_neutrality}
use Rattle.vir_find.proofs.Renamings.{IsOnto, alike_renamed}
use Rattle.vir_find.proofs.InsertedOrders.{inserted, often-inserted, without-inserted, place-inserted, raise_among}
use Rattle.vir_find.proofs.Lists.{Among, among_map, among_flat_map, of_all, list_itself, in_cases, equal_to_itself}
use Rattle.vir_find.proofs.OneOrder.{Covered}
use Rattle.vir_find.proofs.Permuted.{among_up_to, listing_among}
use Rattle.vir_find.proofs.SingleLifts.{IsTried, tried_among}

-- the orders of a profile are among those that are tried
covered_profile : (m : ℕ) (lines : List Entry) → IsProfileOn (all m) lines → Covered (orders m) lines
covered_profile m [] on = tt
covered_profile m (line ∷ lines) on =
    let Listed = λ (line : Entry). IsListing (all m) line.order in (
      listing_among m line.order (All-head Listed line lines on),
      covered_profile m lines
          (All-tail Listed line lines on),
    )

-- a case of a profile that is tried
case_among : (prop : Prop) (most voters m n : ℕ) (lines : List Entry) (c : Case) → 1 ≤ m → m ≤ most → n ≤ voters
    → Among lines (spread (orders m) n) → Among c (cases_of prop m lines) → Among c (cases prop most voters)
unfolding cases cases_on cases_at
case_among prop most voters m n lines c some few light among is =
    among_flat_map (cases_on prop voters) m c (up_to most) (among_up_to most m some few)
    (among_flat_map (cases_at prop m) n c (0 ∷ up_to voters) (number n light)
    (among_flat_map (cases_of prop m) lines c (spread (orders m) n) among is))
  where
    number : (n : ℕ) → n ≤ voters → Among n (0 ∷ up_to voters)
    number zero light = inl refl
    number (suc n) light = inr (among_up_to voters (suc n) (omega arith) light)

module _ (prop : Prop) (f : Meaning) (goes : GoesByWeights f) (splits : Splits f) (most voters : ℕ)
    (none : All (λ (c : Case). Violates prop f c → ⊥) (cases prop most voters)) where
  -- ---- properties of one profile
  module _ (m : ℕ) (some : 1 ≤ m) (few : m ≤ most) where
    tried-alike : (lines : List Entry) → IsProfileOn (all m) lines → Alike lines (canonical (orders m) lines)
    tried-alike lines on_it = canonical-alike (orders m) lines (covered_profile m lines on_it)

    unviolated : (lines : List Entry) (c : Case) → IsProfileOn (all m) lines → total_weight lines ≤ voters
        → Among c (cases_of prop m (canonical (orders m) lines)) → Violates prop f c → ⊥
    unviolated lines c on_it light is =
        of_all (λ (c : Case). Violates prop f c → ⊥) c (cases prop most voters) none
        (case_among prop most voters m (total_weight lines) (canonical (orders m) lines) c some few light
        (among_spread (orders m) lines (total_weight lines) (covered_profile m lines on_it) refl) is)

    on_each : is_on_lifts prop ≡ false → is_neutrality prop ≡ false
        → (lines : List Entry) → IsProfileOn (all m) lines → total_weight lines ≤ voters
        → PremiseOnOne prop (on (all m) lines) → ConclusionOnOne prop (on (all m) lines) (f (all m) lines)
    on_each kind other lines on_it light premise =
        let alike = tried-alike lines on_it in
        let same = goes (all m) lines (canonical (orders m) lines) alike in
        subst (ConclusionOnOne prop (on (all m) lines)) (sym same)
        (conclusion-alike prop (all m) (canonical (orders m) lines) lines (f (all m) (canonical (orders m) lines))
        (λ test. sym (alike test))
        (on_one_surely prop (on (all m) (canonical (orders m) lines)) (f (all m) (canonical (orders m) lines))
        (λ fails. unviolated lines (one (on (all m) (canonical (orders m) lines))) on_it light
        (subst (λ list. Among (one (on (all m) (canonical (orders m) lines))) list)
        (sym (cases_of-one prop m (canonical (orders m) lines) kind other)) (inl refl))
        (record {
          one_or_lift = tt;
          premise = premise-alike prop (all m) lines (canonical (orders m) lines) alike premise;
          conclusion_false = fails;
        }))))

    -- ---- properties of lifts
    among_lifts : is_on_lifts prop ≡ true → (lines : List Entry) (c : Case)
        → Among c (pair (election m lines) (election m lines) 1 ∷ map (lift_case m) (single_lifts lines))
        → Among c (cases_of prop m lines)
    among_lifts kind lines c among = subst (λ list. Among c list) (sym (cases_of-lifts prop m lines kind)) among

    unchanged : is_on_lifts prop ≡ true → (x : ℕ) (lines : List Entry) → IsProfileOn (all m) lines
        → total_weight lines ≤ voters → Says prop x (f (all m) lines) (f (all m) lines)
    unchanged kind x lines on_it light =
        let it = canonical (orders m) lines in
        let same = goes (all m) lines (canonical (orders m) lines) (tried-alike lines on_it) in
        subst (λ (s : Split). Says prop x s s) (sym same)
        (says-unchanged prop x 1 (f (all m) (canonical (orders m) lines)) (λ premise.
        on_lift_surely prop 1 _ _ (λ fails. unviolated lines
        (pair (election m (canonical (orders m) lines)) (election m (canonical (orders m) lines)) 1) on_it light
        (among_lifts kind (canonical (orders m) lines) _ (inl refl))
        (record {
          one_or_lift = record {
            same = refl;
            member = member_of_all m 1 (omega arith) some;
            lifted = unchanged_profile_is_a_lift (canonical (orders m) lines) 1;
          };
          premise = premise;
          conclusion_false = fails;
        }))))

    raised_once : is_on_lifts prop ≡ true → (x : ℕ) → set.contains (all m) x ≡ true → (r : List Entry) (k : ℕ)
        (list : List ℕ) → IsProfileOn (all m) r → IsListing (all m) (inserted (suc k) x list)
        → k < length list → 1 + total_weight r ≤ voters
        → Says prop x (f (all m) (line 1 (inserted (suc k) x list) ∷ r)) (f (all m) (line 1 (inserted k x list) ∷ r))
    raised_once kind x inside r k list on_r listing within light =
        says
      where
        before : List ℕ
        before = inserted (suc k) x list

        after : List ℕ
        after = inserted k x list

        lines : List Entry
        lines = line 1 before ∷ r

        on_it : IsProfileOn (all m) (line 1 (inserted (suc k) x list) ∷ r)
        on_it = All-cons (λ (line : Entry). IsListing (all m) line.order) (line 1 before) r listing on_r

        total : total_weight (line 1 (inserted (suc k) x list) ∷ r) ≡ 1 + total_weight r
        total = sum_by-cons (λ (e : Entry). e.weight) (line 1 before) r

        absent : often x list ≡ 0
        absent = alone _ _ _ (sym (often-inserted (suc k) x list x) ∙ (lists_of (all m) before listing).each x)
            (equal_to_itself x) inside
          where
            alone : (b c : Bool) (n : ℕ) → bit b + n ≡ bit c → b ≡ true → c ≡ true → n ≡ 0
            alone b c n e h i = grind arith

        voted : 1 ≤ weight_of (inserted (suc k) x list) (line 1 (inserted (suc k) x list) ∷ r)
        voted = some_vote _ _ _ (weight_where-cons (pointwise nat_eq before) (line 1 before) r) (list_itself before)
          where
            some_vote : (b : Bool) (n w : ℕ) → w ≡ cond b 1 0 + n → b ≡ true → 1 ≤ w
            some_vote b n w e h = grind arith

        it : IsTried (line 1 (inserted (suc k) x list) ∷ r) (canonical (orders m) (line 1 (inserted
            (suc k) x list) ∷ r))
            (inserted (suc k) x list) (record { alternative = x; order = inserted k x list })
        it = tried_among before (record { alternative = x; order = inserted k x list }) (raise_among k x list within)
            (without-inserted (suc k) x list absent ∙ sym (without-inserted k x list absent))
            (let here = place-inserted k x list absent (omega arith) in
            let there = place-inserted (suc k) x list absent within in omega arith)
            (orders m) lines (covered_profile m lines on_it) (listing_among m before listing) voted

        alike_after : Alike (line 1 (inserted k x list) ∷ r) it.lift.after
        alike_after test = step _ _ _ _ _ _ (weight_where-cons test (line 1 after) r)
            (weight_where-cons test (line 1 before) r) (it.after test)
          where
            step : (l n c b m k : ℕ) → l ≡ c + n → m ≡ b + n → k + b ≡ m + c → l ≡ k
            step l n c b m k e g h = omega arith

        said : Says prop x (f (all m) it.lift.before) (f (all m) it.lift.after)
        said premise = on_lift_surely prop x _ _ (λ fails. unviolated lines (lift_case m it.lift) on_it (omega
            (arith, total))
            (among_lifts kind (canonical (orders m) lines) _ (inr (among_map (lift_case m) it.lift
            (single_lifts (canonical (orders m) lines)) it.among)))
            (subst (λ y. Violates prop f (pair (election m it.lift.before) (election m it.lift.after) y))
            (sym it.lifted)
            (record {
              one_or_lift = record { same = refl; member = inside; lifted = it.lifts };
              premise = premise;
              conclusion_false = fails;
            })))

        says : Says prop x (f (all m) (line 1 (inserted (suc k) x list) ∷ r)) (f (all m) (line 1
            (inserted k x list) ∷ r))
        says = subst (λ (s : Split). Says prop x s (f (all m) (line 1 after ∷ r)))
            (goes (all m) it.lift.before lines it.before)
            (subst (λ (t : Split). Says prop x (f (all m) it.lift.before) t)
            (sym (goes (all m) (line 1 after ∷ r) it.lift.after alike_after)) said)

    on_lifts : is_on_lifts prop ≡ true → (x : ℕ) → set.contains (all m) x ≡ true → (p q : List Entry) → Lifts x p q
        → IsProfileOn (all m) p → IsProfileOn (all m) q → total_weight p ≤ voters
        → Says prop x (f (all m) p) (f (all m) q)
    on_lifts kind x inside p q lifts on_p on_q light =
        by_single_raises f goes (all m) voters x (Says prop x) (says-chain prop x) (λ r. unchanged kind x r)
        (λ r k list. raised_once kind x inside r k list) inside p q lifts on_p on_q light

    -- ---- neutrality
    exchanges_keep : prop ≡ Neut → (i : ℕ) → 1 ≤ i → suc i ≤ m → Keeps m voters f splits (exchanging i)
    exchanges_keep kind i low high lines on_it light =
        let onto = exchange_onto m i low high in
        let alike = tried-alike lines on_it in
        let same = goes (all m) lines (canonical (orders m) lines) alike in
        goes (all m) (renamed_lines (exchanging i) lines) (renamed_lines (exchanging i) (canonical (orders m) lines))
        (alike_renamed (exchanging i) lines (canonical (orders m) lines) alike)
        ∙ split_surely _ _ (λ fails. unviolated lines (exchange_case m (canonical (orders m) lines) i) on_it light
        (subst (λ list. Among (exchange_case m (canonical (orders m) lines) i) list)
        (sym (cases_of-exchanges prop m (canonical (orders m) lines) kind))
        (among_map (exchange_case m (canonical (orders m) lines)) i (up_to (m - 1))
        (among_up_to (m - 1) i low (omega arith))))
        (record {
          one_or_lift = onto.renaming;
          premise = kind;
          conclusion_false = λ is. fails
              (ap (λ a. f a (renamed_lines (exchanging i) (canonical (orders m) lines))) (sym onto.onto) ∙ is);
        }))
        ∙ ap (renamed_split (exchanging i)) (sym same)

    on_renamings : prop ≡ Neut → (g : ℕ → ℕ) → IsOnto m g → Keeps m voters f splits g
    on_renamings kind = keeps_all m voters f splits (exchanges_keep kind)

  pub holds_up_to : HoldsUpTo most voters prop f
  holds_up_to (one e) are within is premise = in_cases (is_on_lifts prop)
      (λ kind. absurd (never_on_one prop e kind premise))
      (λ kind. in_cases (is_neutrality prop)
      (λ neut. absurd (never_of_neutrality prop e neut premise))
      (λ other. subst (λ (s : Set). IsProfileOn s e.lines → PremiseOnOne prop (on s e.lines)
      → ConclusionOnOne prop (on s e.lines) (f s e.lines)) (sym within.members)
      (λ on_it given. on_each within.number within.some within.few kind other e.lines on_it within.weights given)
      are.lists premise))
  holds_up_to (pair e g x) are within is premise = in_cases (is_on_lifts prop)
      (λ kind. subst (λ (t : Set). IsProfileOn t g.lines → Says prop x (f e.members e.lines) (f t g.lines)) is.same
      (subst (λ (s : Set). set.contains s x ≡ true → IsProfileOn s e.lines → IsProfileOn s g.lines
      → Says prop x (f s e.lines) (f s g.lines)) (sym within.members)
      (λ inside on_e on_g.
      on_lifts within.number within.some within.few kind x inside e.lines g.lines is.lifted on_e on_g
      within.weights) is.member are.0.lists) are.1.lists premise)
      (λ kind. absurd (never_on_lift prop x (f e.members e.lines) kind premise))
  holds_up_to (renamed e g) are within is premise =
      ap (λ a. f a (renamed_lines g e.lines)) within.1
      ∙ subst (λ (s : Set). IsRenaming g s → renamed_set g s ≡ s → IsProfileOn s e.lines
      → f s (renamed_lines g e.lines) ≡ renamed_split g (f s e.lines)) (sym within.0.members)
      (λ renaming onto on_it. on_renamings within.0.number within.0.some within.0.few premise g
      (record { renaming = renaming; onto = onto }) e.lines on_it within.0.weights) is within.1 are.lists

-- what the search rests on
pub complete : (t : Tree) (prop : Prop) (most voters : ℕ) → All (λ (c : Case). Violates prop (mean t) c → ⊥)
    (cases prop most voters) → HoldsUpTo most voters prop (mean t)
complete t prop most voters none = holds_up_to prop (mean t) (mean-alike t) (mean-split t) most voters none
