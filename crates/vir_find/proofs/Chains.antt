-- A lift goes by single raises: one voter raises one alternative by one place at a time.
use Rattle.std.proofs.Common.{◌≡◌, ◌≢◌, ℕ, zero, suc, ◌+◌, ◌<◌, ◌≤◌, Bool, true, false, cond, List, [], ◌∷◌, ◌++◌}
use Rattle.std.proofs.Common.{length}
use Rattle.std.proofs.Common.{refl, sym, ap, ◌∙◌, arith, subst}
use Rattle.std.proofs.lemmas.List.{append-nil}
use Rattle.std.proofs.lemmas.List.Elements.{All-cons, All-head, All-tail, All-append}
use Rattle.std.proofs.lemmas.List.Sums.{sum_by-cons, sum_by-append}
use Rattle.std.specs.FinSet as set
use Rattle.vir_altset.specs.Sets.{Set}
use Rattle.vir_altset.specs.Splits.{bit}
use Rattle.vir_altset.specs.declared.split.Split.{Split}
use Rattle.vir_profile.specs.declared.ballot.Entry.{Entry}
use Rattle.vir_profile.specs.Orders.{IsListing}
use Rattle.vir_profile.specs.Profiles.{IsProfileOn, weight_where, total_weight}
use Rattle.vir_mean.specs.FixedOrders.{place}
use Rattle.vir_mean.specs.Lifts.{without, Raises, Lifts}
use Rattle.vir_mean.specs.Modules.{Meaning}
use Rattle.vir_mean.proofs.MemberCounts.{often, lists_of}
use Rattle.vir_find.proofs.AlikeProfiles.{Alike, GoesByWeights, weight_where-cons}
use Rattle.vir_find.proofs.InsertedOrders.{inserted, order_inserted, place_inside, listing_inserted}
use Rattle.vir_find.proofs.Lists.{by_number}

abbrev pub line : ℕ → List ℕ → Entry
line w order = record { weight = w; order = order }

abbrev On : Set → List Entry → Type 0
On a lines = IsProfileOn a lines

on_more : (a : Set) (w : ℕ) (order : List ℕ) (r : List Entry) → IsListing a order → IsProfileOn a r
    → IsProfileOn a (line w order ∷ r)
on_more a w order r listing on = All-cons (λ (line : Entry). IsListing a line.order) (line w order) r listing on

total-cons : (e : Entry) (r : List Entry) → total_weight (e ∷ r) ≡ e.weight + total_weight r
total-cons e r = sum_by-cons (λ (e : Entry). e.weight) e r

weight_where-append : (test : List ℕ → Bool) (p q : List Entry) → weight_where test (p ++ q) ≡ weight_where test p
    + weight_where test q
weight_where-append test p q = sum_by-append (λ (e : Entry). cond (test e.order) e.weight 0) p q

-- ---- profiles that are alike
nobody : (o : List ℕ) (r : List Entry) → Alike (line 0 o ∷ r) r
nobody o r test = weight_where-cons test (line 0 o) r ∙ none (test o) (weight_where test r)
  where
    none : (b : Bool) (n : ℕ) → cond b 0 0 + n ≡ n
    none true n = omega arith
    none false n = omega arith

one_apart : (w : ℕ) (o : List ℕ) (r : List Entry) → Alike (line (suc w) o ∷ r) (line 1 o ∷ line w o ∷ r)
one_apart w o r test =
    weight_where-cons test (line (suc w) o) r ∙ split (test o) (weight_where test r)
    ∙ ap (λ n. cond (test o) 1 0 + n) (sym (weight_where-cons test (line w o) r))
    ∙ sym (weight_where-cons test (line 1 o) (line w o ∷ r))
  where
    split : (b : Bool) (n : ℕ) → cond b (suc w) 0 + n ≡ cond b 1 0 + (cond b w 0 + n)
    split true n = omega arith
    split false n = omega arith

swapped : (e f : Entry) (r : List Entry) → Alike (e ∷ f ∷ r) (f ∷ e ∷ r)
swapped e f r test =
    weight_where-cons test e (f ∷ r) ∙ ap (λ n. cond (test e.order) e.weight 0 + n) (weight_where-cons test f r)
    ∙ swap (cond (test e.order) e.weight 0) (cond (test f.order) f.weight 0) (weight_where test r)
    ∙ ap (λ n. cond (test f.order) f.weight 0 + n) (sym (weight_where-cons test e r))
    ∙ sym (weight_where-cons test f (e ∷ r))
  where
    swap : (l m n : ℕ) → l + (m + n) ≡ m + (l + n)
    swap l m n = omega arith

to_the_rest : (e : Entry) (p r : List Entry) → Alike (e ∷ (p ++ r)) (p ++ (e ∷ r))
to_the_rest e p r test =
    weight_where-cons test e (p ++ r) ∙ ap (λ n. cond (test e.order) e.weight 0 + n) (weight_where-append test p r)
    ∙ swap (cond (test e.order) e.weight 0) (weight_where test p) (weight_where test r)
    ∙ ap (λ n. weight_where test p + n) (sym (weight_where-cons test e r)) ∙ sym (weight_where-append test p (e ∷ r))
  where
    swap : (l m n : ℕ) → l + (m + n) ≡ m + (l + n)
    swap l m n = omega arith

back : (p q : List Entry) → Alike p q → Alike q p
back p q alike test = sym (alike test)

module _ (m : Meaning) (goes : GoesByWeights m) (a : Set) (voters x : ℕ) (Says : Split → Split → Type 0)
    (chain : (s t u : Split) → Says s t → Says t u → Says s u)
    (still : (r : List Entry) → IsProfileOn a r → total_weight r ≤ voters → Says (m a r) (m a r))
    (single : (r : List Entry) (k : ℕ) (list : List ℕ) → IsProfileOn a r → IsListing a (inserted (suc k) x list)
    → k < length list → 1 + total_weight r ≤ voters
    → Says (m a (line 1 (inserted (suc k) x list) ∷ r)) (m a (line 1 (inserted k x list) ∷ r)))
  where
    -- of profiles that are alike the same is said
    said : (p q r s : List Entry) → Alike p r → Alike q s → Says (m a r) (m a s) → Says (m a p) (m a q)
    said p q r s first second says =
        subst (λ (split : Split). Says split (m a q)) (sym (goes a p r first))
        (subst (λ (split : Split). Says (m a r) split) (sym (goes a q s second)) says)

    -- so many voters raise it by one place, one after the other
    by_one_place : (w k : ℕ) (list : List ℕ) (r : List Entry) → IsProfileOn a r → IsListing a (inserted (suc k) x list)
        → k < length list → w + total_weight r ≤ voters
        → Says (m a (line w (inserted (suc k) x list) ∷ r)) (m a (line w (inserted k x list) ∷ r))
    by_one_place zero k list r on listing inside few =
        said _ _ r r (nobody _ r) (nobody _ r) (still r on (omega arith))
    by_one_place (suc w) k list r on listing inside few =
        let before = inserted (suc k) x list in
        let after = inserted k x list in
        let listing' = listing_inserted a (suc k) k x list listing in
        let more = total-cons (line w before) r in
        let more' = total-cons (line 1 after) r in
        chain _ (m a (line 1 after ∷ line w before ∷ r)) _
        (said (line (suc w) before ∷ r) (line 1 after ∷ line w before ∷ r) (line 1 before ∷ line w before ∷ r)
        (line 1 after ∷ line w before ∷ r) (one_apart w before r) (λ test. refl)
        (single (line w before ∷ r) k list (on_more a w before r listing on) listing inside (omega arith)))
        (said (line 1 after ∷ line w before ∷ r) (line (suc w) after ∷ r) (line w before ∷ line 1 after ∷ r)
        (line w after ∷ line 1 after ∷ r) (swapped (line 1 after) (line w before) r)
        (λ test. one_apart w after r test ∙ swapped (line 1 after) (line w after) r test)
        (by_one_place w k list (line 1 after ∷ r) (on_more a 1 after r listing' on) listing inside (omega arith)))

    -- from one place to any that is nearer the front
    by_places : (j k w : ℕ) (list : List ℕ) (r : List Entry) → IsProfileOn a r → IsListing a (inserted j x list) → k ≤ j
        → j ≤ length list → w + total_weight r ≤ voters
        → Says (m a (line w (inserted j x list) ∷ r)) (m a (line w (inserted k x list) ∷ r))
    by_places zero k w list r on listing nearer inside few = by_number k 0
        (λ same. subst (λ i. Says (m a (line w (inserted 0 x list) ∷ r)) (m a (line w (inserted i x list) ∷ r)))
        (sym same)
        (unmoved w (inserted 0 x list) r on listing few))
        (λ other. absurd (omega arith))
      where
        unmoved : (w : ℕ) (o : List ℕ) (r : List Entry) → IsProfileOn a r → IsListing a o → w + total_weight r ≤ voters
            → Says (m a (line w o ∷ r)) (m a (line w o ∷ r))
        unmoved w o r on listing few = let more = total-cons (line w o) r in still (line w o ∷ r)
            (on_more a w o r listing on)
            (omega arith)
    by_places (suc j) k w list r on listing nearer inside few = by_number k (suc j)
        (λ same. subst (λ i. Says (m a (line w (inserted (suc j) x list) ∷ r)) (m a (line w (inserted i x list) ∷ r)))
        (sym same) (unmoved w (inserted (suc j) x list) r on listing few))
        (λ other. chain _ (m a (line w (inserted j x list) ∷ r)) _
        (by_one_place w j list r on listing (omega arith) few)
        (by_places j k w list r on (listing_inserted a (suc j) j x list listing) (omega arith) (omega arith) few))
      where
        unmoved : (w : ℕ) (o : List ℕ) (r : List Entry) → IsProfileOn a r → IsListing a o → w + total_weight r ≤ voters
            → Says (m a (line w o ∷ r)) (m a (line w o ∷ r))
        unmoved w o r on listing few = let more = total-cons (line w o) r in still (line w o ∷ r)
            (on_more a w o r listing on)
            (omega arith)

    module _ (inside : set.contains a x ≡ true) where
      counted : (o : List ℕ) → IsListing a o → often x o ≡ 1
      counted o listing = (lists_of a o listing).each x ∙ ap bit inside

      -- one line
      by_line : (before after : Entry) (r : List Entry) → Raises x before after → IsListing a before.order
          → IsListing a after.order → IsProfileOn a r → before.weight + total_weight r ≤ voters
          → Says (m a (before ∷ r)) (m a (after ∷ r))
      by_line before after r raised listing listing' on few =
          let list = without x before.order in
          let once = counted before.order listing in
          let once' = counted after.order listing' in
          let is : before.order ≡ inserted (place x before.order) x list = order_inserted x before.order (omega arith)
          (omega arith) in
          let is' : after.order ≡ inserted (place x after.order) x list = order_inserted x after.order (omega arith)
          (omega arith) ∙ ap (inserted (place x after.order) x) (sym raised.agrees.others) in
          said (before ∷ r) (after ∷ r) (line before.weight (inserted (place x before.order) x list) ∷ r)
          (line before.weight (inserted (place x after.order) x list) ∷ r)
          (λ test. ap (λ o. weight_where test (line before.weight o ∷ r)) is)
          (λ test. ap (λ o. weight_where test (line after.weight o ∷ r)) is'
          ∙ ap (λ w. weight_where test (line w (inserted (place x after.order) x list) ∷ r)) (sym raised.agrees.weight))
          (by_places (place x before.order) (place x after.order) before.weight list r on
          (subst (IsListing a) is listing) raised.nearer (place_inside x before.order (omega arith)) few)

      -- all lines, one after the other
      by_lines : (p q r : List Entry) → Lifts x p q → IsProfileOn a p → IsProfileOn a q → IsProfileOn a r
          → total_weight p + total_weight r ≤ voters → Says (m a (p ++ r)) (m a (q ++ r))
      by_lines [] [] r lifts on_p on_q on few = still r on (omega arith)
      by_lines (before ∷ p) (after ∷ q) r lifts on_p on_q on few =
          let Listed = λ (line : Entry). IsListing a line.order in
          let heavy = total-cons before p in
          let heavy' = total-cons after r in
          let same = lifts.0.agrees.weight in
          let sum = weight_where-append (λ _. true) p r in
          chain _ (m a (after ∷ (p ++ r))) _
          (by_line before after (p ++ r) lifts.0 (All-head Listed before p on_p) (All-head Listed after q on_q)
          (All-append Listed p r (All-tail Listed before p on_p) on) (omega arith))
          (said (after ∷ (p ++ r)) (after ∷ (q ++ r)) (p ++ (after ∷ r)) (q ++ (after ∷ r)) (to_the_rest after p r)
          (to_the_rest after q r)
          (by_lines p q (after ∷ r) lifts.1 (All-tail Listed before p on_p) (All-tail Listed after q on_q)
          (All-cons Listed after r (All-head Listed after q on_q) on) (omega arith)))
      by_lines [] (after ∷ q) r lifts on_p on_q on few = absurd lifts
      by_lines (before ∷ p) [] r lifts on_p on_q on few = absurd lifts

      pub by_single_raises : (p q : List Entry) → Lifts x p q → IsProfileOn a p → IsProfileOn a q
          → total_weight p ≤ voters
          → Says (m a p) (m a q)
      by_single_raises p q lifts on_p on_q few =
          subst (λ (p : List Entry). Says (m a p) (m a q)) (append-nil p)
          (subst (λ (q : List Entry). Says (m a (p ++ [])) (m a q)) (append-nil q)
          (by_lines p q [] lifts on_p on_q (λ k d inside. absurd (omega arith)) (omega arith)))
