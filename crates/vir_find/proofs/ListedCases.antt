-- Each case that is listed is of that size.
use Rattle.std.proofs.Common.{◌≡◌, ◌≢◌, ◌↔◌, inl, inr, ℕ, zero, suc, ◌+◌, ◌-◌, ◌<◌, ◌≤◌}
use Rattle.std.proofs.Common.{Bool, true, false, cond, nat_eq}
use Rattle.std.proofs.Common.{List, [], ◌∷◌, ◌++◌, map, length, refl, sym, ap, ◌∙◌, arith, subst}
use Rattle.std.proofs.lemmas.Bool.Decides.{nat_tests}
use Rattle.std.proofs.lemmas.List.Elements.{All-nil, All-cons, All-head, All-tail, All-append, All-weaker, All-map}
use Rattle.std.proofs.lemmas.List.Sums.{sum_by-cons}
use Rattle.std.specs.List.{All, flat_map}
use Rattle.vir_altset.specs.Sets.{all}
use Rattle.vir_altset.specs.SetLaws.{contains-all}
use Rattle.vir_altset.specs.Splits.{bit}
use Rattle.vir_profile.specs.declared.ballot.Entry.{Entry}
use Rattle.vir_profile.specs.Elections.{IsElection}
use Rattle.vir_profile.specs.Orders.{IsListing}
use Rattle.vir_profile.specs.Profiles.{IsProfileOn, total_weight}
use Rattle.vir_term.specs.Tree.{Tree}
use Rattle.vir_term.specs.declared.prop.Prop.{Prop}
use Rattle.vir_mean.specs.Lifts.{without}
use Rattle.vir_mean.specs.Meaning.{mean}
use Rattle.vir_mean.proofs.MemberCounts.{often, at_head, lists_of, listing_of}
use Rattle.vir_refute.specs.Cases.{Case, one, pair, AreElections}
use Rattle.vir_refute.specs.Violations.{is_on_lifts, Violates}
use Rattle.vir_find.specs.Permutations.{up_to, permutations, orders}
use Rattle.vir_find.specs.Raises.{Raise, behind, raises, Lift, behind_line, line_lift, single_lifts}
use Rattle.vir_find.specs.Spreads.{with_line, down_from, spread}
use Rattle.vir_find.specs.Trials.{election, lift_case, exchange_case, is_neutrality}
use Rattle.vir_find.specs.Trials.{cases_of, cases_at, cases_on, cases}
use Rattle.vir_find.specs.UpTo.{IsWithin, IsUpTo, HoldsUpTo}
use Rattle.vir_find.proofs.CaseKinds.{neutrality, cases_of-lifts, cases_of-exchanges, cases_of-one}
use Rattle.vir_find.proofs.Completeness.{complete}
use Rattle.vir_find.proofs.Lists.{Among, in_cases, by_number, often-without, length-without}
use Rattle.vir_find.proofs.NeighbourExchanges.{exchange_onto}
use Rattle.vir_find.proofs.Permuted.{often-up_to, length-up_to}

-- ---- lists
all_among : {A : Type 0} (P : A → Type 0) (xs : List A) → ((x : A) → Among x xs → P x) → All P xs
all_among P [] each = All-nil P
all_among P (x ∷ xs) each = All-cons P x xs (each x (inl refl)) (all_among P xs (λ y among. each y (inr among)))

pub all_flat_map : {A B : Type 0} (P : B → Type 0) (g : A → List B) (xs : List A) → All (λ x. All P (g x)) xs
    → All P (flat_map g xs)
all_flat_map P g [] each = All-nil P
all_flat_map P g (x ∷ xs) each = All-append P (g x) (flat_map g xs) (All-head (λ x. All P (g x)) x xs each)
    (all_flat_map P g xs (All-tail (λ x. All P (g x)) x xs each))

often_among : (x : ℕ) (xs : List ℕ) → Among x xs → 0 < often x xs
often_among x [] among = absurd among
often_among x (y ∷ xs) (inl same) = subst (λ z. 0 < often z (y ∷ xs)) (sym same) (at_head y xs)
often_among x (y ∷ xs) (inr later) = let some = often_among x xs later in omega arith

pub all_up_to : (m : ℕ) → All (λ x. (1 ≤ x) × (x ≤ m)) (up_to m)
unfolding up_to
all_up_to zero = All-nil (λ x. (1 ≤ x) × (x ≤ 0))
all_up_to (suc m) = All-append (λ x. (1 ≤ x) × (x ≤ suc m)) (up_to m) (suc m ∷ [])
    (All-weaker (λ x. (1 ≤ x) × (x ≤ m)) (λ x. (1 ≤ x) × (x ≤ suc m)) (λ x is. (is.0, more x is.1)) (up_to m)
    (all_up_to m))
    (All-cons (λ x. (1 ≤ x) × (x ≤ suc m)) (suc m) [] (some m, itself m) (All-nil (λ x. (1 ≤ x) × (x ≤ suc m))))
  where
    more : (x : ℕ) → x ≤ m → x ≤ suc m
    more x h = omega arith

    some : (m : ℕ) → 1 ≤ suc m
    some m = omega arith

    itself : (m : ℕ) → suc m ≤ suc m
    itself m = omega arith

all_down_from : (n : ℕ) → All (λ w. w ≤ n) (down_from n)
unfolding down_from
all_down_from zero = All-cons (λ w. w ≤ 0) 0 [] (none 0) (All-nil (λ w. w ≤ 0))
  where
    none : (n : ℕ) → n ≤ n
    none n = omega arith
all_down_from (suc n) = All-cons (λ w. w ≤ suc n) (suc n) (down_from n) (itself n)
    (All-weaker (λ w. w ≤ n) (λ w. w ≤ suc n) (λ w h. more w h) (down_from n) (all_down_from n))
  where
    itself : (n : ℕ) → suc n ≤ suc n
    itself n = omega arith

    more : (w : ℕ) → w ≤ n → w ≤ suc n
    more w h = omega arith

-- ---- orders
-- The lists have the same members, each as often.
abbrev SameCounts : List ℕ → List ℕ → Type 0
SameCounts members order = (x : ℕ) → often x order ≡ often x members

all_permutations : (k : ℕ) (members : List ℕ) → length members ≡ k → ((x : ℕ) → often x members ≤ 1)
    → All (SameCounts members) (permutations k members)
unfolding permutations
all_permutations zero [] size once = All-cons (SameCounts []) [] [] (λ x. refl) (All-nil (SameCounts []))
all_permutations zero (z ∷ members) size once = absurd (omega arith)
all_permutations (suc k) members size once =
    all_flat_map (SameCounts members) (λ x. map (λ rest. x ∷ rest) (permutations k (without x members))) members
    (all_among (λ x. All (SameCounts members) (map (λ rest. x ∷ rest) (permutations k (without x members)))) members
    (λ x among.
    let some = often_among x members among in
    let few = once x in
    let once_in : often x members ≡ 1 = omega arith in
    let shorter = length-without x members in
    All-map (SameCounts members) (λ rest. x ∷ rest) (permutations k (without x members))
    (All-weaker (SameCounts (without x members)) (λ rest. SameCounts members (x ∷ rest))
    (λ rest is z. put_back x z rest once_in (is z ∙ often-without x z members)) (permutations k (without x members))
    (all_permutations k (without x members) (omega arith)
    (λ z. fewer (nat_eq x z) (often z members) _ (often-without x z members) (once z))))))
  where
    fewer : (b : Bool) (n l : ℕ) → l ≡ cond b 0 n → n ≤ 1 → l ≤ 1
    fewer b n l e h = grind arith

    put_back : (x z : ℕ) (rest : List ℕ) → often x members ≡ 1 → often z rest ≡ cond (nat_eq x z) 0 (often z members)
        → bit (nat_eq z x) + often z rest ≡ often z members
    put_back x z rest once_in is = by_number z x
        (λ same. step_same (nat_eq z x) (nat_eq x z) _ _ (equal z x same) (equal x z (sym same)) is
        (ap (λ y. often y members) same ∙ once_in))
        (λ other. step_other (nat_eq z x) (nat_eq x z) _ _ (differ z x other) (differ x z (λ e. other (sym e))) is)
      where
        equal : (y x : ℕ) → y ≡ x → nat_eq y x ≡ true
        equal y x e = grind (arith, nat_tests)

        differ : (y x : ℕ) → y ≢ x → nat_eq y x ≡ false
        differ y x e = grind (arith, nat_tests)

        step_same : (b c : Bool) (n o : ℕ) → b ≡ true → c ≡ true → n ≡ cond c 0 o → o ≡ 1 → bit b + n ≡ o
        step_same b c n o e g h i = grind arith

        step_other : (b c : Bool) (n o : ℕ) → b ≡ false → c ≡ false → n ≡ cond c 0 o → bit b + n ≡ o
        step_other b c n o e g h = grind arith

pub all_orders : (m : ℕ) → All (λ order. IsListing (all m) order) (orders m)
all_orders m = All-weaker (SameCounts (up_to m)) (λ order. IsListing (all m) order)
    (λ order is. listing_of (all m) order (record {
      each = λ x. is x ∙ often-up_to m x ∙ sym (ap bit (contains-all m x));
    })) (orders m)
    (all_permutations m (up_to m) (length-up_to m) (λ x. subst (λ n. n ≤ 1) (sym (often-up_to m x)) (at_most_one _)))
  where
    at_most_one : (b : Bool) → bit b ≤ 1
    at_most_one true = omega arith
    at_most_one false = omega arith

-- ---- profiles
total-with_line : (w : ℕ) (order : List ℕ) (lines : List Entry) → total_weight (with_line w order lines)
    ≡ w + total_weight lines
total-with_line zero order lines = none (total_weight lines)
  where
    none : (n : ℕ) → n ≡ 0 + n
    none n = omega arith
total-with_line (suc w) order lines =
    sum_by-cons (λ (e : Entry). e.weight) (record { weight = suc w; order = order }) lines

all_with_line : (P : Entry → Type 0) (w : ℕ) (order : List ℕ) (lines : List Entry)
    → ((v : ℕ) → P (record { weight = suc v; order = order })) → All P lines → All P (with_line w order lines)
all_with_line P zero order lines is on = on
all_with_line P (suc w) order lines is on = All-cons P (record { weight = suc w; order = order }) lines (is w) on

-- Each line has an order that lists all, and some weight.
abbrev IsCast : ℕ → Entry → Type 0
IsCast m line = IsListing (all m) line.order × (1 ≤ line.weight)

-- The profile is one of n voters.
abbrev IsOf : ℕ → ℕ → List Entry → Type 0
IsOf m n lines = All (IsCast m) lines × (total_weight lines ≡ n)

all_spread : (m : ℕ) (list : List (List ℕ)) (n : ℕ) → All (λ order. IsListing (all m) order) list
    → All (IsOf m n) (spread list n)
unfolding spread
all_spread m [] zero listings = All-cons (IsOf m 0) [] [] (All-nil (IsCast m), refl) (All-nil (IsOf m 0))
all_spread m [] (suc n) listings = All-nil (IsOf m (suc n))
all_spread m (order ∷ list) n listings =
    all_flat_map (IsOf m n) (λ w. map (with_line w order) (spread list (n - w))) (down_from n)
    (All-weaker (λ w. w ≤ n) (λ w. All (IsOf m n) (map (with_line w order) (spread list (n - w))))
    (λ w few. All-map (IsOf m n) (with_line w order) (spread list (n - w))
    (All-weaker (IsOf m (n - w)) (λ lines. IsOf m n (with_line w order lines))
    (λ lines is. (
      all_with_line (IsCast m) w order lines
          (λ v. (All-head (λ order. IsListing (all m) order) order list listings, some v)) is.0,
      total-with_line w order lines ∙ together w _ few is.1,
    )) (spread list (n - w))
    (all_spread m list (n - w) (All-tail (λ order. IsListing (all m) order) order list listings))))
    (down_from n) (all_down_from n))
  where
    some : (v : ℕ) → 1 ≤ suc v
    some v = omega arith

    together : (w l : ℕ) → w ≤ n → l ≡ n - w → w + l ≡ n
    together w l few e = omega arith

on_of : (m : ℕ) (lines : List Entry) → All (IsCast m) lines → IsProfileOn (all m) lines
on_of m lines cast = All-weaker (IsCast m) (λ (line : Entry). IsListing (all m) line.order) (λ line is. is.0) lines cast

-- ---- lifts
all_raises : (order : List ℕ) → All (λ (r : Raise). SameCounts order r.order) (raises order)
unfolding raises
all_raises [] = All-nil (λ (r : Raise). SameCounts [] r.order)
all_raises (y ∷ []) = All-nil (λ (r : Raise). SameCounts (y ∷ []) r.order)
all_raises (y ∷ x ∷ rest) =
    All-cons (λ (r : Raise). SameCounts (y ∷ x ∷ rest) r.order) (record { alternative = x; order = x ∷ y ∷ rest })
    (map (behind y) (raises (x ∷ rest)))
    (λ z. turn (bit (nat_eq z x)) (bit (nat_eq z y)) (often z rest))
    (All-map (λ (r : Raise). SameCounts (y ∷ x ∷ rest) r.order) (behind y) (raises (x ∷ rest))
    (All-weaker (λ (r : Raise). SameCounts (x ∷ rest) r.order) (λ (r : Raise). SameCounts (y ∷ x ∷ rest) (y ∷ r.order))
    (λ r is z. ap (λ n. bit (nat_eq z y) + n) (is z)) (raises (x ∷ rest)) (all_raises (x ∷ rest))))
  where
    turn : (a b n : ℕ) → a + (b + n) ≡ b + (a + n)
    turn a b n = omega arith

-- Both profiles have orders that list all, and the first one n voters.
record IsLiftOf (m n : ℕ) (l : Lift) : Type 0 where
  before : IsProfileOn (all m) l.before
  after : IsProfileOn (all m) l.after
  total : total_weight l.before ≡ n

all_lifts : (m : ℕ) (lines : List Entry) → All (IsCast m) lines
    → All (IsLiftOf m (total_weight lines)) (single_lifts lines)
unfolding single_lifts
all_lifts m [] cast = All-nil (IsLiftOf m (total_weight []))
all_lifts m (line ∷ lines) cast =
    All-append (IsLiftOf m (total_weight (line ∷ lines))) (map (line_lift line lines) (raises line.order))
    (map (behind_line line) (single_lifts lines))
    (All-map (IsLiftOf m (total_weight (line ∷ lines))) (line_lift line lines) (raises line.order)
    (All-weaker (λ (r : Raise). SameCounts line.order r.order)
    (λ (r : Raise). IsLiftOf m (total_weight (line ∷ lines)) (line_lift line lines r))
    (λ r is. record {
      before = split_line line.order;
      after = after_of r is;
      total = total-with_line (line.weight - 1) line.order (record { weight = 1; order = line.order } ∷ lines)
          ∙ together _ _ _ _ (sum_by-cons (λ (e : Entry). e.weight) (record { weight = 1; order = line.order }) lines)
          (sum_by-cons (λ (e : Entry). e.weight) line lines) here.1;
    }) (raises line.order) (all_raises line.order)))
    (All-map (IsLiftOf m (total_weight (line ∷ lines))) (behind_line line) (single_lifts lines)
    (All-weaker (IsLiftOf m (total_weight lines))
    (λ (l : Lift). IsLiftOf m (total_weight (line ∷ lines)) (behind_line line l))
    (λ l is. record {
      before = All-cons (λ (line : Entry). IsListing (all m) line.order) line l.before here.0 is.before;
      after = All-cons (λ (line : Entry). IsListing (all m) line.order) line l.after here.0 is.after;
      total = sum_by-cons (λ (e : Entry). e.weight) line l.before ∙ ap (λ n. line.weight + n) is.total
          ∙ sym (sum_by-cons (λ (e : Entry). e.weight) line lines);
    }) (single_lifts lines) (all_lifts m lines rest)))
  where
    here : IsCast m line
    here = All-head (IsCast m) line lines cast

    rest : All (IsCast m) lines
    rest = All-tail (IsCast m) line lines cast

    put : (order : List ℕ) → IsListing (all m) order
        → IsProfileOn (all m) (with_line (line.weight - 1) line.order (record { weight = 1; order = order } ∷ lines))
    put order listing = all_with_line (λ (line : Entry). IsListing (all m) line.order) (line.weight - 1) line.order
        (record { weight = 1; order = order } ∷ lines) (λ v. here.0)
        (All-cons (λ (line : Entry). IsListing (all m) line.order) (record { weight = 1; order = order }) lines listing
        (on_of m lines rest))

    split_line : (order : List ℕ) → IsProfileOn (all m) (with_line (line.weight - 1) line.order
        (record { weight = 1; order = line.order } ∷ lines))
    split_line order = put line.order here.0

    after_of : (r : Raise) → SameCounts line.order r.order → IsProfileOn (all m) (line_lift line lines r).after
    after_of r is = put r.order (listing_of (all m) r.order (record {
      each = λ x. is x ∙ (lists_of (all m) line.order here.0).each x;
    }))

    together : (w l n k : ℕ) → l ≡ 1 + n → k ≡ w + n → 1 ≤ w → w - 1 + l ≡ k
    together w l n k e g h = omega arith

-- ---- cases
-- The case is of profiles, and of that size.
abbrev IsOfSize : ℕ → ℕ → Case → Type 0
IsOfSize most voters c = AreElections c × IsUpTo most voters c

module _ (prop : Prop) (most voters : ℕ) where
  module _ (m n : ℕ) (some : 1 ≤ m) (few : m ≤ most) (light : n ≤ voters) where
    elections : (lines : List Entry) → IsProfileOn (all m) lines → IsElection (all m) lines
    elections lines on = record { positive = contains-all m 0; lists = on }

    within : (lines : List Entry) → total_weight lines ≡ n → IsWithin most voters (election m lines)
    within lines total = record {
      number = m;
      some = some;
      few = few;
      members = refl;
      weights = subst (λ k. k ≤ voters) (sym total) light;
    }

    all_cases_of : (lines : List Entry) → IsOf m n lines → All (IsOfSize most voters) (cases_of prop m lines)
    all_cases_of lines is =
        let on = on_of m lines is.0 in
        let is_one = elections lines on in
        let size = within lines is.1 in
        in_cases (is_on_lifts prop)
        (λ kind. subst (All (IsOfSize most voters)) (sym (cases_of-lifts prop m lines kind))
        (All-cons (IsOfSize most voters) (pair (election m lines) (election m lines) 1)
        (map (lift_case m) (single_lifts lines)) ((is_one, is_one), size)
        (All-map (IsOfSize most voters) (lift_case m) (single_lifts lines)
        (All-weaker (IsLiftOf m (total_weight lines)) (λ (l : Lift). IsOfSize most voters (lift_case m l))
        (λ l lifts. (
          (elections l.before lifts.before, elections l.after lifts.after),
          within l.before
              (lifts.total ∙ is.1),
        )) (single_lifts lines) (all_lifts m lines is.0)))))
        (λ kind. in_cases (is_neutrality prop)
        (λ neut. subst (All (IsOfSize most voters)) (sym (cases_of-exchanges prop m lines (neutrality prop neut)))
        (All-map (IsOfSize most voters) (exchange_case m lines) (up_to (m - 1))
        (All-weaker (λ i. (1 ≤ i) × (i ≤ m - 1)) (λ i. IsOfSize most voters (exchange_case m lines i))
        (λ i inside. (is_one, (size, (exchange_onto m i inside.0 (omega arith)).onto))) (up_to (m - 1))
        (all_up_to (m - 1)))))
        (λ other. subst (All (IsOfSize most voters)) (sym (cases_of-one prop m lines kind other))
        (All-cons (IsOfSize most voters) (one (election m lines)) [] (is_one, size)
        (All-nil (IsOfSize most voters)))))

  all_cases_at : (m n : ℕ) → 1 ≤ m → m ≤ most → n ≤ voters → All (IsOfSize most voters) (cases_at prop m n)
  unfolding cases_at
  all_cases_at m n some few light = all_flat_map (IsOfSize most voters) (cases_of prop m) (spread (orders m) n)
      (All-weaker (IsOf m n) (λ lines. All (IsOfSize most voters) (cases_of prop m lines))
      (λ lines is. all_cases_of m n some few light lines is) (spread (orders m) n)
      (all_spread m (orders m) n (all_orders m)))

  all_cases_on : (m : ℕ) → 1 ≤ m → m ≤ most → All (IsOfSize most voters) (cases_on prop voters m)
  unfolding cases_on
  all_cases_on m some few = all_flat_map (IsOfSize most voters) (cases_at prop m) (0 ∷ up_to voters)
      (All-cons (λ n. All (IsOfSize most voters) (cases_at prop m n)) 0 (up_to voters)
      (all_cases_at m 0 some few (omega arith))
      (All-weaker (λ n. (1 ≤ n) × (n ≤ voters)) (λ n. All (IsOfSize most voters) (cases_at prop m n))
      (λ n inside. all_cases_at m n some few inside.1) (up_to voters) (all_up_to voters)))

  pub listed_cases : All (λ c. AreElections c × IsUpTo most voters c) (cases prop most voters)
  unfolding cases
  listed_cases = all_flat_map (IsOfSize most voters) (cases_on prop voters) (up_to most)
      (All-weaker (λ m. (1 ≤ m) × (m ≤ most)) (λ m. All (IsOfSize most voters) (cases_on prop voters m))
      (λ m inside. all_cases_on m inside.0 inside.1) (up_to most) (all_up_to most))

-- no case of the list violates exactly where the property holds up to that size
pub small_cases : (t : Tree) (prop : Prop) (most voters : ℕ) → All (λ c. Violates prop (mean t) c → ⊥)
    (cases prop most voters) ↔ HoldsUpTo most voters prop (mean t)
small_cases t prop most voters = (
  complete t prop most voters,
  λ holds. All-weaker (λ c. AreElections c × IsUpTo most voters c) (λ c. Violates prop (mean t) c → ⊥)
      (λ c is violates. violates.conclusion_false (holds c is.0 is.1 violates.one_or_lift violates.premise))
      (cases prop most voters) (listed_cases prop most voters),
)
