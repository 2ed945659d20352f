-- Laws of orders: which of them a profile takes, and what a set keeps of them.
use Rattle.std.proofs.Common.{◌≡◌, ℕ, ◌+◌, ◌-◌, ◌≤◌, ◌↔◌, Bool, true, false, not, cond, ◌&&◌, ◌||◌, List, [], ◌∷◌, ◌++◌}
use Rattle.std.proofs.Common.{length, Option, Some, None, nat_eq, nat_le, nat_lt, refl, sym, ap, ◌∙◌, arith, subst}
use Rattle.std.proofs.lemmas.Bool.Decides.{nat_tests}
use Rattle.std.proofs.lemmas.List.Folds.{list_any-append}
use Rattle.std.proofs.lemmas.List.Sums.{sum_by-cons}
use Rattle.std.specs.FinSet as set
use Rattle.std.specs.List.{list_any, filter}
use Rattle.std.specs.Ordering.{nat_cmp}
use Rattle.vir_altset.specs.Sets.{Set, all, IsPart}
use Rattle.vir_altset.specs.SetLaws.{contains-empty, contains-remove, contains-all, contains-from_list, same_members}
use Rattle.vir_altset.specs.Splits.{bit}
use Rattle.vir_altset.proofs.SizeLaws.{len-empty, len-remove, len_of_member, len-all, whole_part}
use Rattle.vir_profile.specs.declared.refused.AddFault.{AddFault}
use Rattle.vir_profile.specs.declared.refused.AddFault.TheVariants.{OutOfRange, Repeated, Short}
use Rattle.vir_profile.specs.Orders.{times, IsListing, puts_before}
use Rattle.vir_profile.specs.OrderFaults.{member_fault_after, fault_where, or_else, order_fault}

-- whether x is a member of the list
abbrev pub met : ℕ → List ℕ → Bool
met x xs = list_any (λ y. nat_eq y x) xs

-- how often x stands in a list with one more element
pub times-cons : (x y : ℕ) (ys : List ℕ) → times x (y ∷ ys) ≡ cond (nat_eq y x) 1 0 + times x ys
times-cons x y ys = sum_by-cons (λ z. cond (nat_eq z x) 1 0) y ys

eq_itself : (x : ℕ) → nat_eq x x ≡ true
eq_itself x = grind (arith, nat_tests)

eq_flip : (x y : ℕ) → nat_eq x y ≡ nat_eq y x
eq_flip x y = grind (arith, nat_tests)

same_of_eq : (x y : ℕ) → nat_eq x y ≡ true → x ≡ y
same_of_eq x y h = grind (arith, nat_tests)

-- the first member of a list stands in it
pub times_first : (x : ℕ) (xs : List ℕ) → times x (x ∷ xs) ≡ 1 + times x xs
times_first x xs = times-cons x x xs ∙ ap (λ b. cond b 1 0 + times x xs) (eq_itself x)

-- what stands in the rest of a list stands in the list
pub times_rest : (x y : ℕ) (ys : List ℕ) → 1 ≤ times x ys → 1 ≤ times x (y ∷ ys)
times_rest x y ys some = let sum = times-cons x y ys in omega arith

-- a member stands at least once in its list
times_met : (x : ℕ) (xs : List ℕ) → met x xs ≡ true → 1 ≤ times x xs
times_met x [] h = cc h
times_met x (y ∷ ys) h = subst (λ n. 1 ≤ n) (sym (times-cons x y ys)) (step (nat_eq y x) (met x ys) (times x ys)
    (times_met x ys) h)
  where
    step : (same later : Bool) (t : ℕ) → (later ≡ true → 1 ≤ t) → (same || later) ≡ true → 1 ≤ cond same 1 0 + t
    step same later t more h = grind arith

-- what isn't a member of a list doesn't stand in it
times_unmet : (x : ℕ) (xs : List ℕ) → met x xs ≡ false → times x xs ≡ 0
times_unmet x [] h = refl
times_unmet x (y ∷ ys) h = times-cons x y ys ∙ step (nat_eq y x) (met x ys) (times x ys) (times_unmet x ys) h
  where
    step : (same later : Bool) (t : ℕ) → (later ≡ false → t ≡ 0) → (same || later) ≡ false → cond same 1 0 + t ≡ 0
    step same later t none h = grind arith

-- the members of the rest are alternatives, each stands there once, and not among those before
record IsFaultless (m : ℕ) (before rest : List ℕ) : Type 0 where
  pub once : (x : ℕ) → bit (met x before) + times x rest ≤ 1
  pub ranged : (x : ℕ) → 1 ≤ times x rest → (1 ≤ x) × (x ≤ m)

-- the members of a list with one more element at its end
met_more : (x z : ℕ) (before : List ℕ) → met x (before ++ z ∷ []) ≡ (met x before || (nat_eq z x || false))
met_more x z before = list_any-append (λ y. nat_eq y x) before (z ∷ [])

-- where a member and those after it give no fault
first_fault : (inside again : Bool) (next : Option AddFault) → cond inside (cond again (Some Repeated) next)
    (Some OutOfRange) ≡ None → (inside ≡ true) × (again ≡ false) × (next ≡ None)
first_fault true true next h = cc h
first_fault true false next h = (refl, refl, h)
first_fault false again next h = cc h

within_test : (m z : ℕ) → (nat_le 1 z && nat_le z m) ≡ true → (1 ≤ z) × (z ≤ m)
within_test m z h = (grind (arith, nat_tests), grind (arith, nat_tests))

test_within : (m z : ℕ) → (1 ≤ z) × (z ≤ m) → (nat_le 1 z && nat_le z m) ≡ true
test_within m z within = let low = within.0 in let high = within.1 in grind (arith, nat_tests)

bit_le : (b : Bool) → bit b + 0 ≤ 1
bit_le true = omega arith
bit_le false = omega arith

-- what members without a fault are
faultless_of_none : (m : ℕ) (before rest : List ℕ) → member_fault_after m before rest ≡ None → IsFaultless m before rest
faultless_of_none m before [] h = record { once = λ x. bit_le (met x before); ranged = λ x some. absurd (omega arith) }
faultless_of_none m before (z ∷ zs) h =
    let here = first_fault (nat_le 1 z && nat_le z m) (met z before) (member_fault_after m (before ++ z ∷ []) zs) h in
    let later = faultless_of_none m (before ++ z ∷ []) zs here.2 in
    record {
      once = λ x. subst (λ n. bit (met x before) + n ≤ 1) (sym (times-cons x z zs))
          (step (met x before) (nat_eq z x) (times x zs) (λ e. ap (λ y. met y before) (sym (same_of_eq z x e)) ∙ here.1)
          (subst (λ b. bit b + times x zs ≤ 1) (met_more x z before) (later.once x)));
      ranged = λ x some. inside x (nat_eq z x) (times x zs) (λ e. subst (λ y. (1 ≤ y) × (y ≤ m)) (same_of_eq z x e)
          (within_test m z here.0)) (later.ranged x) (subst (λ n. 1 ≤ n) (times-cons x z zs) some);
    }
  where
    step : (before same : Bool) (t : ℕ) → (same ≡ true → before ≡ false) → bit (before || (same || false)) + t ≤ 1
        → bit before + (cond same 1 0 + t) ≤ 1
    step before same t new h = grind arith

    inside : (x : ℕ) (same : Bool) (t : ℕ) → (same ≡ true → (1 ≤ x) × (x ≤ m)) → (1 ≤ t → (1 ≤ x) × (x ≤ m))
        → 1 ≤ cond same 1 0 + t → (1 ≤ x) × (x ≤ m)
    inside x same t first more h = grind arith

-- the converse
none_of_faultless : (m : ℕ) (before rest : List ℕ) → IsFaultless m before rest → member_fault_after m before rest ≡ None
none_of_faultless m before [] f = refl
none_of_faultless m before (z ∷ zs) f =
    let first = times_first z zs in
    let once = f.once z in
    let inside = test_within m z (f.ranged z (omega arith)) in
    let new = fresh (met z before) (times z zs) (subst (λ n. bit (met z before) + n ≤ 1) first once) in
    let later = none_of_faultless m (before ++ z ∷ []) zs (record {
      once = λ x. subst (λ b. bit b + times x zs ≤ 1) (sym (met_more x z before))
          (step (met x before) (nat_eq z x) (times x zs) (subst (λ n. bit (met x before) + n ≤ 1) (times-cons x z zs)
          (f.once x)));
      ranged = λ x some. f.ranged x (times_rest x z zs some);
    }) in
    rw (inside, new) later
  where
    fresh : (before : Bool) (t : ℕ) → bit before + (1 + t) ≤ 1 → before ≡ false
    fresh before t h = grind arith

    step : (before same : Bool) (t : ℕ) → bit before + (cond same 1 0 + t) ≤ 1 → bit (before || (same || false)) + t ≤ 1
    step before same t h = grind arith

-- the set has as many members as an order that lists each of them once
pub len-listing : (order : List ℕ) (a : Set) → IsListing a order → set.len a ≡ length order
len-listing [] a lists = ap set.len (same_members a set.empty (λ x. none (set.contains a x) (times x []) (lists x) refl
    ∙ sym (contains-empty x))) ∙ len-empty
  where
    none : (b : Bool) (t : ℕ) → t ≡ cond b 1 0 → t ≡ 0 → b ≡ false
    none b t is nothing = grind arith
len-listing (z ∷ zs) a lists =
    let here = member (set.contains a z) (times z zs) (sym (times_first z zs) ∙ lists z) in
    let later = len-listing zs (set.remove a z) (λ x. step (nat_eq z x) (set.contains a x) (times x zs)
    (sym (times-cons x z zs) ∙ lists x) ∙ ap (λ b. cond b 1 0) (ap (λ b. not b && set.contains a x) (eq_flip z x)
    ∙ sym (contains-remove a z x))) in
    let less : set.len (set.remove a z) ≡ set.len a - 1 = len-remove a z ∙ ap (λ b. cond b (set.len a - 1) (set.len a))
    here in
    let some = len_of_member a z here in
    omega arith
  where
    member : (b : Bool) (t : ℕ) → 1 + t ≡ cond b 1 0 → b ≡ true
    member b t h = grind arith

    step : (same inside : Bool) (t : ℕ) → cond same 1 0 + t ≡ cond inside 1 0 → t ≡ cond (not same && inside) 1 0
    step same inside t h = grind arith

-- an order in which no member stands twice lists the set of its members
pub listing-from_list : (order : List ℕ) → ((x : ℕ) → times x order ≤ 1) → IsListing (set.from_list order) order
listing-from_list order once x = step (met x order) (times x order) (times_met x order) (times_unmet x order) (once x)
    ∙ ap (λ b. cond b 1 0) (sym (contains-from_list order x))
  where
    step : (b : Bool) (t : ℕ) → (b ≡ true → 1 ≤ t) → (b ≡ false → t ≡ 0) → t ≤ 1 → t ≡ cond b 1 0
    step b t some none once = grind arith

-- what an order lists is in the set
pub listed_member : (a : Set) (order : List ℕ) → IsListing a order → (x : ℕ) → 1 ≤ times x order → set.contains a x
    ≡ true
listed_member a order lists x some = step (set.contains a x) (times x order) (lists x) some
  where
    step : (b : Bool) (t : ℕ) → t ≡ cond b 1 0 → 1 ≤ t → b ≡ true
    step b t is some = grind arith

-- an order that lists a set lists nothing twice
pub listed_once : (a : Set) (order : List ℕ) → IsListing a order → (x : ℕ) → times x order ≤ 1
listed_once a order lists x = subst (λ n. n ≤ 1) (sym (lists x)) (step (set.contains a x))
  where
    step : (b : Bool) → cond b 1 0 ≤ 1
    step true = omega arith
    step false = omega arith

no_fault : (first next : Option AddFault) → or_else first next ≡ None → (first ≡ None) × (next ≡ None)
no_fault (Some fault) next h = cc h
no_fault None next h = (refl, h)

long_enough : (n m : ℕ) → fault_where (nat_lt n m) Short ≡ None → m ≤ n
long_enough n m h = step (nat_lt n m) (λ e. grind (arith, nat_tests)) h
  where
    step : (test : Bool) → (test ≡ false → m ≤ n) → fault_where test Short ≡ None → m ≤ n
    step true large h = cc h
    step false large h = large refl

not_short : (n m : ℕ) → m ≤ n → fault_where (nat_lt n m) Short ≡ None
not_short n m h = ap (λ b. fault_where b Short) (tells n m h)
  where
    tells : (n m : ℕ) → m ≤ n → nat_lt n m ≡ false
    tells n m h = grind (arith, nat_tests)

-- the members of the set of all alternatives are the numbers from 1 to m
pub member_of_all : (m x : ℕ) → (1 ≤ x) × (x ≤ m) → set.contains (all m) x ≡ true
member_of_all m x within = contains-all m x ∙ tells m x within
  where
    tells : (m x : ℕ) → (1 ≤ x) × (x ≤ m) → (nat_lt 0 x && nat_le x m) ≡ true
    tells m x within = let low = within.0 in let high = within.1 in grind (arith, nat_tests)

pub range_of_member : (m x : ℕ) → set.contains (all m) x ≡ true → (1 ≤ x) × (x ≤ m)
range_of_member m x member = tells m x (sym (contains-all m x) ∙ member)
  where
    tells : (m x : ℕ) → (nat_lt 0 x && nat_le x m) ≡ true → (1 ≤ x) × (x ≤ m)
    tells m x h = (grind (arith, nat_tests), grind (arith, nat_tests))

-- an order without a fault lists the alternatives from 1 to m
pub listing_of_accepted : (m : ℕ) (order : List ℕ) → order_fault m order ≡ None → IsListing (all m) order
listing_of_accepted m order none =
    let both = no_fault (member_fault_after m [] order) (fault_where (nat_lt (length order) m) Short) none in
    let faultless = faultless_of_none m [] order both.0 in
    let long = long_enough (length order) m both.1 in
    let lists : IsListing (set.from_list order) order = listing-from_list order (λ x. let once = faultless.once x
    in omega arith) in
    let part : IsPart (set.from_list {R = nat_cmp} order) (all m) = λ x inside. member_of_all m x
    (faultless.ranged x (let one = lists x ∙ ap (λ b. cond b 1 0) inside in omega arith)) in
    let size = len-listing order (set.from_list order) lists in
    let whole = len-all m in
    subst (λ s. IsListing s order) (whole_part (set.from_list order) (all m) part (omega arith)) lists

-- an order that lists the alternatives from 1 to m has no fault
pub accepted_of_listing : (m : ℕ) (order : List ℕ) → IsListing (all m) order → order_fault m order ≡ None
accepted_of_listing m order lists =
    let members = none_of_faultless m [] order
    (record {
      once = λ x. let once = listed_once (all m) order lists x in omega arith;
      ranged = λ x some. range_of_member m x (listed_member (all m) order lists x some);
    }) in
    let size = len-listing order (all m) lists in
    let whole = len-all m in
    rw members (not_short (length order) m (omega arith))

-- a profile of m alternatives takes the orders that list each of them once
pub accepted_orders : (m : ℕ) (order : List ℕ) → (order_fault m order ≡ None) ↔ IsListing (all m) order
accepted_orders m order = (listing_of_accepted m order, accepted_of_listing m order)

-- how often a member stands in what a set keeps of an order
pub times-filter : (d : Set) (x : ℕ) (order : List ℕ) → times x (filter (set.contains d) order)
    ≡ cond (set.contains d x) (times x order) 0
times-filter d x [] = step (set.contains d x) (times x []) refl
  where
    step : (b : Bool) (t : ℕ) → t ≡ 0 → t ≡ cond b t 0
    step true t none = refl
    step false t none = none
times-filter d x (z ∷ zs) =
    kept (set.contains d z) (filter (set.contains d) zs)
    ∙ ap (λ n. cond (set.contains d z) (cond (nat_eq z x) 1 0) 0 + n) (times-filter d x zs)
    ∙ step (set.contains d z) (nat_eq z x) (set.contains d x) (times x zs) (λ e. ap (set.contains d) (same_of_eq z x e))
    ∙ ap (λ n. cond (set.contains d x) n 0) (sym (times-cons x z zs))
  where
    kept : (keep : Bool) (rest : List ℕ) → times x (cond keep (z ∷ rest) rest) ≡ cond keep (cond (nat_eq z x) 1 0) 0
        + times x rest
    kept true rest = times-cons x z rest
    kept false rest = omega arith

    step : (keep same inside : Bool) (t : ℕ) → (same ≡ true → keep ≡ inside) → cond keep (cond same 1 0) 0
        + cond inside t 0 ≡ cond inside (cond same 1 0 + t) 0
    step keep same inside t is = grind arith

-- what a part keeps of an order that lists a set lists the part
pub listing_of_part : (a d : Set) (order : List ℕ) → IsPart d a → IsListing a order
    → IsListing d (filter (set.contains d) order)
listing_of_part a d order part lists x = times-filter d x order ∙ step (set.contains d x) (set.contains a x)
    (times x order) (part x) (lists x)
  where
    step : (in_d in_a : Bool) (t : ℕ) → (in_d ≡ true → in_a ≡ true) → t ≡ cond in_a 1 0 → cond in_d t 0 ≡ cond in_d 1 0
    step in_d in_a t part is = grind arith

-- a set with each member of an order keeps all of it
pub filter_whole : (a : Set) (order : List ℕ) → ((x : ℕ) → 1 ≤ times x order → set.contains a x ≡ true)
    → filter (set.contains a) order ≡ order
filter_whole a [] inside = refl
filter_whole a (z ∷ zs) inside =
    let first = times_first z zs in
    ap (λ b. cond b (z ∷ filter (set.contains a) zs) (filter (set.contains a) zs)) (inside z (omega arith))
    ∙ ap (λ rest. z ∷ rest) (filter_whole a zs (λ x some. inside x (times_rest x z zs some)))

-- which of two members an order puts first is so also in what a set with both of them keeps
pub puts_before-filter : (d : Set) (x y : ℕ) (order : List ℕ) → set.contains d x ≡ true → set.contains d y ≡ true
    → puts_before x y (filter (set.contains d) order) ≡ puts_before x y order
puts_before-filter d x y [] with_x with_y = refl
puts_before-filter d x y (z ∷ zs) with_x with_y =
    kept (set.contains d z) (filter (set.contains d) zs)
    ∙ ap (λ b. cond (set.contains d z) (cond (nat_eq z y) false (cond (nat_eq z x) true b)) b)
    (puts_before-filter d x y zs with_x with_y)
    ∙ step (set.contains d z) (nat_eq z y) (nat_eq z x) (puts_before x y zs)
    (λ e. ap (set.contains d) (same_of_eq z y e) ∙ with_y) (λ e. ap (set.contains d) (same_of_eq z x e) ∙ with_x)
  where
    kept : (keep : Bool) (rest : List ℕ) → puts_before x y (cond keep (z ∷ rest) rest)
        ≡ cond keep (cond (nat_eq z y) false (cond (nat_eq z x) true (puts_before x y rest))) (puts_before x y rest)
    kept true rest = refl
    kept false rest = refl

    step : (keep is_y is_x rest : Bool) → (is_y ≡ true → keep ≡ true) → (is_x ≡ true → keep ≡ true)
        → cond keep (cond is_y false (cond is_x true rest)) rest ≡ cond is_y false (cond is_x true rest)
    step keep is_y is_x rest y x = grind arith
