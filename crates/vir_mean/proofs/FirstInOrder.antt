-- The first members of a set in a fixed order, taken one after another.
use Rattle.std.proofs.Common.{◌≡◌, ℕ, zero, suc, ◌+◌, ◌-◌, ◌<◌, ◌≤◌, Bool, true, false, cond, not, ◌||◌, ◌&&◌, nat_eq}
use Rattle.std.proofs.Common.{nat_lt, nat_le, List, [], ◌∷◌, ◌++◌, length, get_or, None, refl, sym, ap, ◌∙◌}
use Rattle.std.proofs.Common.{arith, eqb-true}
use Rattle.std.proofs.lemmas.Bool.Decides.{nat_tests}
use Rattle.std.specs.FinSet as set
use Rattle.std.specs.List.{list_any}
use Rattle.vir_altset.specs.Sets.{Set, limit, IsPart, IsNext}
use Rattle.vir_altset.specs.SetLaws.{contains-empty, contains-insert, contains-remove, contains-difference}
use Rattle.vir_altset.specs.SetLaws.{contains-retain, same_members, set_members}
use Rattle.vir_altset.proofs.SizeLaws.{len-insert, len-remove, len_of_member, len-part}
use Rattle.vir_term.specs.Orders.{order_fault, order_fault_after}
use Rattle.vir_mean.specs.FixedOrders.{place, is_ahead, is_among_first, first_members}

-- ---- the list
-- what stands in the list is an alternative
alternative_after : (before list : List ℕ) (i : ℕ) → order_fault_after before list ≡ None → i < length list
    → (1 ≤ get_or list i 0) × (get_or list i 0 ≤ limit)
alternative_after before [] i sound within = absurd (omega arith)
alternative_after before (x ∷ rest) zero sound within =
    elim (nat_le 1 x && nat_le x limit) as (λ b. (nat_le 1 x && nat_le x limit) ≡ b → (1 ≤ x) × (x ≤ limit)) [
      | true ↦ λ e. (grind (arith, nat_tests), grind (arith, nat_tests))
      | false ↦ λ e. grind arith
    ] refl
alternative_after before (x ∷ rest) (suc i) sound within =
    elim (nat_le 1 x && nat_le x limit) as (λ b. (nat_le 1 x && nat_le x limit) ≡ b → (1 ≤ get_or rest i 0) ×
    (get_or rest i 0 ≤ limit)) [
      | true ↦ λ e. elim (list_any (λ y. nat_eq y x) before) as (λ b. list_any (λ y. nat_eq y x) before ≡ b →
          (1 ≤ get_or rest i 0) × (get_or rest i 0 ≤ limit)) [
            | true ↦ λ f. grind arith
            | false ↦ λ f. alternative_after (before ++ x ∷ []) rest i (grind arith) (omega arith)
          ] refl
      | false ↦ λ e. grind arith
    ] refl

pub alternative_at : (order : List ℕ) (i : ℕ) → order_fault order ≡ None → i < length order
    → (1 ≤ get_or order i 0) × (get_or order i 0 ≤ limit)
alternative_at order i = alternative_after [] order i

-- no member of the list stands behind where it is found
place_at : (order : List ℕ) (i : ℕ) → i < length order → place (get_or order i 0) order ≤ i
place_at [] i within = absurd (omega arith)
place_at (y ∷ rest) zero within = grind (arith, nat_tests)
place_at (y ∷ rest) (suc i) within = let before = place_at rest i (omega arith) in grind (arith, nat_tests)

-- nothing has a place behind that of those that aren't listed
place_within : (order : List ℕ) (x : ℕ) → place x order ≤ length order
place_within [] x = omega arith
place_within (y ∷ rest) x = let before = place_within rest x in grind (arith, nat_tests)

-- what has a place in the list stands there
at_place : (order : List ℕ) (x : ℕ) → place x order < length order → get_or order (place x order) 0 ≡ x
at_place [] x within = absurd (omega arith)
at_place (y ∷ rest) x within = elim (nat_eq x y) as (λ b. nat_eq x y ≡ b → get_or (y ∷ rest) (place x (y ∷ rest)) 0 ≡
    x) [
      | true ↦ λ e. grind (arith, nat_tests)
      | false ↦ λ e. let before = at_place rest x in grind (arith, nat_tests)
    ] refl

-- ---- a fixed order is a strict total order
not_ahead_of_itself : (order : List ℕ) (x : ℕ) → is_ahead order x x ≡ false
not_ahead_of_itself order x = grind (arith, nat_tests)

one_ahead : (order : List ℕ) (x y : ℕ) → nat_eq y x ≡ false → is_ahead order x y ≡ false → is_ahead order y x ≡ true
one_ahead order x y other not_ahead = grind (arith, nat_tests)

-- ---- the front of a set: with each member it has those ahead of it
pub record IsFront (order : List ℕ) (a first : Set) : Type 0 where
  pub part : IsPart first a
  pub closed : (x y : ℕ) → set.contains first x ≡ true → set.contains a y ≡ true → is_ahead order x y ≡ true
      → set.contains first y ≡ true

pub no_front : (order : List ℕ) (a : Set) → IsFront order a set.empty
no_front order a = record {
  part = λ x member. grind (arith, contains-empty);
  closed = λ x y member other ahead. grind (arith, contains-empty);
}

-- one more, where those ahead of it are in front already
pub front_more : (order : List ℕ) (a first : Set) (x : ℕ) → IsFront order a first → set.contains a x ≡ true
    → ((y : ℕ) → set.contains a y ≡ true → is_ahead order x y ≡ true → set.contains first y ≡ true)
    → IsFront order a (set.insert first x)
front_more order a first x front member ahead = record {
  part = λ y found. elim (nat_eq y x) as (λ b. nat_eq y x ≡ b → set.contains a y ≡ true) [
    | true ↦ λ e. ap (set.contains a) (eqb-true y x e) ∙ member
    | false ↦ λ e. front.part y (before y e found)
  ] refl;
  closed = λ z y found other is. wider y (elim (nat_eq z x) as (λ b. nat_eq z x ≡ b → set.contains first y ≡ true) [
    | true ↦ λ e. ahead y other (ap (λ w. is_ahead order w y) (sym (eqb-true z x e)) ∙ is)
    | false ↦ λ e. front.closed z y (before z e found) other is
  ] refl);
}
  where
    before : (y : ℕ) → nat_eq y x ≡ false → set.contains (set.insert first x) y ≡ true → set.contains first y ≡ true
    before y other found = grind (arith, contains-insert)

    wider : (y : ℕ) → set.contains first y ≡ true → set.contains (set.insert first x) y ≡ true
    wider y found = grind (arith, contains-insert)

-- a front of k members, or of all where there are fewer, is the first k members
pub front_is_first : (k : ℕ) (order : List ℕ) (a first : Set) → IsFront order a first → set.len first ≤ k
    → (set.len first < k → IsPart a first) → first ≡ first_members k order a
front_is_first k order a first front few all = same_members first (first_members k order a) (λ x.
    step (set.contains first x) (set.contains a x) (is_among_first k order a x) (front.part x) (inside x) (outside x)
    ∙ sym (contains-retain a (is_among_first k order a) x))
  where
    step : (in_first in_a among : Bool) → (in_first ≡ true → in_a ≡ true) → (in_first ≡ true → among ≡ true)
        → (in_first ≡ false → in_a ≡ true → among ≡ false) → in_first ≡ (in_a && among)
    step in_first in_a among part here there = grind (arith, part, here, there)

    inside : (x : ℕ) → set.contains first x ≡ true → is_among_first k order a x ≡ true
    inside x found =
        let others : IsPart (set.retain a (is_ahead order x)) (set.remove first x) = (λ y ahead.
        let member : set.contains a y ≡ true = grind (arith, contains-retain) in
        let is : is_ahead order x y ≡ true = grind (arith, contains-retain) in
        contains-remove first x y ∙ ap (λ b. b && set.contains first y) (elim (nat_eq y x) as (λ b. nat_eq y x ≡ b
        → not b ≡ true) [
          | true ↦ λ e. absurd (let no : true ≡ false = sym is ∙ ap (is_ahead order x) (eqb-true y x e)
              ∙ not_ahead_of_itself order x in grind arith)
          | false ↦ λ e. refl
        ] refl) ∙ front.closed x y found member is) in
        let fewer = len-part _ _ others in
        let size : set.len (set.remove first x) ≡ set.len first - 1 = len-remove first x ∙ ap (λ b. cond b
        (set.len first - 1) (set.len first)) found in
        let some = len_of_member first x found in
        below (set.len (set.retain a (is_ahead order x))) k (omega arith)
      where
        below : (n k : ℕ) → n < k → nat_lt n k ≡ true
        below n k lt = grind (arith, nat_tests)

    outside : (x : ℕ) → set.contains first x ≡ false → set.contains a x ≡ true → is_among_first k order a x ≡ false
    outside x out member =
        let full : k ≤ set.len first = elim (nat_lt (set.len first) k) as (λ b. nat_lt (set.len first) k ≡ b → k ≤
        set.len first) [
          | true ↦ λ e. absurd (let no : true ≡ false = sym (all (below (set.len first) k e) x member) ∙ out in grind
              arith)
          | false ↦ λ e. above (set.len first) k e
        ] refl in
        let others : IsPart first (set.retain a (is_ahead order x)) = (λ y found.
        contains-retain a (is_ahead order x) y ∙ ap (λ b. b && is_ahead order x y) (front.part y found)
        ∙ elim (is_ahead order x y) as (λ b. is_ahead order x y ≡ b → b ≡ true) [
          | true ↦ λ e. refl
          | false ↦ λ e. absurd (let no : true ≡ false = sym (front.closed y x found member (one_ahead order x y
              (apart y found) e)) ∙ out in grind arith)
        ] refl) in
        let fewer = len-part _ _ others in
        not_below (set.len (set.retain a (is_ahead order x))) k (omega arith)
      where
        below : (n k : ℕ) → nat_lt n k ≡ true → n < k
        below n k lt = grind (arith, nat_tests)

        above : (n k : ℕ) → nat_lt n k ≡ false → k ≤ n
        above n k lt = grind (arith, nat_tests)

        not_below : (n k : ℕ) → k ≤ n → nat_lt n k ≡ false
        not_below n k le = grind (arith, nat_tests)

        apart : (y : ℕ) → set.contains first y ≡ true → nat_eq y x ≡ false
        apart y found = elim (nat_eq y x) as (λ b. nat_eq y x ≡ b → b ≡ false) [
          | true ↦ λ e. sym found ∙ ap (set.contains first) (eqb-true y x e) ∙ out
          | false ↦ λ e. refl
        ] refl

-- ---- what is left of the set
pub without_none : (a : Set) → a ≡ set.difference a set.empty
without_none a = same_members _ _ (λ y. grind (arith, set_members))

module _ (order : List ℕ) (a first left : Set) (rest : left ≡ set.difference a first) where
  in_left : (y : ℕ) → set.contains a y ≡ true → set.contains first y ≡ false → set.contains left y ≡ true
  in_left y member out = ap (λ s. set.contains s y) rest ∙ grind (arith, contains-difference)

  pub member_of_left : (y : ℕ) → set.contains left y ≡ true → set.contains a y ≡ true
  member_of_left y here = let same = sym here ∙ ap (λ s. set.contains s y) rest in grind (arith, contains-difference)

  pub not_in_front : (y : ℕ) → set.contains left y ≡ true → set.contains first y ≡ false
  not_in_front y here = let same = sym here ∙ ap (λ s. set.contains s y) rest in grind (arith, contains-difference)

  -- what isn't left is in front
  in_front : (y : ℕ) → set.contains a y ≡ true → (set.contains left y ≡ true → false ≡ true) → set.contains first y ≡
      true
  in_front y member none = elim (set.contains first y) as (λ b. set.contains first y ≡ b → b ≡ true) [
    | true ↦ λ e. refl
    | false ↦ λ e. none (in_left y member e)
  ] refl

  pub none_left : ((y : ℕ) → set.contains left y ≡ true → false ≡ true) → IsPart a first
  none_left none y member = in_front y member (none y)

  pub left_next : (x : ℕ) → set.remove left x ≡ set.difference a (set.insert first x)
  left_next x = ap (λ s. set.remove s x) rest
      ∙ same_members _ _ (λ y. grind (arith, set_members))

  pub size_next : (x room k : ℕ) → set.contains left x ≡ true → set.len first + suc room ≡ k
      → set.len (set.insert first x) + room ≡ k
  size_next x room k here size =
      let more : set.len (set.insert first x) ≡ set.len first + 1 = len-insert first x
      ∙ ap (λ b. cond b (set.len first) (set.len first + 1)) (not_in_front x here) in
      omega arith

  -- at a member of the list
  module _ (i : ℕ) (within : i < length order) (listed : (y : ℕ) → set.contains left y ≡ true → i ≤ place y order) where
    pub ahead_of_listed : (y : ℕ) → set.contains a y ≡ true → is_ahead order (get_or order i 0) y ≡ true
        → set.contains first y ≡ true
    ahead_of_listed y member ahead = in_front y member (λ here.
        let low = listed y here in
        let high = place_at order i within in
        let same = at_place order y in
        step (place y order) (place (get_or order i 0) order) y (get_or order i 0) i
        (λ e. sym (ap (λ j. get_or order j 0) e)
        ∙ same (omega arith)) low high ahead)
      where
        step : (py px y x i : ℕ) → (py ≡ i → x ≡ y) → i ≤ py → px ≤ i → (nat_lt py px || (nat_eq py px && nat_lt y x))
            ≡ true
            → false ≡ true
        step py px y x i same low high ahead = grind (arith, nat_tests, same)

    behind : (y : ℕ) → set.contains left y ≡ true → nat_eq y (get_or order i 0) ≡ false → i + 1 ≤ place y order
    behind y here other = elim (nat_eq (place y order) i) as (λ b. nat_eq (place y order) i ≡ b → i + 1 ≤ place y
        order) [
          | true ↦ λ e.
              let at : place y order ≡ i = eqb-true (place y order) i e in
              let same : get_or order i 0 ≡ y = sym (ap (λ j. get_or order j 0) at) ∙ at_place order y (omega arith) in
              absurd (let no : true ≡ false = sym (clash y (get_or order i 0) same) ∙ other in grind arith)
          | false ↦ λ e. let low = listed y here in grind (arith, nat_tests)
        ] refl
      where
        clash : (y x : ℕ) → x ≡ y → nat_eq y x ≡ true
        clash y x same = grind (arith, nat_tests)

    pub listed_next : (y : ℕ) → set.contains (set.remove left (get_or order i 0)) y ≡ true → i + 1 ≤ place y order
    listed_next y here =
        let both = sym (contains-remove left (get_or order i 0) y) ∙ here in
        behind y (second (nat_eq y (get_or order i 0)) (set.contains left y) both)
        (former (nat_eq y (get_or order i 0)) (set.contains left y) both)
      where
        second : (b c : Bool) → (not b && c) ≡ true → c ≡ true
        second b c both = grind arith

        former : (b c : Bool) → (not b && c) ≡ true → b ≡ false
        former b c both = grind arith

    pub listed_passed : set.contains left (get_or order i 0) ≡ false → (y : ℕ) → set.contains left y ≡ true
        → i + 1 ≤ place y order
    listed_passed gone y here = behind y here (elim (nat_eq y (get_or order i 0)) as
        (λ b. nat_eq y (get_or order i 0) ≡ b
        → b ≡ false) [
          | true ↦ λ e. sym here ∙ ap (set.contains left) (eqb-true y (get_or order i 0) e) ∙ gone
          | false ↦ λ e. refl
        ] refl)

  -- at a member that isn't listed
  module _ (last x : ℕ) (unlisted : (y : ℕ) → set.contains left y ≡ true → length order ≤ place y order)
      (above : (y : ℕ) → set.contains left y ≡ true → last < y) (next : IsNext left last x) where
    pub ahead_of_unlisted : (y : ℕ) → set.contains a y ≡ true → is_ahead order x y ≡ true → set.contains first y ≡ true
    ahead_of_unlisted y member ahead = in_front y member (λ here.
        let behind = unlisted y here in
        let within = place_within order x in
        sym (next.least y (above y here) (step (place y order) (place x order) y x (omega arith) ahead)) ∙ here)
      where
        step : (py px y x : ℕ) → px ≤ py → (nat_lt py px || (nat_eq py px && nat_lt y x)) ≡ true → y < x
        step py px y x order ahead = grind (arith, nat_tests)

    pub above_next : (y : ℕ) → set.contains (set.remove left x) y ≡ true → x < y
    above_next y here =
        let both = sym (contains-remove left x y) ∙ here in
        let member = second (nat_eq y x) (set.contains left y) both in
        elim (nat_lt x y) as (λ b. nat_lt x y ≡ b → x < y) [
          | true ↦ λ e. grind (arith, nat_tests)
          | false ↦ λ e. absurd (let no = sym (next.least y (above y member) (below y x e (former (nat_eq y x)
              (set.contains left y) both))) ∙ member in grind arith)
        ] refl
      where
        second : (b c : Bool) → (not b && c) ≡ true → c ≡ true
        second b c both = grind arith

        former : (b c : Bool) → (not b && c) ≡ true → b ≡ false
        former b c both = grind arith

        below : (y x : ℕ) → nat_lt x y ≡ false → nat_eq y x ≡ false → y < x
        below y x late other = grind (arith, nat_tests)

    pub unlisted_next : (y : ℕ) → set.contains (set.remove left x) y ≡ true → length order ≤ place y order
    unlisted_next y here = unlisted y (grind (arith, contains-remove))
