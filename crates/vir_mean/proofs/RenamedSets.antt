-- Sets of alternatives under other names.
use Rattle.std.proofs.Common.{◌≡◌, ℕ, ◌+◌, ◌<◌, Bool, true, false, true≢false, not, ◌&&◌, ◌||◌, List, [], ◌∷◌, map}
use Rattle.std.proofs.Common.{nat_eq, refl, sym, ap, ◌∙◌, arith, eqb-true}
use Rattle.std.proofs.lemmas.Bool.Decides.{nat_tests}
use Rattle.std.proofs.lemmas.List.{length-map}
use Rattle.std.specs.Cmp.{nat_cmp_total}
use Rattle.std.specs.FinSet as set
use Rattle.std.specs.List.{list_any}
use Rattle.vir_altset.specs.Sets.{Set, IsPart}
use Rattle.vir_altset.specs.SetLaws.{contains-empty, contains-union, contains-intersection, contains-difference}
use Rattle.vir_altset.specs.SetLaws.{contains-retain, contains-from_list, same_members}
use Rattle.vir_altset.specs.Splits.{bit}
use Rattle.vir_profile.proofs.OrderLaws.{len-listing}
use Rattle.vir_mean.specs.Listings.{listed}
use Rattle.vir_mean.specs.Neutrality.{IsRenaming, renamed_set}
use Rattle.vir_mean.proofs.MemberCounts.{often, Lists, listing_of, in_items, finds, at_head}
use Rattle.vir_mean.proofs.MemberListings.{listed_lists}

-- ---- any map
-- a member whose new name is z
pub record IsNamed (f : ℕ → ℕ) (d : Set) (z : ℕ) : Type 0 where
  pub one : ℕ
  pub member : set.contains d one ≡ true
  pub name : f one ≡ z

any_map : (t : ℕ → Bool) (f : ℕ → ℕ) (xs : List ℕ) → list_any t (map f xs) ≡ list_any (λ x. t (f x)) xs
any_map t f [] = refl
any_map t f (x ∷ xs) = ap (λ b. t (f x) || b) (any_map t f xs)

-- a number whose test passes
record Found (t : ℕ → Bool) (xs : List ℕ) : Type 0 where
  one : ℕ
  inside : list_any (nat_eq one) xs ≡ true
  passes : t one ≡ true

found : (t : ℕ → Bool) (xs : List ℕ) → list_any t xs ≡ true → Found t xs
found t [] h = cc h
found t (x ∷ xs) h = elim (t x) as (λ b. t x ≡ b → Found t (x ∷ xs)) [
  | true ↦ λ e. record { one = x; inside = first x (list_any (nat_eq x) xs); passes = e }
  | false ↦ λ e. let rest = found t xs (later (t x) (list_any t xs) e h)
      in record { one = rest.one; inside = more (nat_eq rest.one x) _ rest.inside; passes = rest.passes }
] refl
  where
    first : (x : ℕ) (b : Bool) → (nat_eq x x || b) ≡ true
    first x b = grind (arith, nat_tests)

    later : (b c : Bool) → b ≡ false → (b || c) ≡ true → c ≡ true
    later b c e h = grind arith

    more : (b c : Bool) → c ≡ true → (b || c) ≡ true
    more b c h = grind arith

contains-named : (f : ℕ → ℕ) (d : Set) (z : ℕ) → set.contains (renamed_set f d) z ≡ list_any (λ x. nat_eq (f x) z)
    (set.items d)
contains-named f d z = contains-from_list (map f (set.items d)) z ∙ any_map (λ y. nat_eq y z) f (set.items d)

-- what a renamed set has is the new name of a member
pub named : (f : ℕ → ℕ) (d : Set) (z : ℕ) → set.contains (renamed_set f d) z ≡ true → IsNamed f d z
named f d z h = let some = found (λ x. nat_eq (f x) z) (set.items d) (sym (contains-named f d z) ∙ h) in
    record { one = some.one; member = in_items d some.one ∙ some.inside; name = eqb-true (f some.one) z some.passes }

-- and it has the new name of each member
pub contains-name : (f : ℕ → ℕ) (d : Set) (x : ℕ) → set.contains d x ≡ true → set.contains (renamed_set f d) (f x)
    ≡ true
contains-name f d x member = contains-named f d (f x) ∙ finds (λ y. nat_eq (f y) (f x)) (set.items d) x
    (sym (in_items d x) ∙ member) (itself (f x))
  where
    itself : (n : ℕ) → nat_eq n n ≡ true
    itself n = grind (arith, nat_tests)

neither : (b : Bool) → (b ≡ true → ⊥) → b ≡ false
neither b none = grind arith

pub renamed-empty : (f : ℕ → ℕ) → renamed_set f set.empty ≡ set.empty
renamed-empty f = same_members _ _ (λ z. neither _ (λ h. let n = named f set.empty z h
    in true≢false (sym n.member ∙ contains-empty n.one)) ∙ sym (contains-empty z))

-- ---- a one-to-one map
module _ (f : ℕ → ℕ) (a : Set) (renaming : IsRenaming f a) where
  -- new names differ where the names do
  pub same_names : (x y : ℕ) → set.contains a x ≡ true → set.contains a y ≡ true → nat_eq (f x) (f y) ≡ nat_eq x y
  same_names x y with_x with_y = step (f x) (f y) x y (renaming.one_to_one x y with_x with_y) (ap f)
    where
      step : (m n x y : ℕ) → (m ≡ n → x ≡ y) → (x ≡ y → m ≡ n) → nat_eq m n ≡ nat_eq x y
      step m n x y back there = grind (arith, nat_tests)

  -- a part has, under the new name, what it had
  pub contains-renamed : (d : Set) → IsPart d a → (x : ℕ) → set.contains a x ≡ true → set.contains (renamed_set f d)
      (f x) ≡ set.contains d x
  contains-renamed d part x inside = elim (set.contains d x) as (λ b. set.contains d x ≡ b
      → set.contains (renamed_set f d) (f x) ≡ b) [
        | true ↦ λ e. contains-name f d x e
        | false ↦ λ e. neither _ (λ h.
            let n = named f d (f x) h in
            let same = renaming.one_to_one n.one x (part n.one n.member) inside n.name in
            true≢false (sym (ap (set.contains d) (sym same) ∙ n.member) ∙ e))
      ] refl

  pub renamed_part : (d : Set) → IsPart d a → IsPart (renamed_set f d) (renamed_set f a)
  renamed_part d part z h = let n = named f d z h in ap (set.contains (renamed_set f a)) (sym n.name)
      ∙ contains-name f a n.one (part n.one n.member)

  -- a set of new names is a renamed part, where it has of each member what that has
  pub same_renamed : (s d : Set) → IsPart s (renamed_set f a) → IsPart d a → ((x : ℕ) → set.contains a x ≡ true
      → set.contains s (f x) ≡ set.contains d x) → s ≡ renamed_set f d
  same_renamed s d new part each = same_members _ _ (λ z.
      elim (set.contains (renamed_set f a) z) as (λ b. set.contains (renamed_set f a) z ≡ b → set.contains s z
      ≡ set.contains (renamed_set f d) z) [
        | true ↦ λ e.
            let n = named f a z e in
            ap (set.contains s) (sym n.name) ∙ each n.one n.member ∙ sym (contains-renamed d part n.one n.member)
            ∙ ap (set.contains (renamed_set f d)) n.name
        | false ↦ λ e. outside _ _ (new z) e ∙ sym (outside _ _ (renamed_part d part z) e)
      ] refl)
    where
      outside : (b c : Bool) → (b ≡ true → c ≡ true) → c ≡ false → b ≡ false
      outside b c h e = grind arith

  -- ---- the operations
  module _ (d e : Set) (part : IsPart d a) (other : IsPart e a) where
    pub renamed-union : set.union (renamed_set f d) (renamed_set f e) ≡ renamed_set f (set.union d e)
    renamed-union = same_renamed _ _
        (λ z h. either _ _ _ (renamed_part d part z) (renamed_part e other z) (sym (contains-union _ _ z) ∙ h))
        (λ x h. either _ _ _ (part x) (other x) (sym (contains-union _ _ x) ∙ h))
        (λ x inside. contains-union _ _ (f x) ∙ two _ _ _ _ (contains-renamed d part x inside)
        (contains-renamed e other x inside) ∙ sym (contains-union d e x))
      where
        either : (b c g : Bool) → (b ≡ true → g ≡ true) → (c ≡ true → g ≡ true) → (b || c) ≡ true → g ≡ true
        either b c g one two h = grind arith

        two : (b c g h : Bool) → b ≡ g → c ≡ h → (b || c) ≡ (g || h)
        two b c g h one other = grind arith

    pub renamed-intersection : set.intersection (renamed_set f d) (renamed_set f e)
        ≡ renamed_set f (set.intersection d e)
    renamed-intersection = same_renamed _ _
        (λ z h. first _ _ _ (renamed_part d part z) (sym (contains-intersection _ _ z) ∙ h))
        (λ x h. first _ _ _ (part x) (sym (contains-intersection _ _ x) ∙ h))
        (λ x inside. contains-intersection _ _ (f x) ∙ two _ _ _ _ (contains-renamed d part x inside)
        (contains-renamed e other x inside) ∙ sym (contains-intersection d e x))
      where
        first : (b c g : Bool) → (b ≡ true → g ≡ true) → (b && c) ≡ true → g ≡ true
        first b c g one h = grind arith

        two : (b c g h : Bool) → b ≡ g → c ≡ h → (b && c) ≡ (g && h)
        two b c g h one other = grind arith

    pub renamed-difference : set.difference (renamed_set f d) (renamed_set f e) ≡ renamed_set f (set.difference d e)
    renamed-difference = same_renamed _ _
        (λ z h. first _ _ _ (renamed_part d part z) (sym (contains-difference _ _ z) ∙ h))
        (λ x h. first _ _ _ (part x) (sym (contains-difference _ _ x) ∙ h))
        (λ x inside. contains-difference _ _ (f x) ∙ two _ _ _ _ (contains-renamed d part x inside)
        (contains-renamed e other x inside) ∙ sym (contains-difference d e x))
      where
        first : (b c g : Bool) → (b ≡ true → g ≡ true) → (b && not c) ≡ true → g ≡ true
        first b c g one h = grind arith

        two : (b c g h : Bool) → b ≡ g → c ≡ h → (b && not c) ≡ (g && not h)
        two b c g h one other = grind arith

    pub renamed-subset : set.is_subset (renamed_set f d) (renamed_set f e) ≡ set.is_subset d e
    renamed-subset = iff _ _ back there
      where
        iff : (b c : Bool) → (b ≡ true → c ≡ true) → (c ≡ true → b ≡ true) → b ≡ c
        iff b c one other = grind arith

        back : set.is_subset (renamed_set f d) (renamed_set f e) ≡ true → set.is_subset d e ≡ true
        back h = set.contains-is_subset nat_cmp_total d e (λ x member.
            sym (contains-renamed e other x (part x member)) ∙ set.is_subset-contains nat_cmp_total _ _ h (f x)
            (contains-name f d x member))

        there : set.is_subset d e ≡ true → set.is_subset (renamed_set f d) (renamed_set f e) ≡ true
        there h = set.contains-is_subset nat_cmp_total _ _ (λ z member.
            let n = named f d z member in
            ap (set.contains (renamed_set f e)) (sym n.name) ∙ contains-name f e n.one
            (set.is_subset-contains nat_cmp_total d e h n.one n.member))

  -- tests that say of new names what others say of names keep the same
  pub renamed-retain : (t u : ℕ → Bool) → ((x : ℕ) → set.contains a x ≡ true → t (f x) ≡ u x)
      → set.retain (renamed_set f a) t ≡ renamed_set f (set.retain a u)
  renamed-retain t u same = same_renamed _ _
      (λ z h. first _ _ (sym (contains-retain _ t z) ∙ h))
      (λ x h. first _ _ (sym (contains-retain _ u x) ∙ h))
      (λ x inside. contains-retain _ t (f x) ∙ two _ _ _ _ (contains-renamed a (λ y member. member) x inside)
      (same x inside) ∙ sym (contains-retain a u x))
    where
      first : (b c : Bool) → (b && c) ≡ true → b ≡ true
      first b c h = grind arith

      two : (b c g h : Bool) → b ≡ g → c ≡ h → (b && c) ≡ (g && h)
      two b c g h one other = grind arith

  -- ---- lists of members
  -- a name in a list of members stands as often as its new name in the list of new names
  pub often-renamed : (list : List ℕ) → ((x : ℕ) → 0 < often x list → set.contains a x ≡ true) → (x : ℕ)
      → set.contains a x ≡ true → often (f x) (map f list) ≡ often x list
  often-renamed [] within x inside = refl
  often-renamed (y ∷ list) within x inside = step _ _ _ _ (same_names x y inside (within y (at_head y list)))
      (often-renamed list (λ z some. within z (omega arith)) x inside)
    where
      step : (b c : Bool) (m n : ℕ) → b ≡ c → m ≡ n → bit b + m ≡ bit c + n
      step b c m n e h = grind arith

  pub member_listed : (d : Set) (list : List ℕ) → Lists d list → (x : ℕ) → 0 < often x list → set.contains d x ≡ true
  member_listed d list lists x some = step _ _ (lists.each x) some
    where
      step : (b : Bool) (n : ℕ) → n ≡ bit b → 0 < n → b ≡ true
      step b n e h = grind arith

  -- a number in the list of new names is one
  some_name : (z : ℕ) (list : List ℕ) → 0 < often z (map f list) → (x : ℕ) × (0 < often x list) × (f x ≡ z)
  some_name z [] some = absurd (omega arith)
  some_name z (y ∷ list) some = elim (nat_eq z (f y)) as (λ b. nat_eq z (f y) ≡ b → (x : ℕ) × (0 < often x (y ∷ list))
      × (f x ≡ z)) [
        | true ↦ λ e. (y, at_head y list, sym (eqb-true z (f y) e))
        | false ↦ λ e.
            let q = ap bit e in
            let more : 0 < often z (map f list) = omega arith in
            let r = some_name z list more in
            (r.0, (let l = r.1 in omega arith), r.2)
      ] refl

  -- the new names of a listed part list the renamed part
  pub lists-renamed : (d : Set) → IsPart d a → (list : List ℕ) → Lists d list → Lists (renamed_set f d) (map f list)
  lists-renamed d part list lists = record {
    each = λ z.
        elim (set.contains (renamed_set f d) z) as (λ b. set.contains (renamed_set f d) z ≡ b → often z (map f list)
        ≡ bit b) [
          | true ↦ λ e.
              let n = named f d z e in
              ap (λ y. often y (map f list)) (sym n.name)
              ∙ often-renamed list (λ x some. part x (member_listed d list lists x some)) n.one (part n.one n.member)
              ∙ lists.each n.one ∙ ap bit n.member
          | false ↦ λ e. none _ (λ some. let r = some_name z list some in
              true≢false (sym (contains-name f d r.0 (member_listed d list lists r.0 r.1))
              ∙ ap (set.contains (renamed_set f d)) r.2 ∙ e))
        ] refl;
  }
    where
      none : (n : ℕ) → (0 < n → ⊥) → n ≡ 0
      none n h = grind arith

  -- a renamed part is as large
  pub len-renamed : (d : Set) → IsPart d a → set.len (renamed_set f d) ≡ set.len d
  len-renamed d part =
      len-listing (map f (listed d)) (renamed_set f d) (listing_of (renamed_set f d) (map f (listed d))
      (lists-renamed d part (listed d) (listed_lists d)))
      ∙ length-map (listed d) f
      ∙ sym (len-listing (listed d) d (listing_of d (listed d) (listed_lists d)))
