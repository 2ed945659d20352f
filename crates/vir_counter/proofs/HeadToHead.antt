-- Two alternatives head to head.
use Rattle.std.proofs.Common.{◌≡◌, ℕ, ◌+◌, ◌<◌, Bool, true, false, cond, not, ◌&&◌, ◌||◌, List, [], ◌∷◌, nat_eq}
use Rattle.std.proofs.Common.{nat_lt}
use Rattle.std.proofs.Common.{refl, sym, ap, ap₂, ◌∙◌, arith, pos, int_lt, eqb-true, subst}
use Rattle.std.proofs.lemmas.Bool.Decides.{nat_tests}
use Rattle.std.proofs.lemmas.Int.{ints}
use Rattle.std.proofs.lemmas.List.Sums.{sum_by-cons}
use Rattle.std.specs.FinSet as set
use Rattle.std.specs.List.{filter, find}
use Rattle.vir_altset.specs.SetLaws.{contains-remove, contains-retain, same_members}
use Rattle.vir_altset.specs.Sets.{Set}
use Rattle.vir_altset.specs.Splits.{bit}
use Rattle.vir_profile.specs.declared.ballot.Entry.{Entry}
use Rattle.vir_profile.specs.Orders.{begins_with, puts_before}
use Rattle.vir_profile.specs.Profiles.{first_weight, pairwise_weight, restrict, restricted_line}
use Rattle.vir_mean.specs.Eliminators.{is_passed}
use Rattle.vir_mean.specs.Modules.{plurality_winners}
use Rattle.vir_mean.specs.Scores.{plurality_score}
use Rattle.vir_mean.proofs.MemberCounts.{Lists, often}
use Rattle.vir_mean.proofs.MemberListings.{any_listings}
use Rattle.vir_tables.proofs.Cells.{eq_itself}
use Rattle.vir_tables.proofs.FirstOfTwo.{is_one_of-turned, puts_before-find}
use Rattle.vir_tables.proofs.FirstPlaces.{begins_with-filter, is_at}
use Rattle.vir_counter.specs.Twos.{IsTwo}

module _ (a : Set) (x y : ℕ) (two : IsTwo a x y) where
  -- ---- who is first of the two is before the other
  begins_with-two : (order : List ℕ) → begins_with x (filter (set.contains a) order) ≡ puts_before x y order
  begins_with-two order = begins_with-filter (set.contains a) x order
      ∙ (λ i. is_at x (find (λ z. two.members z i) order)) ∙ sym (puts_before-find x y order two.apart)

  -- so many voters have it first of the two
  pub first_weight-two : (lines : List Entry) → first_weight (restrict a lines) x ≡ pairwise_weight lines x y
  first_weight-two [] = refl
  first_weight-two (line ∷ lines) =
      sum_by-cons (λ (e : Entry). cond (begins_with x e.order) e.weight 0) (restricted_line a line) (restrict a lines)
      ∙ ap₂ (λ b n. cond b line.weight 0 + n) (begins_with-two line.order) (first_weight-two lines)
      ∙ sym (sum_by-cons (λ (e : Entry). cond (puts_before x y e.order) e.weight 0) line lines)

  -- ---- what holds of the one, of the other, and of who is no member, holds of all
  agree : (f g : ℕ → Bool) → f x ≡ g x → f y ≡ g y
      → ((z : ℕ) → nat_eq z x ≡ false → set.contains a z ≡ false → f z ≡ g z) → (z : ℕ) → f z ≡ g z
  agree f g first second others z = at_x (nat_eq z x) refl
    where
      at_y : (c : Bool) → nat_eq z x ≡ false → nat_eq z y ≡ c → f z ≡ g z
      at_y true other e = subst (λ u. f u ≡ g u) (sym (eqb-true z y e)) second
      at_y false other e = others z other (two.members z ∙ ap₂ (λ b c. b || c) other e)

      at_x : (b : Bool) → nat_eq z x ≡ b → f z ≡ g z
      at_x true e = subst (λ u. f u ≡ g u) (sym (eqb-true z x e)) first
      at_x false e = at_y (nat_eq z y) e refl

  lists : Lists a (x ∷ y ∷ [])
  lists = record { each = λ z. each z (nat_eq z x) (nat_eq z y) refl refl }
    where
      each : (z : ℕ) (b c : Bool) → nat_eq z x ≡ b → nat_eq z y ≡ c → often z (x ∷ y ∷ []) ≡ bit (set.contains a z)
      each z b c e f =
          let not_both = two.apart in
          let is = two.members z in
          grind (arith, nat_tests)

  pub member_x : set.contains a x ≡ true
  member_x = two.members x ∙ ap (λ b. b || nat_eq x y) (eq_itself x)

  pub member_y : set.contains a y ≡ true
  member_y = two.members y ∙ or_true (nat_eq y x) (nat_eq y y) (eq_itself y)
    where
      or_true : (b c : Bool) → c ≡ true → (b || c) ≡ true
      or_true b c h = grind arith

  -- ---- who is passed
  module _ (p : List Entry) (n m : ℕ) (is_n : first_weight p x ≡ n) (is_m : first_weight p y ≡ m) where
    passed_x : is_passed (plurality_score p) a x ≡ nat_lt n m
    passed_x = any_listings (λ z. int_lt (plurality_score p x) (plurality_score p z)) a (x ∷ y ∷ []) lists
        ∙ ap₂ (λ j k. int_lt (pos j) (pos j) || (int_lt (pos j) (pos k) || false)) is_n is_m ∙ tests n m
      where
        tests : (j k : ℕ) → (int_lt (pos j) (pos j) || (int_lt (pos j) (pos k) || false)) ≡ nat_lt j k
        tests j k = grind (arith, ints, nat_tests)

    passed_y : is_passed (plurality_score p) a y ≡ nat_lt m n
    passed_y = any_listings (λ z. int_lt (plurality_score p y) (plurality_score p z)) a (x ∷ y ∷ []) lists
        ∙ ap₂ (λ j k. int_lt (pos k) (pos j) || (int_lt (pos k) (pos k) || false)) is_n is_m ∙ tests m n
      where
        tests : (j k : ℕ) → (int_lt (pos j) (pos k) || (int_lt (pos j) (pos j) || false)) ≡ nat_lt j k
        tests j k = grind (arith, ints, nat_tests)

    -- those whom nobody passes are the winners
    abbrev kept : ℕ → Bool
    kept z = set.contains a z && not (is_passed (plurality_score p) a z)

    winners : (b : ℕ → Bool) → b x ≡ not (nat_lt n m) → b y ≡ not (nat_lt m n) → (z : ℕ)
        → set.contains (plurality_winners a p) z ≡ (set.contains a z && b z)
    winners b at_x at_y z = contains-retain a _ z ∙ agree kept (λ z. set.contains a z && b z)
        (ap (λ c. set.contains a x && c) (ap not passed_x ∙ sym at_x))
        (ap (λ c. set.contains a y && c) (ap not passed_y ∙ sym at_y)) others z
      where
        others : (z : ℕ) → nat_eq z x ≡ false → set.contains a z ≡ false
            → (set.contains a z && not (is_passed (plurality_score p) a z)) ≡ (set.contains a z && b z)
        others z other none = rw none refl

    pub winners_less : n < m → plurality_winners a p ≡ set.remove a x
    winners_less less = same_members _ _ (λ z. winners (λ z. not (nat_eq z x)) at_x at_y z ∙ turn (set.contains a z)
        (not (nat_eq z x)) ∙ sym (contains-remove a x z))
      where
        at_x : not (nat_eq x x) ≡ not (nat_lt n m)
        at_x = grind (arith, nat_tests)

        at_y : not (nat_eq y x) ≡ not (nat_lt m n)
        at_y = let e = two.apart in grind (arith, nat_tests)

        turn : (b c : Bool) → (b && c) ≡ (c && b)
        turn b c = grind arith

    pub winners_equal : n ≡ m → plurality_winners a p ≡ a
    winners_equal e = same_members _ _ (λ z. winners (λ z. true) kept_x kept_y z ∙ all_kept (set.contains a z))
      where
        kept_x : true ≡ not (nat_lt n m)
        kept_x = grind (arith, nat_tests)

        kept_y : true ≡ not (nat_lt m n)
        kept_y = grind (arith, nat_tests)

        all_kept : (b : Bool) → (b && true) ≡ b
        all_kept b = grind arith

-- the same two, named the other way round
pub turned : (a : Set) (x y : ℕ) → IsTwo a x y → IsTwo a y x
turned a x y two = record {
  apart = let e = two.apart in grind (arith, nat_tests);
  members = λ z. two.members z ∙ is_one_of-turned x y z;
}
