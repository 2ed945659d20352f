-- The split of an eliminator, by the set of those that go.
use Rattle.std.proofs.Common.{◌≡◌, ℕ, Bool, true, false, cond, not, ◌&&◌, ◌||◌, List, [], ◌∷◌, map, nat_eq, refl, sym}
use Rattle.std.proofs.Common.{ap, ap₂, ◌∙◌, arith, ℤ, pos, int_lt, int_le, ◌*ℤ◌, ◌+ℤ◌, ◌<◌}
use Rattle.std.proofs.lemmas.Bool.Decides.{nat_tests}
use Rattle.std.specs.FinSet.{contains, items, empty, retain, difference, is_subset, len, contains-is_subset}
use Rattle.std.specs.FinSet.{is_subset-contains}
use Rattle.std.specs.Cmp.{nat_cmp_total}
use Rattle.std.specs.List.{list_any}
use Rattle.vir_altset.specs.Sets.{Set}
use Rattle.vir_altset.specs.SetLaws.{contains-empty, contains-difference, contains-retain, same_members}
use Rattle.vir_altset.specs.declared.split.Split.{Split}
use Rattle.vir_mean.specs.declared.elimination.Elimination.{Elimination}
use Rattle.vir_mean.specs.declared.elimination.Elimination.TheVariants.{Max, Min, Below, Upto}
use Rattle.vir_mean.proofs.MemberCounts.{often, in_items, often-listed, at_head}
use Rattle.vir_altset.specs.Splits.{bit}
use Rattle.vir_mean.specs.Listings.{listed}
use Rattle.vir_mean.specs.Eliminators.{eliminated, goes, sum, sum_of}
use Rattle.vir_mean.specs.Undecided.{undecided}

-- where none is left, all go
pub whole_gone : (a x : Set) → difference a x ≡ empty → is_subset a x ≡ true
whole_gone a x none = contains-is_subset nat_cmp_total a x (λ y m. step (contains a y) (contains x y) m
    (sym (contains-difference a x y) ∙ ap (λ s. contains s y) none ∙ contains-empty y))
  where
    step : (b c : Bool) → b ≡ true → (b && not c) ≡ false → c ≡ true
    step b c h k = grind arith

-- where some are left, not all go
pub some_left : (a x : Set) → (difference a x ≡ empty → ⊥) → is_subset a x ≡ false
some_left a x some = step (is_subset a x)
    (λ e. some (same_members _ _ (λ y. contains-difference a x y ∙ out (contains a y) (contains x y)
    (is_subset-contains nat_cmp_total a x e y) ∙ sym (contains-empty y))))
  where
    step : (b : Bool) → (b ≡ true → ⊥) → b ≡ false
    step b h = grind arith

    out : (b c : Bool) → (b ≡ true → c ≡ true) → (b && not c) ≡ false
    out b c h = grind arith

-- the split where all would go
pub all_gone : (a x : Set) → difference a x ≡ empty → undecided a ≡ eliminated a x
all_gone a x none =
    ap (λ b. cond b (undecided a) (record { elected = empty; rejected = x; deferred = difference a x }))
    (sym (whole_gone a x none))

-- the split where some stay
pub some_stay : (a x d : Set) → d ≡ difference a x → (difference a x ≡ empty → ⊥)
    → ◌≡◌ {A = Split} (record { elected = empty; rejected = x; deferred = d }) (eliminated a x)
some_stay a x d is some =
    (λ i. record { elected = empty; rejected = x; deferred = is i })
    ∙ ap (λ b. cond b (undecided a) (record { elected = empty; rejected = x; deferred = difference a x }))
    (sym (some_left a x some))

-- ---- scores that agree on the members

any_same : (t u : ℕ → Bool) (ys : List ℕ) → ((y : ℕ) → list_any (nat_eq y) ys ≡ true → t y ≡ u y) → list_any t ys
    ≡ list_any u ys
any_same t u [] h = refl
any_same t u (y ∷ ys) h = ap₂ (λ a b. a || b) (h y (first y (list_any (nat_eq y) ys)))
    (any_same t u ys (λ z k. h z (later (nat_eq z y) (list_any (nat_eq z) ys) k)))
  where
    first : (y : ℕ) (b : Bool) → (nat_eq y y || b) ≡ true
    first y b = grind (arith, nat_tests)

    later : (a b : Bool) → b ≡ true → (a || b) ≡ true
    later a b h = grind arith

sum_same : (f g : ℕ → ℤ) (ys : List ℕ) → ((y : ℕ) → 0 < often y ys → f y ≡ g y) → sum (map f ys) ≡ sum (map g ys)
sum_same f g [] h = refl
sum_same f g (y ∷ ys) h = ap₂ (λ a b. a +ℤ b) (h y (at_head y ys)) (sum_same f g ys (λ z k. h z (omega arith)))

module _ (f g : ℕ → ℤ) (a : Set) (same : (x : ℕ) → contains a x ≡ true → f x ≡ g x) where
  some_same : (t : ℤ → Bool) → list_any (λ y. t (f y)) (items a) ≡ list_any (λ y. t (g y)) (items a)
  some_same t = any_same _ _ (items a) (λ y k. ap t (same y (in_items a y ∙ k)))

  sums_same : sum_of f a ≡ sum_of g a
  sums_same = sum_same f g (listed a) (λ y k. same y (member (contains a y) (often y (listed a)) k (often-listed a y)))
    where
      member : (b : Bool) (n : ℕ) → 0 < n → n ≡ bit b → b ≡ true
      member b n h k = grind arith

  -- then the same go
  pub goes_same : (kind : Elimination) (x : ℕ) → contains a x ≡ true → goes kind f a x ≡ goes kind g a x
  goes_same Max x m = ap (λ v. list_any (λ y. int_lt v (f y)) (items a)) (same x m) ∙ some_same (int_lt (g x))
  goes_same Min x m = ap (λ v. not (list_any (λ y. int_lt (f y) v) (items a))) (same x m)
      ∙ ap not (some_same (λ v. int_lt v (g x)))
  goes_same Below x m = ap₂ (λ v s. int_lt (v *ℤ pos (len a)) s) (same x m) sums_same
  goes_same Upto x m = ap₂ (λ v s. int_le (v *ℤ pos (len a)) s) (same x m) sums_same

-- tests that agree on the members keep the same
pub retain_same : (a : Set) (t u : ℕ → Bool) → ((x : ℕ) → contains a x ≡ true → t x ≡ u x) → retain a t ≡ retain a u
retain_same a t u same = same_members _ _ (λ x. contains-retain a t x ∙ step (contains a x) (t x) (u x) (same x)
    ∙ sym (contains-retain a u x))
  where
    step : (b c d : Bool) → (b ≡ true → c ≡ d) → (b && c) ≡ (b && d)
    step b c d h = grind arith

-- those that pass are rejected, and the others elected
pub winners_split : (a : Set) (t : ℕ → Bool) (e r d : Set) → d ≡ empty → e ≡ difference a r → r ≡ retain a t
    → ◌≡◌ {A = Split} (record { elected = e; rejected = r; deferred = d })
    (record {
      elected = retain a (λ x. not (t x));
      rejected = difference a (retain a (λ x. not (t x)));
      deferred = empty;
    })
winners_split a t e r d p q h = λ i. record {
  elected = (q ∙ ap (difference a) h ∙ stay) i;
  rejected = (h ∙ go) i;
  deferred = p i;
}
  where
    one : (b c : Bool) → (b && not (b && c)) ≡ (b && not c)
    one b c = grind arith

    two : (b c : Bool) → (b && c) ≡ (b && not (b && not c))
    two b c = grind arith

    stay : difference a (retain a t) ≡ retain a (λ x. not (t x))
    stay = same_members _ _ (λ x. contains-difference a (retain a t) x ∙ ap (λ b. contains a x && not b)
        (contains-retain a t x) ∙ one (contains a x) (t x) ∙ sym (contains-retain a (λ x. not (t x)) x))

    go : retain a t ≡ difference a (retain a (λ x. not (t x)))
    go = same_members _ _ (λ x. contains-retain a t x ∙ two (contains a x) (t x)
        ∙ sym (contains-difference a (retain a (λ x. not (t x))) x ∙ ap (λ b. contains a x && not b)
        (contains-retain a (λ x. not (t x)) x)))
