-- A member that an eliminator spares.
use Rattle.std.proofs.Common.{◌≡◌, ◌≢◌, ℕ, ◌≤◌, Bool, true, false, true≢false, cond, not, ◌&&◌, ◌||◌, nat_eq, nat_lt}
use Rattle.std.proofs.Common.{List, [], ◌∷◌, refl, sym, ap, ◌∙◌, arith, eqb-true, ℤ, ◌<ℤ◌, ◌≤ℤ◌, int_lt, ◌-◌}
use Rattle.std.proofs.lemmas.Bool.Decides.{nat_tests}
use Rattle.std.proofs.lemmas.Int.{ints}
use Rattle.std.specs.Cmp.{nat_cmp_total}
use Rattle.std.specs.FinSet as set
use Rattle.std.specs.List.{list_any}
use Rattle.vir_altset.specs.Sets.{Set}
use Rattle.vir_altset.specs.SetLaws.{contains-empty, contains-insert, contains-remove, contains-difference}
use Rattle.vir_altset.specs.SetLaws.{contains-retain, same_members}
use Rattle.vir_altset.proofs.SizeLaws.{len-remove, len_of_member}
use Rattle.vir_mean.specs.Eliminators.{eliminated}
use Rattle.vir_mean.specs.Properties.{just, MakesProgress}
use Rattle.vir_mean.proofs.MemberCounts.{in_items, finds}

pub contains-just : (w x : ℕ) → set.contains (just w) x ≡ nat_eq x w
contains-just w x = contains-insert (nobody) w x ∙ ap (λ b. nat_eq x w || b) (contains-empty x) ∙ or_false (nat_eq x w)
  where
    nobody : Set
    nobody = set.empty

    or_false : (b : Bool) → (b || false) ≡ b
    or_false b = grind arith

pub apart_of : (x y : ℕ) → nat_eq x y ≡ false → x ≢ y
apart_of x y e = grind (arith, nat_tests)

-- ---- which pass a test
none_pass : (test : ℕ → Bool) (list : List ℕ) → ((x : ℕ) → list_any (nat_eq x) list ≡ true → test x ≡ false)
    → list_any test list ≡ false
none_pass test [] each = refl
none_pass test (x ∷ rest) each =
    both _ _ (each x (first x (list_any (nat_eq x) rest))) (none_pass test rest (λ y later. each y (further _ _ later)))
  where
    first : (x : ℕ) (b : Bool) → (nat_eq x x || b) ≡ true
    first x b = grind (arith, nat_tests)

    further : (b c : Bool) → c ≡ true → (b || c) ≡ true
    further b c later = grind arith

    both : (b c : Bool) → b ≡ false → c ≡ false → (b || c) ≡ false
    both b c one other = grind arith

pub no_member : (test : ℕ → Bool) (a : Set) → ((x : ℕ) → set.contains a x ≡ true → test x ≡ false)
    → list_any test (set.items a) ≡ false
no_member test a each = none_pass test (set.items a) (λ x listed. each x (in_items a x ∙ listed))

pub some_member : (test : ℕ → Bool) (a : Set) (x : ℕ) → set.contains a x ≡ true → test x ≡ true
    → list_any test (set.items a) ≡ true
some_member test a x member passes = finds test (set.items a) x (sym (in_items a x) ∙ member) passes

pub less_is : (u v : ℤ) → u <ℤ v → int_lt u v ≡ true
less_is u v less = grind (arith, ints)

pub not_less_is : (u v : ℤ) → v ≤ℤ u → int_lt u v ≡ false
not_less_is u v level = grind (arith, ints)

-- ---- a member that stays
module _ (a : Set) (test : ℕ → Bool) (w : ℕ) (member : set.contains a w ≡ true) where
  abbrev gone : Set
  gone = set.retain a test

  kept_out : test w ≡ false → set.contains gone w ≡ false
  kept_out stays = contains-retain a test w ∙ ap (λ b. set.contains a w && b) stays ∙ and_false (set.contains a w)
    where
      and_false : (b : Bool) → (b && false) ≡ false
      and_false b = grind arith

  some_stay : set.contains gone w ≡ false → set.is_subset a gone ≡ false
  some_stay out = elim (set.is_subset a gone) as (λ b. set.is_subset a gone ≡ b → b ≡ false) [
    | true ↦ λ e. sym (set.is_subset-contains nat_cmp_total a gone e w member) ∙ out
    | false ↦ λ e. refl
  ] refl

  -- where all others go, it alone is deferred
  pub alone : test w ≡ false → ((x : ℕ) → set.contains a x ≡ true → nat_eq x w ≡ false → test x ≡ true)
      → eliminated a gone ≡ record { elected = set.empty; rejected = set.difference a (just w); deferred = just w }
  alone stays others =
      ap (λ b. cond b (record { elected = set.empty; rejected = set.empty; deferred = a })
      (record { elected = set.empty; rejected = gone; deferred = set.difference a gone }))
      (some_stay (kept_out stays))
      ∙ (λ i. record { elected = set.empty; rejected = rest_go i; deferred = one_left i })
    where
      is_it : (x : ℕ) → nat_eq x w ≡ true → test x ≡ false
      is_it x e = ap test (eqb-true x w e) ∙ stays

      there : (x : ℕ) → nat_eq x w ≡ true → set.contains a x ≡ true
      there x e = ap (set.contains a) (eqb-true x w e) ∙ member

      rest_go : gone ≡ set.difference a (just w)
      rest_go = same_members _ _ (λ x.
          contains-retain a test x ∙ step (set.contains a x) (test x) (nat_eq x w) (is_it x) (others x)
          ∙ ap (λ b. set.contains a x && not b) (sym (contains-just w x)) ∙ sym (contains-difference a (just w) x))
        where
          step : (m t e : Bool) → (e ≡ true → t ≡ false) → (m ≡ true → e ≡ false → t ≡ true) → (m && t) ≡ (m && not e)
          step m t e self other = grind arith

      one_left : set.difference a gone ≡ just w
      one_left = same_members _ _ (λ x.
          contains-difference a gone x ∙ ap (λ b. set.contains a x && not b) (contains-retain a test x)
          ∙ step (set.contains a x) (test x) (nat_eq x w) (is_it x) (there x) (others x) ∙ sym (contains-just w x))
        where
          step : (m t e : Bool) → (e ≡ true → t ≡ false) → (e ≡ true → m ≡ true) → (m ≡ true → e ≡ false → t ≡ true)
              → (m && not (m && t)) ≡ e
          step m t e self inside other = grind arith

  -- it isn't to go, and another is
  pub record Spared : Type 0 where
    pub stays : test w ≡ false
    pub one : ℕ
    pub one_member : set.contains a one ≡ true
    pub one_goes : test one ≡ true

  -- the only member of a set that goes is all of it
  whole_gone : set.len a ≤ 1 → set.contains gone w ≡ true → set.is_subset a gone ≡ true
  whole_gone small goes_too = set.contains-is_subset nat_cmp_total a gone
      (λ x inside. elim (nat_eq x w) as (λ b. nat_eq x w ≡ b → set.contains gone x ≡ true) [
        | true ↦ λ e. ap (set.contains gone) (eqb-true x w e) ∙ goes_too
        | false ↦ λ e.
            let some = len_of_member (set.remove a w) x (contains-remove a w x ∙ both _ _ e inside) in
            let less = len-remove a w ∙ ap (λ b. cond b (set.len a - 1) (set.len a)) member in
            absurd (omega arith)
      ] refl)
    where
      both : (b c : Bool) → b ≡ false → c ≡ true → (not b && c) ≡ true
      both b c one other = grind arith

  not_gone : (2 ≤ set.len a → Spared) → set.is_subset a gone ≡ false → set.contains gone w ≡ false
  not_gone spares some = elim (set.contains gone w) as (λ b. set.contains gone w ≡ b → b ≡ false) [
    | true ↦ λ e. elim (nat_lt 1 (set.len a)) as (λ b. nat_lt 1 (set.len a) ≡ b → true ≡ false) [
      | true ↦ λ more. sym e ∙ kept_out (spares (grind (arith, nat_tests))).stays
      | false ↦ λ few. sym (whole_gone (grind (arith, nat_tests)) e) ∙ some
    ] refl
    | false ↦ λ e. refl
  ] refl

  -- then it stays deferred, and of two or more not all do
  pub progress : (2 ≤ set.len a → Spared) → MakesProgress w a (eliminated a gone)
  progress spares = elim (set.is_subset a gone) as (λ b. set.is_subset a gone ≡ b
      → MakesProgress w a (cond b (record { elected = set.empty; rejected = set.empty; deferred = a })
      (record { elected = set.empty; rejected = gone; deferred = set.difference a gone }))) [
        | true ↦ λ e. record {
          none_elected = refl;
          deferred = member;
          fewer = λ two same. absurd (true≢false (sym e ∙ some_stay (kept_out (spares two).stays)));
        }
        | false ↦ λ e. record {
          none_elected = refl;
          deferred = contains-difference a gone w ∙ both _ _ member (not_gone spares e);
          fewer = λ two same.
              let spared = spares two in
              absurd (true≢false (
              sym (ap (λ s. set.contains s spared.one) same ∙ spared.one_member)
              ∙ contains-difference a gone spared.one
              ∙ out _ _ (contains-retain a test spared.one ∙ inside _ _ spared.one_member spared.one_goes)));
        }
      ] refl
    where
      both : (b c : Bool) → b ≡ true → c ≡ false → (b && not c) ≡ true
      both b c one other = grind arith

      out : (b c : Bool) → c ≡ true → (b && not c) ≡ false
      out b c go = grind arith

      inside : (b c : Bool) → b ≡ true → c ≡ true → (b && c) ≡ true
      inside b c one other = grind arith
