-- The numbers 1 to n that pass a test: what a change of the test is as an operation on the set.
use Rattle.std.proofs.Common.{◌≡◌, ◌≢◌, ℕ, zero, suc, ◌+◌, ◌<◌, ◌≤◌, Bool, true, false, ◌&&◌, ◌||◌, cond, nat_eq}
use Rattle.std.proofs.Common.{nat_le, nat_lt, refl, sym, ap, ◌∙◌, arith}
use Rattle.std.proofs.lemmas.Bool.Decides.{nat_tests, eqb_tells, leb_tells}
use Rattle.std.specs.FinSet as set
use Rattle.std.specs.Cmp.{nat_cmp_total}
use Rattle.std.specs.Ordering.{nat_cmp}
use Rattle.vir_altset.specs.Sets.{Set, all}
use Rattle.vir_altset.specs.SetLaws.{contains-empty, contains-insert, contains-insert-same, contains-insert-other}
use Rattle.vir_altset.specs.SetLaws.{contains-remove-same, contains-remove-other, contains-retain, contains-retain_all}
use Rattle.vir_altset.specs.SetLaws.{contains-all, same_members}

-- the numbers 1 to n that pass a test
abbrev pub passing : ℕ → (ℕ → Bool) → Set
passing n p = set.retain (all n) p

abbrev passes : ℕ → (ℕ → Bool) → ℕ → Bool
passes n p x = (nat_lt 0 x && nat_le x n) && p x

contains-passing : (n : ℕ) (p : ℕ → Bool) (x : ℕ) → set.contains (passing n p) x ≡ passes n p x
contains-passing n p x = contains-retain (all n) p x ∙ ap (λ b. b && p x) (contains-all n x)

pub contains-passing-0 : (n : ℕ) (p : ℕ → Bool) → set.contains (passing n p) 0 ≡ false
contains-passing-0 n p = contains-passing n p 0

pub contains-passing-above : (n : ℕ) (p : ℕ → Bool) (x : ℕ) → n < x → set.contains (passing n p) x ≡ false
contains-passing-above n p x above = contains-passing n p x ∙ step n x (p x) above
  where
    step : (n x : ℕ) (b : Bool) → n < x → ((nat_lt 0 x && nat_le x n) && b) ≡ false
    step n x b above = grind (arith, nat_tests)

-- a set whose members are the numbers 1 to n that pass
pub is_passing : (n : ℕ) (p : ℕ → Bool) (a : Set) → ((x : ℕ) → 0 < x → x ≤ n → set.contains a x ≡ p x)
    → set.contains a 0 ≡ false → ((x : ℕ) → n < x → set.contains a x ≡ false) → passing n p ≡ a
is_passing n p a within at_zero above = same_members (passing n p) a each
  where
    each : (x : ℕ) → set.contains (passing n p) x ≡ set.contains a x
    each zero = contains-passing-0 n p ∙ sym at_zero
    each (suc k) = elim (nat_le (suc k) n) as (λ b. nat_le (suc k) n ≡ b → set.contains (passing n p) (suc k)
        ≡ set.contains a (suc k)) [
          | true ↦ λ e. let le : suc k ≤ n = grind (arith, nat_tests) in contains-retain_all n p (suc k) (omega arith)
              le
              ∙ sym (within (suc k) (omega arith) le)
          | false ↦ λ e. let lt : n < suc k = grind (arith, nat_tests) in contains-passing-above n p (suc k) lt
              ∙ sym (above (suc k) lt)
        ] refl

-- two tests joined
pub passing_joined : (n : ℕ) (f : Bool → Bool → Bool) → f false false ≡ false → (p q r : ℕ → Bool)
    → ((x : ℕ) → 0 < x → x ≤ n → r x ≡ f (p x) (q x)) → (a : Set)
    → ((x : ℕ) → set.contains a x ≡ f (set.contains (passing n p) x) (set.contains (passing n q) x)) → passing n r ≡ a
passing_joined n f none p q r same a is =
    is_passing n r a
    (λ x low high. is x ∙ ap (λ v. f v (set.contains (passing n q) x)) (contains-retain_all n p x low high)
    ∙ ap (f (p x)) (contains-retain_all n q x low high) ∙ sym (same x low high))
    (is 0 ∙ ap (λ v. f v (set.contains (passing n q) 0)) (contains-passing-0 n p)
    ∙ ap (f false) (contains-passing-0 n q) ∙ none)
    (λ x h. is x ∙ ap (λ v. f v (set.contains (passing n q) x)) (contains-passing-above n p x h)
    ∙ ap (f false) (contains-passing-above n q x h) ∙ none)

-- a test changed at one number
passing_changed : (n : ℕ) (p r : ℕ → Bool) (y : ℕ) → 0 < y → y ≤ n → (a : Set) → set.contains a y ≡ r y
    → ((x : ℕ) → x ≢ y → set.contains a x ≡ set.contains (passing n p) x)
    → ((x : ℕ) → 0 < x → x ≤ n → x ≢ y → r x ≡ p x) → passing n r ≡ a
passing_changed n p r y low high a here others same =
    is_passing n r a within (others 0 (omega arith) ∙ contains-passing-0 n p) (λ x h. others x (omega arith)
    ∙ contains-passing-above n p x h)
  where
    within : (x : ℕ) → 0 < x → x ≤ n → set.contains a x ≡ r x
    within x l m = elim (nat_eq x y) as (λ t. nat_eq x y ≡ t → set.contains a x ≡ r x) [
      | true ↦ λ t. let is : x ≡ y = grind (arith, nat_tests) in rw is here
      | false ↦ λ t. let apart : x ≢ y = grind (arith, nat_tests) in others x apart ∙ contains-retain_all n p x l m
          ∙ sym (same x l m apart)
    ] refl

pub passing_inserted : (n : ℕ) (p r : ℕ → Bool) (y : ℕ) → 0 < y → y ≤ n → r y ≡ true → ((x : ℕ) → 0 < x → x ≤ n → x ≢ y
    → r x ≡ p x) → passing n r ≡ set.insert (passing n p) y
passing_inserted n p r y low high here same = passing_changed n p r y low high _ (contains-insert-same (passing n p) y
    ∙ sym here) (contains-insert-other (passing n p) y) same

pub passing_removed : (n : ℕ) (p r : ℕ → Bool) (y : ℕ) → 0 < y → y ≤ n → r y ≡ false → ((x : ℕ) → 0 < x → x ≤ n → x ≢ y
    → r x ≡ p x) → passing n r ≡ set.remove (passing n p) y
passing_removed n p r y low high here same = passing_changed n p r y low high _ (contains-remove-same (passing n p) y
    ∙ sym here) (contains-remove-other (passing n p) y) same

-- one further number
passing-suc : (n : ℕ) (p : ℕ → Bool) → passing (suc n) p ≡ cond (p (suc n)) (set.insert (passing n p) (suc n))
    (passing n p)
passing-suc n p = same_members _ _ (λ x. contains-passing (suc n) p x ∙ sym (step n p x)
    ∙ ap (λ b. (p (suc n) && nat_eq x (suc n)) || b) (sym (contains-passing n p x))
    ∙ sym (grown (p (suc n)) (passing n p) (suc n) x))
  where
    step : (n : ℕ) (p : ℕ → Bool) (x : ℕ) → ((p (suc n) && nat_eq x (suc n)) || passes n p x) ≡ passes (suc n) p x
    step n p x = grind (arith, nat_tests, eqb_tells, leb_tells)

    grown : (b : Bool) (a : Set) (y x : ℕ) → set.contains (cond b (set.insert a y) a) x
        ≡ ((b && nat_eq x y) || set.contains a x)
    grown true a y x = contains-insert a y x
    grown false a y x = refl

pub len-passing-suc : (n : ℕ) (p : ℕ → Bool) → set.len (passing (suc n) p) ≡ cond (p (suc n)) (set.len (passing n p)
    + 1) (set.len (passing n p))
len-passing-suc n p = ap set.len (passing-suc n p) ∙ step (p (suc n)) (passing n p) (suc n)
    (contains-passing-above n p (suc n) (omega arith))
  where
    step : (b : Bool) (a : Set) (y : ℕ) → set.contains a y ≡ false → set.len (cond b (set.insert a y) a)
        ≡ cond b (set.len a + 1) (set.len a)
    step true a y out = set.len-insert nat_cmp_total a y ∙ ap (λ b. cond b (set.len a) (set.len a + 1)) out
    step false a y out = refl

pub len-passing-0 : (p : ℕ → Bool) → set.len (passing 0 p) ≡ 0
len-passing-0 p = ap set.len (is_passing 0 p set.empty (λ x low high. absurd (omega arith)) (contains-empty 0)
    (λ x h. contains-empty x)) ∙ set.len-empty nat_cmp
