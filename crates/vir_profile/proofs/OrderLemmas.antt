-- What each member of an order does to its first fault.
use Rattle.std.proofs.Common.{◌≡◌, ℕ, suc, ◌+◌, ◌<◌, ◌≤◌, true, false, ◌&&◌, List, ◌∷◌, length, get_or, take, drop}
use Rattle.std.proofs.Common.{Some, None, nat_le, nat_lt, refl, sym, ap, ◌∙◌, arith, add-one}
use Rattle.std.proofs.Math.Seq.{drop-cons}
use Rattle.std.proofs.lemmas.List.{take_more}
use Rattle.std.proofs.lemmas.Bool.Decides.{nat_tests}
use Rattle.std.specs.FinSet as set
use Rattle.std.specs.FinSet.{nat_cmp-IsAntisymmetric}
use Rattle.std.specs.Ordering.{nat_cmp}
use Rattle.std.specs.Cmp.{nat_cmp_total}
use Rattle.vir_profile.specs.declared.refused.AddFault.TheVariants.{OutOfRange, Repeated, Short}
use Rattle.vir_profile.specs.OrderFaults.{member_fault_after, fault_where}

ranged : (m x : ℕ) → 1 ≤ x → x ≤ m → (nat_le 1 x && nat_le x m) ≡ true
ranged m x a b = grind (arith, nat_tests)

outside : (m x : ℕ) → m < x → (nat_le 1 x && nat_le x m) ≡ false
outside m x a = grind (arith, nat_tests)

pub is_short : (n m : ℕ) → n < m → fault_where (nat_lt n m) Short ≡ Some Short
is_short n m h = grind (arith, nat_tests)

pub is_long : (n m : ℕ) → m ≤ n → fault_where (nat_lt n m) Short ≡ None
is_long n m h = grind (arith, nat_tests)

module _ (m : ℕ) (xs : List ℕ) (i x : ℕ) (h : i < length xs) (is : x ≡ get_or xs i 0) where
  split : drop i xs ≡ x ∷ drop (i + 1) xs
  split = rw add-one (drop-cons xs i 0 h ∙ ap (λ y. y ∷ drop (suc i) xs) (sym is))

  pub seen_more : set.insert (set.from_list {R = nat_cmp} (take i xs)) x ≡ set.from_list {R = nat_cmp} (take (i + 1) xs)
  seen_more = rw (take_more xs i 0 h, ← is) (sym (set.from_list_push nat_cmp_total nat_cmp-IsAntisymmetric (take i xs)
      x))

  pub member_outside : m < x → member_fault_after m (take i xs) (drop i xs) ≡ Some OutOfRange
  member_outside a = rw (split, outside m x a) refl

  pub member_zero : x ≡ 0 → member_fault_after m (take i xs) (drop i xs) ≡ Some OutOfRange
  member_zero z = rw (split, z) refl

  pub member_step : 1 ≤ x → x ≤ m → false ≡ set.contains (set.from_list {R = nat_cmp} (take i xs)) x
      → member_fault_after m (take i xs) (drop i xs) ≡ member_fault_after m (take (i + 1) xs) (drop (i + 1) xs)
  member_step a b n = rw (
    split,
    ranged m x a b,
    ← set.contains-from_list_nat (take i xs) x,
    ← n,
    take_more xs i 0 h,
    ←
        is,
  ) refl

  pub member_repeats : 1 ≤ x → x ≤ m → true ≡ set.contains (set.from_list {R = nat_cmp} (take i xs)) x
      → member_fault_after m (take i xs) (drop i xs) ≡ Some Repeated
  member_repeats a b n = rw (split, ranged m x a b, ← set.contains-from_list_nat (take i xs) x, ← n) refl
