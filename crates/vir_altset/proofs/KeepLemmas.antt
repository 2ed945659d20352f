-- The members of a set are tested one after the other.
use Rattle.std.proofs.Common.{◌≡◌, ◌≢◌, ℕ, ◌+◌, ◌<◌, ◌≤◌, Bool, true, false, nat_eq, refl, sym, ap, ◌∙◌, arith}
use Rattle.std.proofs.lemmas.Bool.Decides.{nat_tests}
use Rattle.std.specs.FinSet as set
use Rattle.vir_altset.specs.Keep.{IsKept}
use Rattle.vir_altset.specs.SetLaws.{contains-empty, contains-insert-same, contains-insert-other}
use Rattle.vir_altset.specs.Sets.{Set, limit, IsBounded}

-- kept has what the test keeps of the members below n
pub record KeptBelow (a kept : Set) (Told : ℕ → Bool → Type 0) (n : ℕ) : Type 0 where
  pub told : (x : ℕ) → x < n → set.contains a x ≡ true → Told x (set.contains kept x)
  pub part : (x : ℕ) → set.contains a x ≡ false → set.contains kept x ≡ false
  pub rest : (x : ℕ) → n ≤ x → set.contains kept x ≡ false

pub kept_none : (a : Set) (Told : ℕ → Bool → Type 0) → IsBounded a → KeptBelow a set.empty Told 1
kept_none a Told bounded = record {
  told = λ x h member. absurd (let low = (bounded.within x member).0 in omega arith);
  part = λ x out. contains-empty x;
  rest = λ x h. contains-empty x;
}

-- the member n is kept
pub kept_more : {a kept : Set} {Told : ℕ → Bool → Type 0} {n : ℕ} → KeptBelow a kept Told n → set.contains a n ≡ true
    → Told n true → KeptBelow a (set.insert kept n) Told (n + 1)
kept_more {a} {kept} {Told} {n} below member told = record {
  told = λ x h i. elim (nat_eq x n) as (λ b. nat_eq x n ≡ b → Told x (set.contains (set.insert kept n) x)) [
    | true ↦ λ e. let is : x ≡ n = grind (arith, nat_tests) in rw (is, contains-insert-same kept n) told
    | false ↦ λ e. let apart : x ≢ n = grind (arith, nat_tests) in rw (contains-insert-other kept n x apart)
        (below.told x (omega arith) i)
  ] refl;
  part = λ x out. elim (nat_eq x n) as (λ b. nat_eq x n ≡ b → set.contains (set.insert kept n) x ≡ false) [
    | true ↦ λ e. let is : x ≡ n = grind (arith, nat_tests) in cc (ap (set.contains a) is, out, member)
    | false ↦ λ e. let apart : x ≢ n = grind (arith, nat_tests) in contains-insert-other kept n x apart
        ∙ below.part x out
  ] refl;
  rest = λ x h. contains-insert-other kept n x (omega arith) ∙ below.rest x (omega arith);
}

-- n is not kept
pub kept_same : {a kept : Set} {Told : ℕ → Bool → Type 0} {n : ℕ} → KeptBelow a kept Told n
    → (set.contains a n ≡ true → Told n false) → KeptBelow a kept Told (n + 1)
kept_same {a} {kept} {Told} {n} below told = record {
  told = λ x h i. elim (nat_eq x n) as (λ b. nat_eq x n ≡ b → Told x (set.contains kept x)) [
    | true ↦ λ e. let is : x ≡ n = grind (arith, nat_tests) in rw (is, below.rest n (omega arith))
        (told (ap (set.contains a) (sym is) ∙ i))
    | false ↦ λ e. let apart : x ≢ n = grind (arith, nat_tests) in below.told x (omega arith) i
  ] refl;
  part = below.part;
  rest = λ x h. below.rest x (omega arith);
}

pub kept_all : {a kept : Set} {Told : ℕ → Bool → Type 0} {n : ℕ} → IsBounded a → limit < n → KeptBelow a kept Told n
    → IsKept a kept Told
kept_all bounded h below =
    record {
      told = λ x member. let top = (bounded.within x member).1 in below.told x (omega arith) member;
      part =
          below.part;
    }
