-- Marks of the members of a set, set one after another.
use Rattle.std.proofs.Common.{◌≡◌, ◌≢◌, ℕ, zero, suc, ◌<◌, ◌≤◌, Bool, true, false, List, length, get_or, replicate}
use Rattle.std.proofs.Common.{nat_eq, nat_le, refl, sym, ap, ◌∙◌, arith, get_or-set_other, get_or-set_same}
use Rattle.std.proofs.Math.ListN.{set as put}
use Rattle.std.proofs.lemmas.Bool.Decides.{nat_tests}
use Rattle.std.specs.FinSet as set
use Rattle.vir_altset.specs.Sets.{Set, limit, IsBounded, IsNext, IsLast}

-- of a list of no marks
pub unmarked : (n y : ℕ) → get_or (replicate n false) y false ≡ false
unmarked zero y = refl
unmarked (suc n) zero = refl
unmarked (suc n) (suc y) = unmarked n y

pub none_at_0 : (a : Set) → IsBounded a → (y : ℕ) → y ≤ 0 → set.contains a y ≡ false
none_at_0 a bounded y low = elim (set.contains a y) as (λ b. set.contains a y ≡ b → b ≡ false) [
  | true ↦ λ e. absurd (let high = (bounded.within y e).0 in omega arith)
  | false ↦ λ e. refl
] refl

-- marks of the members up to the last one that was met
module _ (a : Set) (marks : List Bool) (last : ℕ)
    (passed : (y : ℕ) → y ≤ last → get_or marks y false ≡ set.contains a y)
    (rest : (y : ℕ) → last < y → get_or marks y false ≡ false) where
  pub all_marked : IsLast a last → (y : ℕ) → get_or marks y false ≡ set.contains a y
  all_marked none y = elim (nat_le y last) as (λ b. nat_le y last ≡ b → get_or marks y false ≡ set.contains a y) [
    | true ↦ λ e. passed y (grind (arith, nat_tests))
    | false ↦ λ e. let late : last < y = grind (arith, nat_tests) in rest y late ∙ sym (none y late)
  ] refl

  pub all_marked_at_end : IsBounded a → limit ≤ last → (y : ℕ) → get_or marks y false ≡ set.contains a y
  all_marked_at_end bounded end = all_marked (λ y late. elim (set.contains a y) as (λ b. set.contains a y ≡ b
      → b ≡ false) [
        | true ↦ λ e. absurd (let high = (bounded.within y e).1 in omega arith)
        | false ↦ λ e. refl
      ] refl)

  module _ (x : ℕ) (next : IsNext a last x) (within : x < length marks) where
    pub marked_next : (y : ℕ) → y ≤ x → get_or (put marks x true) y false ≡ set.contains a y
    marked_next y low = elim (nat_eq y x) as (λ b. nat_eq y x ≡ b → get_or (put marks x true) y false
        ≡ set.contains a y) [
          | true ↦ λ e.
              let same : y ≡ x = grind (arith, nat_tests) in
              ap (λ z. get_or (put marks x true) z false) same ∙ get_or-set_same marks x true false within
              ∙ sym (ap (set.contains a) same ∙ next.member)
          | false ↦ λ e.
              let apart : y ≢ x = grind (arith, nat_tests) in
              get_or-set_other marks x y true false apart ∙ before y (grind (arith, nat_tests))
        ] refl
      where
        before : (y : ℕ) → y < x → get_or marks y false ≡ set.contains a y
        before y low = elim (nat_le y last) as (λ b. nat_le y last ≡ b → get_or marks y false ≡ set.contains a y) [
          | true ↦ λ e. passed y (grind (arith, nat_tests))
          | false ↦ λ e. let late : last < y = grind (arith, nat_tests) in rest y late ∙ sym (next.least y late low)
        ] refl

    pub unmarked_next : (y : ℕ) → x < y → get_or (put marks x true) y false ≡ false
    unmarked_next y late =
        let above = next.above in
        get_or-set_other marks x y true false (omega arith) ∙ rest y (omega arith)
