-- Rows of a table of pairs, as parts of it that are written to.
use Rattle.std.proofs.Common.{◌≡◌, ℕ, ◌+◌, ◌-◌, ◌*◌, ◌<◌, ◌≤◌, true, false, cond, List, length, get_or, nat_eq, nat_lt}
use Rattle.std.proofs.Common.{refl, ap, ap₂, ◌∙◌, ◌⊎◌, inl, inr, arith, eqb-true, rules}
use Rattle.std.proofs.lemmas.Bool.Decides.{nat_tests}
use Rattle.std.proofs.lemmas.List.{places}
use borrow.Rule.Slice.PartMut.{put_mid, mid_of}
use Rattle.vir_tables.specs.Table.{index, cell, IsAlternative}
use Rattle.vir_tables.proofs.Cells.{row_end}

-- what stands in a part
pub in_part : (s k i : ℕ) (xs : List ℕ) → i < k → s + k ≤ length xs → get_or (mid_of s k xs) i 0 ≡ get_or xs (s + i) 0
in_part s k i xs h f = search (rules, places)

pub length_part : (s k : ℕ) (xs : List ℕ) → s + k ≤ length xs → length (mid_of s k xs) ≡ k
length_part s k xs f = search (rules, places)

-- what stands in a part that was written to, before it and behind it
pub in_written : (s k i : ℕ) (xs ys : List ℕ) → s ≤ length xs → i < length ys → get_or (put_mid s k xs ys) (s + i) 0
    ≡ get_or ys i 0
in_written s k i xs ys h f = search (rules, places)

pub before_written : (s k i : ℕ) (xs ys : List ℕ) → s ≤ length xs → i < s → get_or (put_mid s k xs ys) i 0
    ≡ get_or xs i 0
before_written s k i xs ys h f = search (rules, places)

pub behind_written : (s k i : ℕ) (xs ys : List ℕ) → s + k ≤ length xs → length ys ≡ k → s + k ≤ i
    → get_or (put_mid s k xs ys) i 0 ≡ get_or xs i 0
behind_written s k i xs ys h f g = search (rules, places)

-- a row ends within the table
row_within : (m x : ℕ) → IsAlternative m x → (x - 1) * m + m ≤ m * m
row_within m x hx = let a = hx.low in let b = hx.high in row_end m (x - 1) m (omega arith)

-- a row has a number for each alternative
pub row_length : (t : List ℕ) (m x s k : ℕ) → s ≡ (x - 1) * m → k ≡ m → length t ≡ m * m → IsAlternative m x
    → length (mid_of s k t) ≡ m
row_length t m x s k start rows size hx = ap₂ (λ i j. length (mid_of i j t)) start rows ∙ length_part ((x - 1) * m) m t
    (let w = row_within m x hx in omega arith)

-- a cell in the row of x
pub cell_in_row : (t : List ℕ) (m x b : ℕ) → length t ≡ m * m → IsAlternative m x → IsAlternative m b
    → get_or (mid_of ((x - 1) * m) m t) (b - 1) 0 ≡ cell t m x b
cell_in_row t m x b size hx hb = in_part ((x - 1) * m) m (b - 1) t (let l = hb.low in let h = hb.high in omega arith)
    (let w = row_within m x hx in omega arith)

-- two rows are one before the other
apart : (a x : ℕ) → 1 ≤ a → 1 ≤ x → nat_eq a x ≡ false → (a - 1 < x - 1) ⊎ (x - 1 < a - 1)
apart a x al xl e = elim (nat_lt a x) as (λ t. nat_lt a x ≡ t → (a - 1 < x - 1) ⊎ (x - 1 < a - 1)) [
  | true ↦ λ t. let k : a - 1 < x - 1 = grind (arith, nat_tests) in inl k
  | false ↦ λ t. let k : x - 1 < a - 1 = grind (arith, nat_tests) in inr k
] refl

-- a cell after the row of x was written to
pub cell_after : (t row : List ℕ) (m a b x : ℕ) → length t ≡ m * m → length row ≡ m → IsAlternative m a
    → IsAlternative m b → IsAlternative m x
    → cell (put_mid ((x - 1) * m) m t row) m a b ≡ cond (nat_eq a x) (get_or row (b - 1) 0) (cell t m a b)
cell_after t row m a b x size rows ha hb hx =
    let bl = hb.low in let bh = hb.high in let al = ha.low in let ah = ha.high in let xl = hx.low in let xh = hx.high in
    let w = row_within m x hx in
    elim (nat_eq a x) as (λ c. nat_eq a x ≡ c → cell (put_mid ((x - 1) * m) m t row) m a b
    ≡ cond c (get_or row (b - 1) 0) (cell t m a b)) [
      | true ↦ λ e. ap (λ z. cell (put_mid ((x - 1) * m) m t row) m z b) (eqb-true a x e) ∙ in_written ((x - 1) * m) m
          (b - 1) t row (omega arith) (omega arith)
      | false ↦ λ e. other e
    ] refl
  where
    before : a - 1 < x - 1 → index m a b < (x - 1) * m
    before less = let k = row_end m (a - 1) (x - 1) less in let bl = hb.low in let bh = hb.high in omega arith

    behind : x - 1 < a - 1 → (x - 1) * m + m ≤ index m a b
    behind more = let k = row_end m (x - 1) (a - 1) more in omega arith

    other : nat_eq a x ≡ false → cell (put_mid ((x - 1) * m) m t row) m a b ≡ cell t m a b
    other e = let w = row_within m x hx in elim (apart a x ha.low hx.low e) [
      | inl less ↦ before_written ((x - 1) * m) m (index m a b) t row (omega arith) (before less)
      | inr more ↦ behind_written ((x - 1) * m) m (index m a b) t row (omega arith) rows (behind more)
    ]
