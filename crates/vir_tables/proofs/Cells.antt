-- Cells of a table of pairs: where they stand, and what a write leaves.
use Rattle.std.proofs.Common.{◌≡◌, ℕ, zero, suc, ◌+◌, ◌-◌, ◌*◌, ◌<◌, ◌≤◌, true, false, List, [], ◌∷◌, length}
use Rattle.std.proofs.Common.{get_or, nat_eq, nat_lt}
use Rattle.std.proofs.Common.{◌≢◌, cond, refl, ap, ap₂, arith, eqb-true}
use Rattle.std.proofs.Math.ListN.{set as put}
use Rattle.std.proofs.lemmas.List.{get_or-set_other}
use Rattle.std.proofs.lemmas.Grind.{get_or-set_at}
use Rattle.std.proofs.Math.Nat.{mul-le-mul_right}
use Rattle.std.proofs.lemmas.Bool.Decides.{nat_tests}
use Rattle.vir_tables.specs.Table.{index, cell, IsAlternative}

-- a row ends before the next begins
pub row_end : (m a x : ℕ) → a < x → a * m + m ≤ x * m
row_end m a x h = let k : (a + 1) * m ≤ x * m = mul-le-mul_right m (omega arith) in omega arith

-- each place is in the table
pub index_lt : (m x y : ℕ) → IsAlternative m x → IsAlternative m y → index m x y < m * m
index_lt m x y hx hy = let a = hx.low in let b = hx.high in let c = hy.low in let d = hy.high in let k =
    row_end m (x - 1) m (omega arith) in omega arith

-- a number equals itself
pub eq_itself : (x : ℕ) → nat_eq x x ≡ true
eq_itself x = grind (arith, nat_tests)

-- inside a list it doesn't matter what would be read past its end
pub get_or_any : (xs : List ℕ) (i d e : ℕ) → i < length xs → get_or xs i d ≡ get_or xs i e
get_or_any [] i d e h = absurd (omega arith)
get_or_any (x ∷ xs) zero d e h = refl
get_or_any (x ∷ xs) (suc i) d e h = get_or_any xs i d e (omega arith)

-- a place tells the row and the place in it
pub one_row : (n a i b j : ℕ) → i < n → j < n → a * n + i ≡ b * n + j → a ≡ b
one_row n a i b j hi hj e = elim (nat_lt a b) as (λ c. nat_lt a b ≡ c → a ≡ b) [
  | true ↦ λ t. let less : a < b = grind (arith, nat_tests) in let k = row_end n a b less in absurd (omega arith)
  | false ↦ λ t. elim (nat_lt b a) as (λ c. nat_lt b a ≡ c → a ≡ b) [
    | true ↦ λ u. let less : b < a = grind (arith, nat_tests) in let k = row_end n b a less in absurd (omega arith)
    | false ↦ λ u. let same : a ≡ b = grind (arith, nat_tests) in same
  ] refl
] refl

pub one_place : (n a i b j : ℕ) → i < n → j < n → a * n + i ≡ b * n + j → i ≡ j
one_place n a i b j hi hj e = let same = ap (λ c. c * n) (one_row n a i b j hi hj e) in omega arith

-- a cell after one was written to
pub cell_put : (t : List ℕ) (m a b x y v : ℕ) → length t ≡ m * m → IsAlternative m a → IsAlternative m b
    → IsAlternative m x → IsAlternative m y
    → cell (put t (index m x y) v) m a b ≡ cond (nat_eq a x) (cond (nat_eq b y) v (cell t m a b)) (cell t m a b)
cell_put t m a b x y v size ha hb hx hy =
    let al = ha.low in let xl = hx.low in let bl = hb.low in let bh = hb.high in let yl = hy.low in let yh = hy.high in
    elim (nat_eq a x) as (λ c. nat_eq a x ≡ c → cell (put t (index m x y) v) m a b
    ≡ cond c (cond (nat_eq b y) v (cell t m a b)) (cell t m a b)) [
      | true ↦ λ e. elim (nat_eq b y) as (λ d. nat_eq b y ≡ d → cell (put t (index m x y) v) m a b
          ≡ cond d v (cell t m a b)) [
            | true ↦ λ d. get_or-set_at t (index m x y) (index m a b) v 0
                (ap₂ (λ i j. index m i j) (eqb-true a x e) (eqb-true b y d))
                (let within = index_lt m x y hx hy in omega arith)
            | false ↦ λ d. let apart : b ≢ y = grind (arith, nat_tests) in
                get_or-set_other t (index m x y) (index m a b) v 0
                (λ same. apart (let k = one_place m (a - 1) (b - 1) (x - 1) (y - 1) (omega arith) (omega arith) same
                in omega arith))
          ] refl
      | false ↦ λ e. let apart : a ≢ x = grind (arith, nat_tests) in
          get_or-set_other t (index m x y) (index m a b) v 0
          (λ same. apart (let k = one_row m (a - 1) (b - 1) (x - 1) (y - 1) (omega arith) (omega arith) same
          in omega arith))
    ] refl
