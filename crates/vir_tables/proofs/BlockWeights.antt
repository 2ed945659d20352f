-- What the lines of a block add for a pair, by the places that are noted.
use Rattle.std.proofs.Common.{◌≡◌, ℕ, zero, suc, ◌+◌, ◌<◌, ◌≤◌, true, false, cond, List, [], ◌∷◌, length}
use Rattle.std.proofs.Common.{get_or, drop, nat_lt}
use Rattle.std.proofs.Common.{refl, ap, ap₂, ◌∙◌, ◌-◌, ◌*◌, All, None, arith, add-one, take}
use Rattle.std.proofs.lemmas.Bool.Decides.{nat_tests}
use Rattle.vir_profile.specs.declared.ballot.Entry.{Entry}
use Rattle.vir_profile.specs.Orders.{puts_before}
use Rattle.vir_profile.specs.Profiles.{pairwise_weight}
use Rattle.std.proofs.lemmas.List.{get_or-drop, get_or-take}
use Rattle.std.proofs.lemmas.List.Sums.{sum_by-cons}
use Rattle.vir_profile.specs.OrderFaults.{order_fault}
use Rattle.vir_tables.specs.Additions.{AreWeights, weight_before}
use Rattle.vir_tables.specs.Places.{ArePlaces}
use Rattle.vir_tables.specs.Table.{IsAlternative}
use Rattle.vir_tables.proofs.Lines.{nothing_left, weight_where-drop}
use Rattle.vir_tables.proofs.Places.{any_default, listing_here}
use Rattle.vir_tables.proofs.RankedPairs.{lower_is_before, occurs_once, puts_itself}

-- one line more
pub weight_before-more : (k : ℕ) (first second weights : List ℕ) → weight_before (k + 1) first second weights
    ≡ weight_before k first second weights + cond (nat_lt (get_or first k 0) (get_or second k 0)) (get_or weights k 0) 0
weight_before-more k first second weights = ap (λ n. weight_before n first second weights) (add-one k)

-- some lines have no more weight than all
pub weight_before_le : (k n : ℕ) (first second weights : List ℕ) → k ≤ n
    → weight_before k first second weights ≤ weight_before n first second weights
weight_before_le k zero first second weights h = let e : k ≡ 0 = omega arith in rw e (omega arith)
weight_before_le k (suc n) first second weights h = elim (nat_lt n k) as (λ c. nat_lt n k ≡ c
    → weight_before k first second weights ≤ weight_before (suc n) first second weights) [
      | true ↦ λ t. let e : k ≡ suc n = grind (arith, nat_tests) in rw e (omega arith)
      | false ↦ λ t. let less : k ≤ n = grind (arith, nat_tests) in
          let rest = weight_before_le k n first second weights less in
          omega arith
    ] refl

-- Of each line, the places tell whether it puts x before y.
pub record AreRanked (x y : ℕ) (first second : List ℕ) (lines : List Entry) : Type 0 where
  pub at : (l : ℕ) (line : Entry) → l < length lines → line ≡ get_or lines l line
      → nat_lt (get_or first l 0) (get_or second l 0) ≡ puts_before x y line.order

one_more : (x y k : ℕ) (first second weights : List ℕ) (lines : List Entry) (line : Entry) → k < length lines
    → line ≡ get_or lines k line → AreRanked x y first second lines → AreWeights weights lines
    → weight_before k first second weights + pairwise_weight (drop k lines) x y ≡ pairwise_weight lines x y
    → weight_before (suc k) first second weights + pairwise_weight (drop (suc k) lines) x y ≡ pairwise_weight lines x y
one_more x y k first second weights lines line within here ranked noted before =
    let left = weight_where-drop (puts_before x y) lines k line within here in
    let same = ap (λ i. pairwise_weight (drop i lines) x y) (add-one k) in
    let this = ap₂ (λ c w. cond c w 0) (ranked.at k line within here) (noted.at k line within here) in
    omega (arith, left, same, this, before)

-- what some lines have, and the others
weight_before-left : (x y k : ℕ) (first second weights : List ℕ) (lines : List Entry) → k ≤ length lines
    → AreRanked x y first second lines → AreWeights weights lines
    → weight_before k first second weights + pairwise_weight (drop k lines) x y ≡ pairwise_weight lines x y
weight_before-left x y zero first second weights lines h ranked noted = omega arith
weight_before-left x y (suc k) first second weights [] h ranked noted = absurd (omega arith)
weight_before-left x y (suc k) first second weights (e ∷ lines) h ranked noted =
    let all = e ∷ lines in
    let line = get_or all k e in
    one_more x y k first second weights all line (omega arith) (any_default all k e line (omega arith)) ranked noted
    (weight_before-left x y k first second weights all (omega arith) ranked noted)

-- all lines of a block have what is added for the pair
pub weight_before-all : (x y n : ℕ) (first second weights : List ℕ) (lines : List Entry) → n ≡ length lines
    → AreRanked x y first second lines → AreWeights weights lines
    → weight_before n first second weights ≡ pairwise_weight lines x y
weight_before-all x y n first second weights lines size ranked noted =
    let left = weight_before-left x y n first second weights lines (omega arith) ranked noted in
    let none = nothing_left (puts_before x y) lines n (omega arith) in
    omega arith

-- ---- what stands in the columns of a block
column : (s k l : ℕ) (xs : List ℕ) → l < k → get_or (take k (drop s xs)) l 0 ≡ get_or xs (s + l) 0
column s k l xs h = get_or-take k (drop s xs) l 0 h ∙ get_or-drop s xs l 0

pub ranked_columns : (m n x b s k r j : ℕ) (places : List ℕ) (lines : List Entry) → n ≡ length lines
    → s ≡ (x - 1) * n → k ≡ n → r ≡ (b - 1) * n → j ≡ n
    → All (λ (e : Entry). order_fault m e.order ≡ None) lines → IsAlternative m x → IsAlternative m b
    → ArePlaces m n n places lines
    → AreRanked x b (take k (drop s places)) (take j (drop r places)) lines
ranked_columns m n x b s k r j places lines size start wide from wide' known hx hb noted = record {
  at = λ l line h here.
      let lists = listing_here m lines l line known h here in
      let first = noted.at l x line (omega arith) here hx in
      let second = noted.at l b line (omega arith) here hb in
      let p : get_or (take k (drop s places)) l 0 ≡ get_or places ((x - 1) * n + l) 0
      = column s k l places (omega arith) ∙ ap (λ i. get_or places (i + l) 0) start in
      let q : get_or (take j (drop r places)) l 0 ≡ get_or places ((b - 1) * n + l) 0
      = column r j l places (omega arith) ∙ ap (λ i. get_or places (i + l) 0) from in
      ap₂ (λ i t. nat_lt i t) p q
      ∙ lower_is_before x b _ _ line.order first.within second.within first.here second.here
      (occurs_once m line.order lists x) (occurs_once m line.order lists b);
}

-- no voter puts an alternative before itself
pub pairwise_itself : (x : ℕ) (lines : List Entry) → pairwise_weight lines x x ≡ 0
pairwise_itself x [] = refl
pairwise_itself x (line ∷ lines) =
    let here = sum_by-cons (λ (e : Entry). cond (puts_before x x e.order) e.weight 0) line lines in
    let this = ap (λ c. cond c line.weight 0) (puts_itself x line.order) in
    let rest = pairwise_itself x lines in
    omega (arith, here, this, rest)
