-- How long a printed term is.
use Rattle.std.proofs.Common.{◌≡◌, ℕ, suc, ◌+◌, ◌*◌, ◌<◌, ◌≤◌, ◌^◌, Bool, true, false, ◌&&◌, ◌||◌, List, [], ◌∷◌, ◌++◌}
use Rattle.std.proofs.Common.{length, None, nat_le, nat_eq, decimal, refl, sym, ◌∙◌, ap, arith, length-append, lit<}
use Rattle.std.specs.List.{list_any, IsDistinct, AllByRecursion}
use Rattle.std.proofs.lemmas.Bool.{eqb-true, eq-eqb}
use Rattle.std.proofs.lemmas.Fmt.{length-decimal-le}
use Rattle.std.proofs.lemmas.List.Folds.{list_any-append}
use Rattle.std.proofs.lemmas.Map.Steps.{length-le_from_distinct_below}
use Rattle.vir_term.specs.declared.fixed_order.OrderFault.TheVariants.{OutOfRange, Repeated}
use Rattle.vir_term.specs.declared.leaf.Leaf.{Leaf}
use Rattle.vir_term.specs.declared.leaf.Leaf.TheVariants.{Elect, Defer, PassFirst, DropFirst, Plurality, Max, Min}
use Rattle.vir_term.specs.declared.leaf.Leaf.TheVariants.{Below, Upto}
use Rattle.vir_term.specs.declared.score.Score.{Score}
use Rattle.vir_term.specs.declared.score.Score.TheVariants as score
use Rattle.vir_term.specs.Orders.{member_limit, order_fault, order_fault_after}
use Rattle.vir_term.specs.Limits.{IsCount, IsLeafInRange, IsInRange, count_limit}
use Rattle.vir_term.specs.Text.{score_text, more_text, order_text, leaf_text, term_text}
use Rattle.vir_term.specs.Tree.{Tree, leaf, rev, seq, par, loop, exactly, at_most, size}
use Rattle.vir_read.specs.Printed.{part_length}
use Rattle.vir_read.proofs.RoundTripTyping.{no_fault, member_is_small}

-- ---- a fixed order has no more members than there are numbers for them

some_member : (test : ℕ → Bool) (before rest : List ℕ) → list_any test before ≡ true → list_any test (before ++ rest)
    ≡ true
some_member test before rest h = list_any-append test before rest ∙ rw h refl

last_member : (before : List ℕ) (x : ℕ) → list_any (λ y. nat_eq y x) (before ++ x ∷ []) ≡ true
last_member [] x = rw (eq-eqb x x refl) refl
last_member (y ∷ before) x = split (nat_eq y x) (last_member before x) where
  split : (b : Bool) → list_any (λ y. nat_eq y x) (before ++ x ∷ []) ≡ true
      → (b || list_any (λ y. nat_eq y x) (before ++ x ∷ [])) ≡ true
  split true h = refl
  split false h = h

true_is_not_false : true ≡ false → ⊥
true_is_not_false e = cc

-- what stood before is none of those behind it
unlike_before : (before order : List ℕ) (y : ℕ) → list_any (λ z. nat_eq z y) before ≡ true → order_fault_after before
    order ≡ None → AllByRecursion (λ x. nat_eq y x ≡ false) order
unlike_before before [] y h good = tt
unlike_before before (x ∷ order) y h good =
    let g = no_fault (nat_le 1 x && nat_le x member_limit) (list_any (λ y. nat_eq y x) before) Repeated OutOfRange
    (order_fault_after (before ++ x ∷ []) order) good in (
      unlike (nat_eq y x) refl g.1,
      unlike_before (before ++ x ∷ []) order y (some_member (λ z. nat_eq z y) before
          (x ∷ []) h) g.2,
    ) where
      unlike : (b : Bool) → nat_eq y x ≡ b → list_any (λ z. nat_eq z x) before ≡ false → nat_eq y x ≡ false
      unlike true e new =
          absurd (true_is_not_false (sym h ∙ ap (λ y. list_any (λ z. nat_eq z y) before) (eqb-true y x e) ∙ new))
      unlike false e new = e

distinct : (before order : List ℕ) → order_fault_after before order ≡ None → IsDistinct nat_eq order
unfolding IsDistinct
distinct before [] good = tt
distinct before (x ∷ order) good =
    let g = no_fault (nat_le 1 x && nat_le x member_limit) (list_any (λ y. nat_eq y x) before) Repeated OutOfRange
    (order_fault_after (before ++ x ∷ []) order) good in
    (unlike_before (before ++ x ∷ []) order x (last_member before x) g.2, distinct (before ++ x ∷ []) order g.2)

members_are_small : (before order : List ℕ) → order_fault_after before order ≡ None → (q : ℕ)
    → list_any (nat_eq q) order ≡ true → q < suc member_limit
members_are_small before [] good q h = cc
members_are_small before (x ∷ order) good q h =
    let g = no_fault (nat_le 1 x && nat_le x member_limit) (list_any (λ y. nat_eq y x) before) Repeated OutOfRange
    (order_fault_after (before ++ x ∷ []) order) good in
    split (nat_eq q x) refl h (member_is_small x g.0) (λ h. members_are_small (before ++ x ∷ []) order g.2 q h) where
      split : (b : Bool) → nat_eq q x ≡ b → (b || list_any (nat_eq q) order) ≡ true → x ≤ member_limit
          → (list_any (nat_eq q) order ≡ true → q < suc member_limit) → q < suc member_limit
      split true e h small others = omega (arith, eqb-true q x e)
      split false e h small others = others h

length-order : (order : List ℕ) → order_fault order ≡ None → length order ≤ suc member_limit
length-order order good = length-le_from_distinct_below order (suc member_limit) (distinct [] order good)
    (members_are_small [] order good)

-- ---- texts

length-member : (x : ℕ) → x ≤ member_limit → length (decimal x) ≤ 4
length-member x h =
    length-decimal-le 4 x (omega arith) (omega (arith, lit< {m = member_limit} {n = 10 ^ 4} tt))
    (omega (arith, lit< {m = member_limit} {n = 2 ^ 64} tt))

length-count : (k : ℕ) → k ≤ count_limit → length (decimal k) ≤ 7
length-count k h =
    length-decimal-le 7 k (omega arith) (omega (arith, lit< {m = count_limit} {n = 10 ^ 7} tt))
    (omega (arith, lit< {m = count_limit} {n = 2 ^ 64} tt))

length-more_text : (before order : List ℕ) → order_fault_after before order ≡ None → length (more_text order) ≤ 5 *
    length order
length-more_text before [] good = omega arith
length-more_text before (x ∷ order) good =
    let g = no_fault (nat_le 1 x && nat_le x member_limit) (list_any (λ y. nat_eq y x) before) Repeated OutOfRange
    (order_fault_after (before ++ x ∷ []) order) good in
    omega (
      arith,
      length-append (decimal x) (more_text order),
      length-member x (member_is_small x g.0),
      length-more_text
          (before ++ x ∷ []) order g.2,
    )

length-order_text : (order : List ℕ) → order_fault order ≡ None → length (order_text order) ≤ 5 * length order + 2
length-order_text [] good = omega arith
length-order_text (x ∷ order) good =
    let g = no_fault (nat_le 1 x && nat_le x member_limit) false Repeated OutOfRange (order_fault_after (x ∷ []) order)
    good in
    omega (
      arith,
      length-append (decimal x ++ more_text order) (93 ∷ []),
      length-append (decimal x) (more_text order),
      length-member x (member_is_small x g.0),
      length-more_text (x ∷ []) order g.2,
    )

length-ordered : (k : ℕ) (order : List ℕ) → IsCount k → order_fault order ≡ None
    → length ((decimal k ++ order_text order) ++ 41 ∷ []) + 5 ≤ part_length
length-ordered k order count good =
    omega (
      arith,
      length-append (decimal k ++ order_text order) (41 ∷ []),
      length-append (decimal k) (order_text order),
      length-count k count.few,
      length-order_text order good,
      length-order order good,
    )

length-score_text : (s : Score) → length (score_text s) ≤ 10
length-score_text score.Plurality = omega arith
length-score_text score.Borda = omega arith
length-score_text score.Copeland = omega arith
length-score_text score.Minimax = omega arith
length-score_text score.Condorcet = omega arith

length-leaf_text : (l : Leaf) → IsLeafInRange l → length (leaf_text l) ≤ part_length
length-leaf_text Elect r = omega arith
length-leaf_text Defer r = omega arith
length-leaf_text Plurality r = omega arith
length-leaf_text (PassFirst k order) r = omega (arith, length-ordered k order r.0 r.1)
length-leaf_text (DropFirst k order) r = omega (arith, length-ordered k order r.0 r.1)
length-leaf_text (Max s) r = omega (arith, length-append (score_text s) (41 ∷ []), length-score_text s)
length-leaf_text (Min s) r = omega (arith, length-append (score_text s) (41 ∷ []), length-score_text s)
length-leaf_text (Below s) r = omega (arith, length-append (score_text s) (41 ∷ []), length-score_text s)
length-leaf_text (Upto s) r = omega (arith, length-append (score_text s) (41 ∷ []), length-score_text s)

length-two : (x y : List ℕ) → length (((x ++ 44 ∷ []) ++ y) ++ 41 ∷ []) ≡ length x + length y + 2
length-two x y = omega (
  arith,
  length-append ((x ++ 44 ∷ []) ++ y) (41 ∷ []),
  length-append (x ++ 44 ∷ []) y,
  length-append x (44 ∷ []),
)

pub length-term_text : (t : Tree) → IsInRange t → length (term_text t) ≤ part_length * size t
length-term_text (leaf l) r = omega (arith, length-leaf_text l r)
length-term_text (rev part) r = omega (arith, length-append (term_text part) (41 ∷ []), length-term_text part r)
length-term_text (seq first second) r = omega (
  arith,
  length-two (term_text first) (term_text second),
  length-term_text
      first r.0,
  length-term_text second r.1,
)
length-term_text (par first second) r = omega (
  arith,
  length-two (term_text first) (term_text second),
  length-term_text
      first r.0,
  length-term_text second r.1,
)
length-term_text (loop (exactly k) body) r = omega (
  arith,
  length-two (decimal k) (term_text body),
  length-count k
      r.0.few,
  length-term_text body r.1,
)
length-term_text (loop (at_most k) body) r = omega (
  arith,
  length-two (decimal k) (term_text body),
  length-count k
      r.0.few,
  length-term_text body r.1,
)
