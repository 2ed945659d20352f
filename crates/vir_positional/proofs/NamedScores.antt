-- The weights of plurality and of Borda give the scores of these names.
use Rattle.std.proofs.Common.{◌≡◌, ℕ, suc, ◌+◌, ◌-◌, ◌*◌, ◌<◌, ◌≤◌, Bool, true, false, cond, not, nat_eq, List, [], ◌∷◌}
use Rattle.std.proofs.Common.{length, refl, sym, ap, ap₂, ◌∙◌, arith, pos}
use Rattle.std.proofs.lemmas.Bool.Decides.{nat_tests}
use Rattle.std.proofs.lemmas.List.Elements.{All-head, All-tail}
use Rattle.std.proofs.lemmas.List.Sums.{sum_by-cons}
use Rattle.std.specs.FinSet as set
use Rattle.vir_altset.specs.Sets.{Set}
use Rattle.vir_altset.specs.Splits.{bit}
use Rattle.vir_profile.specs.declared.ballot.Entry.{Entry}
use Rattle.vir_profile.specs.Orders.{IsListing, puts_before, begins_with}
use Rattle.vir_profile.specs.Profiles.{IsProfileOn, pairwise_weight, first_weight}
use Rattle.vir_profile.proofs.OrderLaws.{len-listing}
use Rattle.vir_mean.specs.FixedOrders.{place}
use Rattle.vir_mean.specs.Lifts.{without}
use Rattle.vir_mean.specs.Listings.{others, total}
use Rattle.vir_mean.specs.Scores.{plurality_score, borda_score}
use Rattle.vir_mean.proofs.MemberCounts.{often, lists_of, total_same}
use Rattle.vir_mean.proofs.MemberListings.{listing_without, others_list, often-filter, total_listings}
use Rattle.vir_mean.proofs.MemberSums.{total-zero, total-plus}
use Rattle.vir_positional.specs.declared.weight_form.WeightForm.TheVariants as form
use Rattle.vir_positional.specs.Positional.{weighed, positional}
use Rattle.vir_positional.specs.Weights.{weight_of}
use Rattle.vir_positional.proofs.WeighedLines.{weighed-cons}

module _ (a : Set) (x : ℕ) (inside : set.contains a x ≡ true) where
  once : (order : List ℕ) → IsListing a order → often x order ≡ 1
  once order lists = (lists_of a order lists).each x ∙ ap bit inside

  -- ---- plurality
  front_weight : (order : List ℕ) (w : ℕ) → often x order ≡ 1 → w * cond (nat_eq (place x order) 0) 1 0
      ≡ cond (begins_with x order) w 0
  front_weight [] w one = absurd (omega arith)
  front_weight (y ∷ rest) w one = step (nat_eq x y) (nat_eq y x) (place x rest) (turn x y)
    where
      turn : (x y : ℕ) → nat_eq x y ≡ nat_eq y x
      turn x y = grind (arith, nat_tests)

      ends : (b : Bool) (k : ℕ) → cond (nat_eq (cond b 0 (suc k)) 0) 1 0 ≡ bit b
      ends b k = grind (arith, nat_tests)

      times_bit : (w : ℕ) (b c : Bool) → b ≡ c → w * bit b ≡ cond c w 0
      times_bit w true c is = (omega arith) ∙ ap (λ b. cond b w 0) is
      times_bit w false c is = (omega arith) ∙ ap (λ b. cond b w 0) is

      step : (b c : Bool) (k : ℕ) → b ≡ c → w * cond (nat_eq (cond b 0 (suc k)) 0) 1 0 ≡ cond c w 0
      step b c k is = ap (λ n. w * n) (ends b k) ∙ times_bit w b c is

  plurality_sum : (p : List Entry) → IsProfileOn a p → weighed (λ i. weight_of form.Plurality i (set.len a)) p x
      ≡ first_weight p x
  plurality_sum [] on = refl
  plurality_sum (line ∷ p) on =
      weighed-cons (λ i. weight_of form.Plurality i (set.len a)) line p x
      ∙ ap₂ (λ m n. m + n) (front_weight line.order line.weight
      (once line.order (All-head (λ line. IsListing a line.order) line p on)))
      (plurality_sum p (All-tail (λ line. IsListing a line.order) line p on))
      ∙ sym (sum_by-cons (λ (e : Entry). cond (begins_with x e.order) e.weight 0) line p)

  -- ---- Borda
  -- in a list of a set's members each stands at most once
  abbrev Once : List ℕ → Type 0
  Once list = (y : ℕ) → often y list ≤ 1

  length-without_none : (list : List ℕ) → often x list ≡ 0 → total (λ y. 1) (without x list) ≡ length list
  length-without_none [] none = refl
  length-without_none (z ∷ rest) none = step (nat_eq x z) (without x rest) none (length-without_none rest)
    where
      step : (b : Bool) (others : List ℕ) → bit b + often x rest ≡ 0 → (often x rest ≡ 0 → total (λ y. 1) others
          ≡ length rest) → total (λ y. 1) (cond (not b) (z ∷ others) others) ≡ suc (length rest)
      step true others none same = absurd (omega arith)
      step false others none same = let k = same (omega arith) in omega arith

  -- who stands in the list without x isn't x
  not_there : (list : List ℕ) (y : ℕ) → 0 < often y (without x list) → nat_eq x y ≡ false
  not_there list y some = step (nat_eq x y) (often y list) (subst_some)
    where
      subst_some : 0 < cond (not (nat_eq x y)) (often y list) 0
      subst_some = let is = often-filter (λ z. not (nat_eq x z)) y list in omega arith

      step : (b : Bool) (n : ℕ) → 0 < cond (not b) n 0 → b ≡ false
      step b n some = grind arith

  there : (list : List ℕ) (y : ℕ) → 0 < often y (without x list) → 0 < often y list
  there list y some = step (nat_eq x y) (often y list) (let is = often-filter (λ z. not (nat_eq x z)) y list
      in omega arith)
    where
      step : (b : Bool) (n : ℕ) → 0 < cond (not b) n 0 → 0 < n
      step b n some = grind arith

  -- those behind x, those before it and x itself are all
  behind : (list : List ℕ) → Once list → often x list ≡ 1 → total (λ y. bit (puts_before x y list)) (without x list)
      + place x list + 1 ≡ length list
  behind [] single one = absurd (omega arith)
  behind (z ∷ rest) single one = elim (nat_eq x z) as (λ b. nat_eq x z ≡ b
      → total (λ y. bit (puts_before x y (z ∷ rest))) (cond (not b) (z ∷ without x rest) (without x rest))
      + cond b 0 (suc (place x rest)) + 1 ≡ suc (length rest)) [
        | true ↦ λ e.
            let none : often x rest ≡ 0 = (let k = ap bit e in omega arith) in
            let each = total_same (λ y. bit (puts_before x y (z ∷ rest))) (λ y. 1) (without x rest)
            (λ y some. at_front y z (puts_before x y rest) e (not_there rest y some)) in
            let size = length-without_none rest none in
            omega arith
        | false ↦ λ e.
            let later = behind rest (λ y. let k = single y in omega arith) (let k = ap bit e in omega arith) in
            let each = total_same (λ y. bit (puts_before x y (z ∷ rest))) (λ y. bit (puts_before x y rest))
            (without x rest)
            (λ y some. further y z (puts_before x y rest) e (fresh y z (often y rest) (single y) (there rest y some)))
            in
            let first = at_itself z (puts_before x z rest) in
            omega arith
      ] refl
    where
      at_front : (y z : ℕ) (b : Bool) → nat_eq x z ≡ true → nat_eq x y ≡ false
          → bit (cond (nat_eq z y) false (cond (nat_eq z x) true b)) ≡ 1
      at_front y z b e f = grind (arith, nat_tests)

      fresh : (y z n : ℕ) → bit (nat_eq y z) + n ≤ 1 → 0 < n → nat_eq z y ≡ false
      fresh y z n few some = grind (arith, nat_tests)

      further : (y z : ℕ) (b : Bool) → nat_eq x z ≡ false → nat_eq z y ≡ false
          → bit (cond (nat_eq z y) false (cond (nat_eq z x) true b)) ≡ bit b
      further y z b e f = grind (arith, nat_tests)

      at_itself : (z : ℕ) (b : Bool) → bit (cond (nat_eq z z) false (cond (nat_eq z x) true b)) ≡ 0
      at_itself z b = grind (arith, nat_tests)

  -- on an order of the set's members
  line_behind : (order : List ℕ) → IsListing a order → total (λ y. bit (puts_before x y order)) (others x a)
      ≡ set.len a - 1 - place x order
  line_behind order lists =
      let size = len-listing order a lists in
      let counts = behind order (λ y. let is = (lists_of a order lists).each y in let few = bit_le (set.contains a y)
      in omega arith) (once order lists) in
      let same = total_listings (λ y. bit (puts_before x y order)) (set.remove a x) (others x a) (without x order)
      (others_list a x) (listing_without a x order (lists_of a order lists)) in
      omega arith
    where
      bit_le : (b : Bool) → bit b ≤ 1
      bit_le true = omega arith
      bit_le false = omega arith

  total-weights : (w : ℕ) (t : ℕ → Bool) (list : List ℕ) → total (λ y. cond (t y) w 0) list ≡ w * total (λ y. bit (t y))
      list
  total-weights w t [] = omega arith
  total-weights w t (y ∷ rest) = ap₂ (λ m n. m + n) (one w (t y)) (total-weights w t rest) ∙ joined w (bit (t y))
      (total (λ y. bit (t y)) rest)
    where
      one : (w : ℕ) (b : Bool) → cond b w 0 ≡ w * bit b
      one w true = omega arith
      one w false = omega arith

      joined : (w m n : ℕ) → w * m + w * n ≡ w * (m + n)
      joined w m n = omega arith

  borda_sum : (p : List Entry) → IsProfileOn a p → weighed (λ i. weight_of form.Borda i (set.len a)) p x
      ≡ total (pairwise_weight p x) (others x a)
  borda_sum [] on = sym (total-zero (others x a))
  borda_sum (line ∷ p) on =
      weighed-cons (λ i. weight_of form.Borda i (set.len a)) line p x
      ∙ ap₂ (λ m n. m + n)
      (ap (λ n. line.weight * n) (sym (line_behind line.order (All-head (λ line. IsListing a line.order) line p on)))
      ∙ sym (total-weights line.weight (λ y. puts_before x y line.order) (others x a)))
      (borda_sum p (All-tail (λ line. IsListing a line.order) line p on))
      ∙ sym (total-plus (λ y. cond (puts_before x y line.order) line.weight 0) (pairwise_weight p x) (others x a))
      ∙ total_same _ _ (others x a)
      (λ y some. sym (sum_by-cons (λ (e : Entry). cond (puts_before x y e.order) e.weight 0) line p))

pub plurality_by_weights : (a : Set) (p : List Entry) (x : ℕ) → IsProfileOn a p → set.contains a x ≡ true
    → positional form.Plurality a p x ≡ plurality_score p x
plurality_by_weights a p x on inside = ap pos (plurality_sum a x inside p on)

pub borda_by_weights : (a : Set) (p : List Entry) (x : ℕ) → IsProfileOn a p → set.contains a x ≡ true
    → positional form.Borda a p x ≡ borda_score a p x
borda_by_weights a p x on inside = ap pos (borda_sum a x inside p on)
