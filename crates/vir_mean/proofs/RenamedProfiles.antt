-- Profiles under other names.
use Rattle.std.proofs.Common.{◌≡◌, ℕ, ◌+◌, ◌<◌, Bool, true, false, cond, List, [], ◌∷◌, map, filter, refl, sym, ap₂}
use Rattle.std.proofs.Common.{◌∙◌, arith}
use Rattle.std.proofs.lemmas.List.Elements.{All-head, All-tail}
use Rattle.std.proofs.lemmas.List.Sums.{sum_by-cons}
use Rattle.std.specs.FinSet as set
use Rattle.vir_altset.specs.Sets.{Set, IsPart}
use Rattle.vir_profile.specs.declared.ballot.Entry.{Entry}
use Rattle.vir_profile.specs.Orders.{IsListing, puts_before, begins_with}
use Rattle.vir_profile.specs.Profiles.{IsProfileOn, restrict, weight_where, pairwise_weight, first_weight}
use Rattle.vir_mean.specs.Neutrality.{IsRenaming, renamed_set, renamed_line, renamed_lines}
use Rattle.vir_mean.proofs.MemberCounts.{often, lists_of, at_head}
use Rattle.vir_mean.proofs.RenamedSets.{same_names, contains-renamed, member_listed}

-- each number in the list is a member
abbrev pub AllIn : Set → List ℕ → Type 0
AllIn a list = (x : ℕ) → 0 < often x list → set.contains a x ≡ true

pub all_in_rest : (a : Set) (y : ℕ) (list : List ℕ) → AllIn a (y ∷ list) → AllIn a list
all_in_rest a y list within x some = within x (omega arith)

module _ (f : ℕ → ℕ) (a : Set) (renaming : IsRenaming f a) where
  -- ---- one order
  begins_with-renamed : (x : ℕ) → set.contains a x ≡ true → (order : List ℕ) → AllIn a order
      → begins_with (f x) (map f order) ≡ begins_with x order
  begins_with-renamed x inside [] within = refl
  begins_with-renamed x inside (y ∷ rest) within = same_names f a renaming y x (within y (at_head y rest)) inside

  puts_before-renamed : (x y : ℕ) → set.contains a x ≡ true → set.contains a y ≡ true → (order : List ℕ) → AllIn a order
      → puts_before (f x) (f y) (map f order) ≡ puts_before x y order
  puts_before-renamed x y with_x with_y [] within = refl
  puts_before-renamed x y with_x with_y (z ∷ rest) within =
      step _ _ _ _ _ _
      (same_names f a renaming z y (within z (at_head z rest)) with_y)
      (same_names f a renaming z x (within z (at_head z rest)) with_x)
      (puts_before-renamed x y with_x with_y rest (all_in_rest a z rest within))
    where
      step : (b c d e g h : Bool) → b ≡ c → d ≡ e → g ≡ h → cond b false (cond d true g) ≡ cond c false (cond e true h)
      step b c d e g h one two three = grind arith

  filter-renamed : (d : Set) → IsPart d a → (order : List ℕ) → AllIn a order → filter (set.contains (renamed_set f d))
      (map f order) ≡ map f (filter (set.contains d) order)
  filter-renamed d part [] within = refl
  filter-renamed d part (y ∷ rest) within =
      ap₂ (λ b kept. cond b (f y ∷ kept) kept) (contains-renamed f a renaming d part y (within y (at_head y rest)))
      (filter-renamed d part rest (all_in_rest a y rest within))
      ∙ step (set.contains d y)
    where
      step : (b : Bool) → cond b (f y ∷ map f (filter (set.contains d) rest)) (map f (filter (set.contains d) rest))
          ≡ map f (cond b (y ∷ filter (set.contains d) rest) (filter (set.contains d) rest))
      step true = refl
      step false = refl

  -- an order that lists the set has its members alone
  all_in_order : (order : List ℕ) → IsListing a order → AllIn a order
  all_in_order order listing = member_listed f a renaming a order (lists_of a order listing)

  -- ---- profiles
  weight_where-renamed : (t u : List ℕ → Bool) → ((order : List ℕ) → AllIn a order → t (map f order) ≡ u order)
      → (p : List Entry) → IsProfileOn a p → weight_where t (renamed_lines f p) ≡ weight_where u p
  weight_where-renamed t u same [] on = refl
  weight_where-renamed t u same (line ∷ p) on =
      sum_by-cons (λ (line : Entry). cond (t line.order) line.weight 0) (renamed_line f line) (renamed_lines f p)
      ∙ ap₂ (λ b n. cond b line.weight 0 + n)
      (same line.order (all_in_order line.order (All-head (λ line. IsListing a line.order) line p on)))
      (weight_where-renamed t u same p (All-tail (λ line. IsListing a line.order) line p on))
      ∙ sym (sum_by-cons (λ (line : Entry). cond (u line.order) line.weight 0) line p)

  -- as many voters put first, or before another, what has a new name
  pub first_weight-renamed : (p : List Entry) → IsProfileOn a p → (x : ℕ) → set.contains a x ≡ true
      → first_weight (renamed_lines f p) (f x) ≡ first_weight p x
  first_weight-renamed p on x inside = weight_where-renamed (begins_with (f x)) (begins_with x)
      (begins_with-renamed x inside) p on

  pub pairwise_weight-renamed : (p : List Entry) → IsProfileOn a p → (x y : ℕ) → set.contains a x ≡ true
      → set.contains a y ≡ true → pairwise_weight (renamed_lines f p) (f x) (f y) ≡ pairwise_weight p x y
  pairwise_weight-renamed p on x y with_x with_y = weight_where-renamed (puts_before (f x) (f y)) (puts_before x y)
      (puts_before-renamed x y with_x with_y) p on

  -- restricted under the new names, it is what is restricted and then renamed
  pub restrict-renamed : (d : Set) → IsPart d a → (p : List Entry) → IsProfileOn a p → restrict (renamed_set f d)
      (renamed_lines f p) ≡ renamed_lines f (restrict d p)
  restrict-renamed d part [] on = refl
  restrict-renamed d part (line ∷ p) on =
      let here = filter-renamed d part line.order
      (all_in_order line.order (All-head (λ line. IsListing a line.order) line p on)) in
      let rest = restrict-renamed d part p (All-tail (λ line. IsListing a line.order) line p on) in
      λ i. record { weight = line.weight; order = here i } ∷ rest i
