-- A Condorcet winner's scores, and those of the others.
use Rattle.std.proofs.Common.{◌≡◌, ◌≢◌, ℕ, ◌+◌, ◌-◌, ◌<◌, ◌≤◌, min, Bool, true, false, cond, not, ◌&&◌, ◌||◌, List, []}
use Rattle.std.proofs.Common.{◌∷◌, nat_eq, nat_lt, refl, sym, ap, ◌∙◌, arith, eqb-true, pos, ◌-ℤ◌, ◌<ℤ◌}
use Rattle.std.proofs.lemmas.Bool.Decides.{nat_tests}
use Rattle.std.proofs.lemmas.Int.{ints}
use Rattle.std.specs.FinSet.{contains, items, empty, remove, retain, len}
use Rattle.std.specs.List.{list_all, list_any}
use Rattle.vir_altset.specs.Sets.{Set, IsPart}
use Rattle.vir_altset.specs.SetLaws.{contains-remove, contains-retain, contains-empty, same_members}
use Rattle.vir_altset.specs.Splits.{bit}
use Rattle.vir_altset.proofs.SizeLaws.{len-empty, len-remove, len_of_member, len-part}
use Rattle.vir_profile.specs.declared.ballot.Entry.{Entry}
use Rattle.vir_profile.specs.Profiles.{IsProfileOn, pairwise_weight}
use Rattle.vir_profile.specs.Winners.{IsCondorcetWinner}
use Rattle.vir_term.specs.declared.score.Score.TheVariants.{Copeland, Minimax, Condorcet}
use Rattle.vir_mean.specs.Listings.{others, least}
use Rattle.vir_mean.specs.Scores.{score, beats, beats_all}
use Rattle.vir_mean.proofs.MemberCounts.{often, in_items, at_head}
use Rattle.vir_mean.proofs.MemberListings.{others_list}
use Rattle.vir_mean.proofs.PairWeights.{pairwise_weight-both}

apart_eq : (x y : ℕ) → x ≢ y → nat_eq x y ≡ false
apart_eq x y apart = grind (arith, nat_tests)

eq_apart : (x y : ℕ) → nat_eq x y ≡ false → x ≢ y
eq_apart x y other = grind (arith, nat_tests)

eq_flip : (x y : ℕ) → nat_eq x y ≡ nat_eq y x
eq_flip x y = grind (arith, nat_tests)

less_than : (m n : ℕ) → m < n → nat_lt m n ≡ true
less_than m n less = grind (arith, nat_tests)

-- nobody beats itself, or one by which it is beaten
beats-self : (lines : List Entry) (x : ℕ) → beats lines x x ≡ false
beats-self lines x = grind (arith, nat_tests)

beats-turned : (lines : List Entry) (x y : ℕ) → beats lines x y ≡ true → beats lines y x ≡ false
beats-turned lines x y won = grind (arith, nat_tests)

-- ---- the least of numbers
pub least-le : (f : ℕ → ℕ) (list : List ℕ) (x : ℕ) → 0 < often x list → least f list ≤ f x
least-le f [] x some = absurd (omega arith)
least-le f (y ∷ []) x some = only (nat_eq x y) (λ e. ap f (eqb-true x y e)) some
  where
    only : (b : Bool) {m n : ℕ} → (b ≡ true → m ≡ n) → 0 < bit b + 0 → n ≤ m
    only b same some = grind (arith, same)
least-le f (y ∷ z ∷ rest) x some = step (nat_eq x y) (often x (z ∷ rest)) (least f (z ∷ rest))
    (λ e. ap f (eqb-true x y e)) (least-le f (z ∷ rest) x) some
  where
    step : (b : Bool) (t l : ℕ) {m n : ℕ} → (b ≡ true → m ≡ n) → (0 < t → l ≤ m) → 0 < bit b + t → min n l ≤ m
    step b t l same later some = grind (arith, same, later)

-- where the least is
pub record LeastAt (f : ℕ → ℕ) (list : List ℕ) : Type 0 where
  pub place : ℕ
  pub listed : 0 < often place list
  pub value : least f list ≡ f place

pub least-at : (f : ℕ → ℕ) (x : ℕ) (list : List ℕ) → LeastAt f (x ∷ list)
least-at f x [] = record { place = x; listed = at_head x []; value = refl }
least-at f x (y ∷ rest) = more (least-at f y rest)
  where
    small : (m n : ℕ) → nat_lt m n ≡ true → min m n ≡ m
    small m n less = grind (arith, nat_tests)

    large : (m n : ℕ) → nat_lt m n ≡ false → min m n ≡ n
    large m n less = grind (arith, nat_tests)

    more : LeastAt f (y ∷ rest) → LeastAt f (x ∷ y ∷ rest)
    more before = elim (nat_lt (f x) (least f (y ∷ rest))) as (λ b. nat_lt (f x) (least f (y ∷ rest)) ≡ b
        → LeastAt f (x ∷ y ∷ rest)) [
          | true ↦ λ e. record { place = x; listed = at_head x (y ∷ rest); value = small _ _ e }
          | false ↦ λ e. record {
            place = before.place;
            listed = (let some = before.listed in omega arith);
            value = large _ _ e ∙ before.value;
          }
        ] refl

-- the other members of a set
pub others_of : (x : ℕ) (a : Set) (y : ℕ) → contains a y ≡ true → nat_eq y x ≡ false → 0 < often y (others x a)
others_of x a y member other = step (nat_eq y x) (contains a y) (often y (others x a)) ((others_list a x).each y
    ∙ ap bit (contains-remove a x y)) member other
  where
    step : (b c : Bool) (n : ℕ) → n ≡ bit (not b && c) → c ≡ true → b ≡ false → 0 < n
    step b c n is member other = grind arith

pub member_of_others : (x : ℕ) (a : Set) (y : ℕ) → 0 < often y (others x a) → (contains a y ≡ true)
    × (nat_eq y x ≡ false)
member_of_others x a y some = step (nat_eq y x) (contains a y) (often y (others x a)) ((others_list a x).each y
    ∙ ap bit (contains-remove a x y)) some
  where
    step : (b c : Bool) (n : ℕ) → n ≡ bit (not b && c) → 0 < n → (c ≡ true) × (b ≡ false)
    step b c n is some = (grind arith, grind arith)

least_other : (f : ℕ → ℕ) (list : List ℕ) (y : ℕ) → 0 < often y list → LeastAt f list
least_other f [] y some = absurd (omega arith)
least_other f (x ∷ rest) y some = least-at f x rest

-- ---- tests of each member
all_pass : (test : ℕ → Bool) (list : List ℕ) → ((y : ℕ) → list_any (nat_eq y) list ≡ true → test y ≡ true)
    → list_all test list ≡ true
all_pass test [] each = refl
all_pass test (x ∷ rest) each =
    both _ _ (each x (first x (list_any (nat_eq x) rest))) (all_pass test rest (λ y later. each y (further _ _ later)))
  where
    first : (x : ℕ) (b : Bool) → (nat_eq x x || b) ≡ true
    first x b = grind (arith, nat_tests)

    further : (b c : Bool) → c ≡ true → (b || c) ≡ true
    further b c later = grind arith

    both : (b c : Bool) → b ≡ true → c ≡ true → (b && c) ≡ true
    both b c one other = grind arith

one_fails : (test : ℕ → Bool) (list : List ℕ) (x : ℕ) → list_any (nat_eq x) list ≡ true → test x ≡ false
    → list_all test list ≡ false
one_fails test [] x listed fails = cc listed
one_fails test (y ∷ rest) x listed fails = step (nat_eq x y) (list_any (nat_eq x) rest) (test y) (list_all test rest)
    listed (λ e. ap test (sym (eqb-true x y e)) ∙ fails) (λ later. one_fails test rest x later fails)
  where
    step : (e l t r : Bool) → (e || l) ≡ true → (e ≡ true → t ≡ false) → (l ≡ true → r ≡ false) → (t && r) ≡ false
    step e l t r listed here later = grind arith

-- ---- the winner of a set
module _ (a : Set) (lines : List Entry) (w : ℕ) (winner : IsCondorcetWinner w a lines) where
  pub winner_beats : (y : ℕ) → contains a y ≡ true → nat_eq y w ≡ false → beats lines w y ≡ true
  winner_beats y member other = less_than _ _ (winner.wins y member (eq_apart y w other))

  -- the winner beats all others, and nobody beats it
  winner_won : retain a (λ y. beats lines w y) ≡ remove a w
  winner_won = same_members _ _ (λ y.
      contains-retain a (λ y. beats lines w y) y
      ∙ step (contains a y) (beats lines w y) (nat_eq y w) (λ e. ap (beats lines w) (eqb-true y w e)
      ∙ beats-self lines w) (winner_beats y)
      ∙ sym (contains-remove a w y))
    where
      step : (m b e : Bool) → (e ≡ true → b ≡ false) → (m ≡ true → e ≡ false → b ≡ true) → (m && b) ≡ (not e && m)
      step m b e self others = grind arith

  winner_lost : retain a (λ y. beats lines y w) ≡ empty
  winner_lost = same_members _ _ (λ y.
      contains-retain a (λ y. beats lines y w) y
      ∙ step (contains a y) (beats lines y w) (nat_eq y w) (λ e. ap (λ z. beats lines z w) (eqb-true y w e)
      ∙ beats-self lines w) (λ member other. beats-turned lines w y (winner_beats y member other))
      ∙ sym (contains-empty y))
    where
      step : (m b e : Bool) → (e ≡ true → b ≡ false) → (m ≡ true → e ≡ false → b ≡ false) → (m && b) ≡ false
      step m b e self others = grind arith

  -- another beats none but others than itself
  won_part : (y : ℕ) → IsPart (retain a (λ z. beats lines y z)) (remove a y)
  won_part y z won =
      contains-remove a y z
      ∙ step (contains a z) (beats lines y z) (nat_eq z y) (λ e. ap (beats lines y) (eqb-true z y e)
      ∙ beats-self lines y) (sym (contains-retain a (λ z. beats lines y z) z) ∙ won)
    where
      step : (m b e : Bool) → (e ≡ true → b ≡ false) → (m && b) ≡ true → (not e && m) ≡ true
      step m b e self won = grind arith

  module _ (y : ℕ) (member : contains a y ≡ true) (apart : y ≢ w) where
    other : nat_eq y w ≡ false
    other = apart_eq y w apart

    pub copeland_leads : score Copeland a lines y <ℤ score Copeland a lines w
    copeland_leads =
        let all = ap len winner_won ∙ len-remove a w ∙ ap (λ b. cond b (len a - 1) (len a)) winner.member in
        let most = len-part _ _ (won_part y) in
        let room = len-remove a y ∙ ap (λ b. cond b (len a - 1) (len a)) member in
        let none = ap len winner_lost ∙ len-empty in
        let some = len_of_member (retain a (λ z. beats lines z y)) w (contains-retain a (λ z. beats lines z y) w
        ∙ both _ _ winner.member (winner_beats y member other)) in
        step _ _ _ _ _ all (omega arith) none some
      where
        both : (b c : Bool) → b ≡ true → c ≡ true → (b && c) ≡ true
        both b c first second = grind arith

        step : (ahead behind won lost n : ℕ) → ahead ≡ n → won ≤ n → behind ≡ 0 → 1 ≤ lost → (pos won -ℤ pos lost) <ℤ
            (pos ahead -ℤ pos behind)
        step ahead behind won lost n all most none some = omega (arith, ints)

    pub minimax_leads : IsProfileOn a lines → score Minimax a lines y <ℤ score Minimax a lines w
    minimax_leads on =
        let least_of_winner = least_other (pairwise_weight lines w) (others w a) y (others_of w a y member other) in
        let z = least_of_winner.place in
        let there = member_of_others w a z least_of_winner.listed in
        let won = winner.wins z there.0 (eq_apart z w there.1) in
        let whole = pairwise_weight-both a w z (eq_flip w z ∙ there.1) winner.member lines on in
        let under = least-le (pairwise_weight lines y) (others y a) w
        (others_of y a w winner.member (eq_flip w y ∙ other)) in
        let lost = winner.wins y member apart in
        let whole_too = pairwise_weight-both a w y (eq_flip w y ∙ other) winner.member lines on in
        let value = least_of_winner.value in
        step (omega arith)
      where
        step : {m n : ℕ} → m < n → pos m <ℤ pos n
        step less = omega (arith, ints)

    pub condorcet_leads : score Condorcet a lines y <ℤ score Condorcet a lines w
    condorcet_leads = step (beats_all y a lines) (beats_all w a lines)
        (one_fails _ (items a) w (sym (in_items a w) ∙ winner.member) (neither _ _ (eq_flip w y ∙ other)
        (beats-turned lines w y (winner_beats y member other))))
        (all_pass _ (items a) (λ z listed. either _ _ (winner_beats z (in_items a z ∙ listed))))
      where
        neither : (b c : Bool) → b ≡ false → c ≡ false → (b || c) ≡ false
        neither b c first second = grind arith

        either : (b c : Bool) → (b ≡ false → c ≡ true) → (b || c) ≡ true
        either b c else_won = grind arith

        step : (b c : Bool) → b ≡ false → c ≡ true → pos (bit b) <ℤ pos (bit c)
        step b c fails leads = grind (arith, ints)
