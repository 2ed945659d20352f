-- Members found so far.
use Rattle.std.proofs.Common.{◌≡◌, ℕ, ◌+◌, ◌<◌, ◌≤◌, Bool, true, false, ◌&&◌, ◌||◌, List, [], ◌∷◌, length, get_or, drop}
use Rattle.std.proofs.Common.{nat_eq, refl, sym, ap, ◌∙◌, arith, eqb-true, ℤ}
use Rattle.std.proofs.lemmas.List.{drop_all}
use Rattle.std.specs.FinSet.{contains, empty, insert, retain}
use Rattle.std.specs.List.{list_any}
use Rattle.vir_altset.specs.Sets.{Set}
use Rattle.vir_altset.specs.SetLaws.{contains-empty, contains-insert, contains-retain, same_members}
use Rattle.vir_mean.specs.declared.elimination.Elimination.{Elimination}
use Rattle.vir_altset.specs.Splits.{bit}
use Rattle.vir_mean.proofs.MemberCounts.{often, Lists}
use Rattle.vir_mean.specs.Extremes.{goes_by}
use Rattle.vir_mean.proofs.PairScores.{here}

-- what is found, and what of the rest is still to be found, is all that is to be found
abbrev pub Found : (ℕ → Bool) → List ℕ → Set → ℕ → Type 0
Found t list found i = (y : ℕ) → (contains found y || (list_any (nat_eq y) (drop i list) && t y))
    ≡ (list_any (nat_eq y) list && t y)

-- at the start nothing is found
pub found_none : (t : ℕ → Bool) (list : List ℕ) {found : Set} → found ≡ empty → Found t list found 0
found_none t list is y = ap (λ s. contains s y || (list_any (nat_eq y) list && t y)) is
    ∙ ap (λ b. b || (list_any (nat_eq y) list && t y)) (contains-empty y)

-- one more is found
pub found_more : (t : ℕ → Bool) (list : List ℕ) (found : Set) (i : ℕ) → i < length list → t (get_or list i 0) ≡ true
    → Found t list found i → Found t list (insert found (get_or list i 0)) (i + 1)
found_more t list found i within told all y =
    ap (λ b. b || (list_any (nat_eq y) (drop (i + 1) list) && t y)) (contains-insert found (get_or list i 0) y)
    ∙ step (nat_eq y (get_or list i 0)) (contains found y) (list_any (nat_eq y) (drop (i + 1) list)) (t y)
    (λ e. ap t (eqb-true _ _ e) ∙ told)
    ∙ ap (λ l. contains found y || (list_any (nat_eq y) l && t y)) (sym (here list i within)) ∙ all y
  where
    step : (e f r p : Bool) → (e ≡ true → p ≡ true) → ((e || f) || (r && p)) ≡ (f || ((e || r) && p))
    step e f r p h = grind arith

-- one more is passed over
pub found_same : (t : ℕ → Bool) (list : List ℕ) (found : Set) (i : ℕ) → i < length list → t (get_or list i 0) ≡ false
    → Found t list found i → Found t list found (i + 1)
found_same t list found i within stays all y =
    step (nat_eq y (get_or list i 0)) (contains found y) (list_any (nat_eq y) (drop (i + 1) list)) (t y)
    (λ e. ap t (eqb-true _ _ e) ∙ stays)
    ∙ ap (λ l. contains found y || (list_any (nat_eq y) l && t y)) (sym (here list i within)) ∙ all y
  where
    step : (e f r p : Bool) → (e ≡ true → p ≡ false) → (f || (r && p)) ≡ (f || ((e || r) && p))
    step e f r p h = grind arith

any_often : (y : ℕ) (list : List ℕ) → bit (list_any (nat_eq y) list) ≤ often y list
any_often y [] = omega arith
any_often y (z ∷ list) = step (nat_eq y z) (list_any (nat_eq y) list) (often y list) (any_often y list)
  where
    step : (a b : Bool) (n : ℕ) → bit b ≤ n → bit (a || b) ≤ bit a + n
    step a b n h = grind arith

often_any : (y : ℕ) (list : List ℕ) → list_any (nat_eq y) list ≡ false → often y list ≡ 0
often_any y [] h = refl
often_any y (z ∷ list) h = step (nat_eq y z) (list_any (nat_eq y) list) (often y list) h (often_any y list)
  where
    step : (a b : Bool) (n : ℕ) → (a || b) ≡ false → (b ≡ false → n ≡ 0) → bit a + n ≡ 0
    step a b n h k = grind arith

-- what a listing has is what its set has
pub listed_any : (a : Set) (list : List ℕ) → Lists a list → (y : ℕ) → list_any (nat_eq y) list ≡ contains a y
listed_any a list lists y = step (list_any (nat_eq y) list) (contains a y) (often y list) (any_often y list)
    (often_any y list) (lists.each y)
  where
    step : (b c : Bool) (n : ℕ) → bit b ≤ n → (b ≡ false → n ≡ 0) → n ≡ bit c → b ≡ c
    step b c n h k e = grind arith

-- at the end all is found
pub found_all : (t : ℕ → Bool) (a : Set) (list : List ℕ) (found : Set) (i : ℕ) → Lists a list → length list ≤ i
    → Found t list found i → found ≡ retain a t
found_all t a list found i lists end all = same_members found (retain a t) (λ y.
    nothing (contains found y) (t y) ∙ ap (λ l. contains found y || (list_any (nat_eq y) l && t y))
    (sym (drop_all i list end)) ∙ all y
    ∙ ap (λ b. b && t y) (listed_any a list lists y) ∙ sym (contains-retain a t y))
  where
    nothing : (b c : Bool) → b ≡ (b || (false && c))
    nothing b c = grind arith

-- the same numbers tell the same
pub goes_at : (kind : Elimination) (v b n v' b' n' : ℤ) → v ≡ v' → b ≡ b' → n ≡ n' → goes_by kind v b n
    ≡ goes_by kind v' b' n'
goes_at kind v b n v' b' n' p q r = λ i. goes_by kind (p i) (q i) (r i)
