-- The members of a set in ascending order, one after another.
use Rattle.std.proofs.Common.{◌≡◌, ℕ, zero, suc, ◌+◌, ◌-◌, ◌<◌, ◌≤◌, false, cond, ◌∷◌, [], ◌++◌, refl}
use Rattle.std.proofs.Common.{ap, ◌∙◌, arith}
use Rattle.std.specs.FinSet as set
use Rattle.vir_altset.specs.Sets.{Set, IsLast, IsNext}
use Rattle.vir_altset.specs.Members.{members_up_to}

members_up_to-suc : (n : ℕ) (a : Set) → members_up_to (suc n) a ≡ cond (set.contains a (suc n)) (members_up_to n a
    ++ suc n ∷ []) (members_up_to n a)
unfolding members_up_to
members_up_to-suc n a = refl

-- where k numbers above x are no members, nothing is added
members_up_to-gap : (a : Set) (x k n : ℕ) → n ≡ x + k → ((y : ℕ) → x < y → y ≤ n → set.contains a y ≡ false)
    → members_up_to n a ≡ members_up_to x a
members_up_to-gap a x zero n is none = ap (λ j. members_up_to j a) (omega arith)
members_up_to-gap a x (suc k) n is none =
    let here : n ≡ suc (x + k) = omega arith in
    ap (λ j. members_up_to j a) here
    ∙ members_up_to-suc (x + k) a
    ∙ ap (λ b. cond b (members_up_to (x + k) a ++ suc (x + k) ∷ []) (members_up_to (x + k) a))
    (none (suc (x + k)) (omega arith) (omega arith))
    ∙ members_up_to-gap a x k (x + k) refl (λ y above within. none y above (omega arith))

-- up to the next member there is one more
pub members_up_to-next : (a : Set) (x y : ℕ) → IsNext a x y → members_up_to y a ≡ members_up_to x a ++ y ∷ []
members_up_to-next a x zero next = absurd (let above = next.above in omega arith)
members_up_to-next a x (suc y) next =
    members_up_to-suc y a
    ∙ ap (λ b. cond b (members_up_to y a ++ suc y ∷ []) (members_up_to y a)) next.member
    ∙ ap (λ xs. xs ++ suc y ∷ []) (members_up_to-gap a x (y - x) y (let above = next.above in omega arith)
    (λ z above within. next.least z above (omega arith)))

-- from the last member on there are no more
pub members_up_to-last : (a : Set) (x n : ℕ) → IsLast a x → x ≤ n → members_up_to n a ≡ members_up_to x a
members_up_to-last a x n last within = members_up_to-gap a x (n - x) n (omega arith) (λ y above _. last y above)
