-- What is left of a list from an index on.
use Rattle.std.proofs.Common.{◌≡◌, ℕ, zero, suc, ◌+◌, List, [], ◌∷◌, drop, slice_get, Some, None, refl, add-one}

-- where the list has an element at the index, that one is the first
pub drop_here : {A : Type 0} (xs : List A) (i : ℕ) (x : A) → slice_get xs i ≡ Some x → drop i xs ≡ x ∷ drop (i + 1) xs
drop_here [] i x h = cc
drop_here (y ∷ ys) zero x h = cc
drop_here (y ∷ ys) (suc i) x h = rw (add-one (suc i)) (rw add-one at (drop_here ys i x h))

-- where it has none, nothing is left
pub drop_gone : {A : Type 0} (xs : List A) (i : ℕ) → slice_get xs i ≡ None → drop i xs ≡ []
drop_gone [] zero h = refl
drop_gone [] (suc i) h = refl
drop_gone (y ∷ ys) zero h = cc
drop_gone (y ∷ ys) (suc i) h = drop_gone ys i h
