-- Whether some element passes a test, and where the first one does.
use Rattle.std.proofs.Common.{◌≡◌, ℕ, zero, suc, ◌+◌, ◌<◌, Bool, true, false, not, ◌||◌, cond, List, [], ◌∷◌, length}
use Rattle.std.proofs.Common.{take, drop, get_or, refl, arith}
use Rattle.std.specs.Prelude.{All}
use Rattle.std.proofs.lemmas.List.Elements.{All-nil, All-cons}
use Rattle.std.specs.List.{list_any, position_or_len, before_first}

pub or_false : (a b : Bool) → (a || b) ≡ false → (a ≡ false) × (b ≡ false)
or_false true b h = absurd cc
or_false false b h = (refl, h)

module _ {X : Type 0} (p : X → Bool) where
  -- where none passes, none does in a part
  pub list_any-take : (n : ℕ) (xs : List X) → list_any p xs ≡ false → list_any p (take n xs) ≡ false
  list_any-take zero xs h = refl
  list_any-take (suc n) [] h = refl
  list_any-take (suc n) (x ∷ xs) h = let w = or_false (p x) (list_any p xs) h in rw (w.0, list_any-take n xs w.1) refl

  pub list_any-drop : (n : ℕ) (xs : List X) → list_any p xs ≡ false → list_any p (drop n xs) ≡ false
  list_any-drop zero xs h = h
  list_any-drop (suc n) [] h = refl
  list_any-drop (suc n) (x ∷ xs) h = list_any-drop n xs (or_false (p x) (list_any p xs) h).1

  -- some element passes where the first one that does stands inside
  pub list_any-inside : (xs : List X) → position_or_len p xs < length xs → list_any p xs ≡ true
  list_any-inside [] h = absurd (omega arith)
  list_any-inside (x ∷ xs) h =
      elim (p x) as (λ b. cond (not b) (1 + position_or_len p xs) 0 < suc (length xs) → (b || list_any p xs) ≡ true) [
        | true ↦ λ l. refl
        | false ↦ λ l. list_any-inside xs (omega arith)
      ] h

  pub list_any-none : (xs : List X) → position_or_len p xs ≡ length xs → list_any p xs ≡ false
  list_any-none [] h = refl
  list_any-none (x ∷ xs) h =
      elim (p x) as (λ b. cond (not b) (1 + position_or_len p xs) 0 ≡ suc (length xs) → (b || list_any p xs) ≡ false) [
        | true ↦ λ e. absurd (omega arith)
        | false ↦ λ e. list_any-none xs (omega arith)
      ] h

  -- none passes where each fails
  pub list_any-fails : (xs : List X) (d : X) → ((k : ℕ) → k < length xs → p (get_or xs k d) ≡ false)
      → list_any p xs ≡ false
  list_any-fails [] d h = refl
  list_any-fails (x ∷ xs) d h =
      rw (h 0 (omega arith), list_any-fails xs d (λ k l. h (suc k) (omega arith))) refl

  pub All-none : (xs : List X) → list_any p xs ≡ false → All (λ x. p x ≡ false) xs
  All-none [] h = All-nil (λ x. p x ≡ false)
  All-none (x ∷ xs) h = let w = or_false (p x) (list_any p xs) h in All-cons (λ x. p x ≡ false) x xs w.0
      (All-none xs w.1)

  -- and where it stands then
  pub position-inside : (xs : List X) → list_any p xs ≡ true → position_or_len p xs < length xs
  position-inside [] h = absurd cc
  position-inside (x ∷ xs) h =
      elim (p x) as (λ b. (b || list_any p xs) ≡ true → cond (not b) (1 + position_or_len p xs) 0 < suc (length xs)) [
        | true ↦ λ t. omega arith
        | false ↦ λ t. omega (arith, position-inside xs t)
      ] h

  pub position-none : (xs : List X) → list_any p xs ≡ false → position_or_len p xs ≡ length xs
  position-none [] h = refl
  position-none (x ∷ xs) h =
      elim (p x) as (λ b. (b || list_any p xs) ≡ false → cond (not b) (1 + position_or_len p xs) 0 ≡ suc (length xs)) [
        | true ↦ λ t. absurd cc
        | false ↦ λ t. omega (arith, position-none xs t)
      ] h

  here : (b : Bool) (x : X) (xs : List X) → p x ≡ b → list_any p (before_first p xs) ≡ false
      → list_any p (take (cond (not b) (1 + position_or_len p xs) 0) (x ∷ xs)) ≡ false
  here true x xs e h = refl
  here false x xs e h =
      let s : 1 + position_or_len p xs ≡ suc (position_or_len p xs) = omega arith in
      rw (s, e) h

  -- no element passes before the first one that does
  pub list_any-before_first : (xs : List X) → list_any p (before_first p xs) ≡ false
  list_any-before_first [] = refl
  list_any-before_first (x ∷ xs) = here (p x) x xs refl (list_any-before_first xs)
