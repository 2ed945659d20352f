-- Two profiles that differ only in where one alternative stands.
use Rattle.std.specs.Prelude.{◌≡◌, ℕ, ◌≤◌, not, nat_eq, List, [], ◌∷◌, filter}
use Rattle.vir_profile.specs.declared.ballot.Entry.{Entry}
use Rattle.vir_mean.specs.FixedOrders.{place}

-- the order without a
abbrev pub without : ℕ → List ℕ → List ℕ
without a order = filter (λ x. not (nat_eq a x)) order

-- The lines are as many, and each is so related to the one in its place.
abbrev pub LineByLine : (Entry → Entry → Type 0) → List Entry → List Entry → Type 0
LineByLine Related [] [] = Unit {0}
LineByLine Related (before ∷ p) (after ∷ q) = Related before after × LineByLine Related p q
LineByLine Related [] (after ∷ q) = ⊥
LineByLine Related (before ∷ p) [] = ⊥

-- The weights are equal, and the orders without a.
pub record AgreesBut (a : ℕ) (before after : Entry) : Type 0 where
  pub weight : before.weight ≡ after.weight
  pub others : without a before.order ≡ without a after.order

-- And a stands where it stood, or nearer the front.
pub record Raises (a : ℕ) (before after : Entry) : Type 0 where
  pub agrees : AgreesBut a before after
  pub nearer : place a after.order ≤ place a before.order

-- The profiles are the same but for a.
abbrev pub SameBut : ℕ → List Entry → List Entry → Type 0
SameBut a p q = LineByLine (AgreesBut a) p q

-- The second profile lifts a against the first. The unchanged profile does too.
abbrev pub Lifts : ℕ → List Entry → List Entry → Type 0
Lifts a p q = LineByLine (Raises a) p q
