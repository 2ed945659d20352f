-- What a call does that appends to a text.
-- (The program's promises don't stand on this file.)
use Rattle.std.specs.Prelude.{◌≡◌, ℕ, List, ◌++◌, Result, MatchResult}

-- A text begins with another one: something was appended to it, or nothing.
pub record Begins (before after : List ℕ) : Type 0 where
  pub more : List ℕ
  pub is : after ≡ before ++ more

-- Where the call ends well, just this was appended. Where memory ran out, what stood there is the beginning still.
abbrev pub Appends : {T E : Type 0} → Result T E → List ℕ → List ℕ → List ℕ → Type 0
Appends result before after added = MatchResult result (λ done. after ≡ before ++ added) (λ error. Begins before after)
