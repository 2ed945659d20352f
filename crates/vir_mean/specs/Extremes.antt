-- The greatest and the least of f over a list, and what a score is compared with: how the code finds who is
-- eliminated. Only clauses of private functions cite this; what a module means doesn't rest on it.
-- (The program's promises don't stand on this file.)
use Rattle.std.specs.Prelude.{ℕ, min, Bool, List, [], ◌∷◌, Option, Some, None, ℤ, int_lt, int_le, ◌*ℤ◌, if◌then◌else◌}
use Rattle.vir_mean.specs.declared.elimination.Elimination.{Elimination}
use Rattle.vir_mean.specs.declared.elimination.Elimination.TheVariants.{Max, Min, Below, Upto}

-- what a list comes to, where each member changes what the rest comes to
abbrev pub fold : {B : Type 0} → (ℕ → B → B) → B → List ℕ → B
fold change start [] = start
fold change start (x ∷ rest) = change x (fold change start rest)

-- the least so far, with one number more
abbrev pub lowered : Option ℕ → ℕ → Option ℕ
lowered None number = Some number
lowered (Some before) number = Some (min number before)

-- the greatest so far, with one score more
abbrev pub raised : Option ℤ → ℤ → Option ℤ
raised None score = Some score
raised (Some before) score = Some (if int_lt before score then score else before)

-- the least so far, with one score more
abbrev pub sunk : Option ℤ → ℤ → Option ℤ
sunk None score = Some score
sunk (Some before) score = Some (if int_lt score before then score else before)

-- the greatest of f over a list
abbrev pub greatest : (ℕ → ℤ) → List ℕ → Option ℤ
greatest f = fold (λ x rest. raised rest (f x)) None

-- the least of f over a list
abbrev pub smallest : (ℕ → ℤ) → List ℕ → Option ℤ
smallest f = fold (λ x rest. sunk rest (f x)) None

-- whether a score goes, by what it is compared with and the number of members
abbrev pub goes_by : Elimination → ℤ → ℤ → ℤ → Bool
goes_by Max score bound size = int_lt score bound
goes_by Min score bound size = int_le score bound
goes_by Below score bound size = int_lt (score *ℤ size) bound
goes_by Upto score bound size = int_le (score *ℤ size) bound
