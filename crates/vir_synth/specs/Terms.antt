-- The terms of each size that are composed of some modules, in order.
use Rattle.std.specs.Prelude.{ℕ, zero, suc, ◌-◌, List, [], ◌∷◌, ◌++◌, map, nat_eq, if◌then◌else◌}
use Rattle.vir_term.specs.declared.leaf.Leaf.{Leaf}
use Rattle.vir_term.specs.Tree.{Tree, leaf, rev, seq, par, loop, exactly}

-- each of the first terms composed with each of the second ones
abbrev pub joins : (Tree → Tree → Tree) → List Tree → List Tree → List Tree
joins op [] seconds = []
joins op (first ∷ firsts) seconds = map (op first) seconds ++ joins op firsts seconds

-- The compositions of a first and a second term, by the size of the first one, which begins with `left`, where that of
-- the second one is `right` then. `at` has the terms of each size.
unfoldable pub splits : (Tree → Tree → Tree) → (ℕ → List Tree) → ℕ → ℕ → List Tree
splits op at left zero = []
splits op at left (suc right) = joins op (at left) (at (suc right)) ++ splits op at (suc left) right

-- the compositions that have one module or composition more than n: revisions, loops, sequences, parallel compositions
abbrev pub compositions : (ℕ → List Tree) → ℕ → List Tree
compositions at n = map rev (at n) ++ map (loop (exactly 1)) (at n) ++ splits seq at 1 (n - 1)
    ++ splits par at 1 (n - 1)

-- the terms of one size more than n, where `at` has those of the sizes up to n
abbrev pub next_terms : List Leaf → (ℕ → List Tree) → ℕ → List Tree
next_terms leaves at zero = map leaf leaves
next_terms leaves at (suc n) = compositions at (suc n)

-- the terms of each size up to n
unfoldable pub terms_within : List Leaf → ℕ → ℕ → List Tree
terms_within leaves zero size = []
terms_within leaves (suc n) size = if nat_eq size (suc n) then next_terms leaves (terms_within leaves n) n
    else terms_within leaves n size

-- the terms of a size
unfoldable pub terms : List Leaf → ℕ → List Tree
terms leaves size = terms_within leaves size size

-- the terms of the sizes from 1 to n, the smallest first
unfoldable pub terms_up_to : List Leaf → ℕ → List Tree
terms_up_to leaves zero = []
terms_up_to leaves (suc n) = terms_up_to leaves n ++ terms leaves (suc n)
