-- How large a term may be, and which numbers it may name.
use Rattle.std.specs.Prelude.{ℕ, ◌≤◌, ◌≡◌, List, None, ⊤}
use Rattle.vir_term.specs.declared.leaf.Leaf.{Leaf}
use Rattle.vir_term.specs.declared.leaf.Leaf.TheVariants.{PassFirst, DropFirst}
use Rattle.vir_term.specs.Orders.{order_fault}
use Rattle.vir_term.specs.Tree.{Tree, leaf, rev, seq, par, loop, number_of, size, nesting}

-- the greatest size
abbrev pub size_limit : ℕ
size_limit = 200

-- the greatest nesting
abbrev pub nesting_limit : ℕ
nesting_limit = 64

-- the greatest number of alternatives that a module or a loop may name
abbrev pub count_limit : ℕ
count_limit = 1000000

-- a number of alternatives that a module or a loop may name
pub record IsCount (k : ℕ) : Type 0 where
  pub some : 1 ≤ k
  pub few : k ≤ count_limit

-- a module of a number and of a fixed order that it may name
abbrev pub IsOfFirst : ℕ → List ℕ → Type 0
IsOfFirst k order = IsCount k × (order_fault order ≡ None)

-- a module whose number and fixed order, if it has them, are such
abbrev pub IsLeafInRange : Leaf → Type 0
IsLeafInRange (PassFirst k order) = IsOfFirst k order
IsLeafInRange (DropFirst k order) = IsOfFirst k order
IsLeafInRange _ = ⊤

-- a term whose numbers and fixed orders are such
abbrev pub IsInRange : Tree → Type 0
IsInRange (leaf l) = IsLeafInRange l
IsInRange (rev part) = IsInRange part
IsInRange (seq first second) = IsInRange first × IsInRange second
IsInRange (par first second) = IsInRange first × IsInRange second
IsInRange (loop k body) = IsCount (number_of k) × IsInRange body

-- a term of at most this size and nesting, with numbers and orders in range
pub record IsWithinLimits (t : Tree) : Type 0 where
  pub small : size t ≤ size_limit
  pub flat : nesting t ≤ nesting_limit
  pub in_range : IsInRange t
