-- A term as a tree, and its measures.
use Rattle.std.specs.Prelude.{ℕ, ◌+◌, max}
use Rattle.vir_term.specs.declared.leaf.Leaf.{Leaf}
use Rattle.vir_term.specs.declared.term.Term.{Term}
use Rattle.vir_term.specs.declared.term.Term.TheVariants.{Leaf as OfLeaf, Rev', Seq', Par', Loop', Until'}

-- where a loop ends: at just so many alternatives, or at so many or fewer
pub data End : Type 0 where
  exactly : ℕ → End
  at_most : ℕ → End

-- the number that is named
abbrev pub number_of : End → ℕ
number_of (exactly k) = k
number_of (at_most k) = k

-- what a term is composed of
pub data Tree : Type 0 where
  leaf : Leaf → Tree
  rev : Tree → Tree
  seq : Tree → Tree → Tree
  par : Tree → Tree → Tree
  loop : End → Tree → Tree

-- the tree of a term: what it is, without the places of its boxes
abbrev pub tree : Term → Tree
tree (OfLeaf l) = leaf l
tree (Rev' place part) = rev (tree part)
tree (Seq' place first place' second) = seq (tree first) (tree second)
tree (Par' place first place' second) = par (tree first) (tree second)
tree (Loop' k place body) = loop (exactly k) (tree body)
tree (Until' k place body) = loop (at_most k) (tree body)

-- the number of modules and compositions
abbrev pub size : Tree → ℕ
size (leaf l) = 1
size (rev part) = 1 + size part
size (seq first second) = 1 + size first + size second
size (par first second) = 1 + size first + size second
size (loop k body) = 1 + size body

-- 1 for a module, and for a composition 1 more than its deepest part
abbrev pub nesting : Tree → ℕ
nesting (leaf l) = 1
nesting (rev part) = 1 + nesting part
nesting (seq first second) = 1 + max (nesting first) (nesting second)
nesting (par first second) = 1 + max (nesting first) (nesting second)
nesting (loop k body) = 1 + nesting body
