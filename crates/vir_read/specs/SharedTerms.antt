-- A term of which parts are shared, as a tree.
-- (The program's promises don't stand on this file.)
use Rattle.vir_term.specs.Tree.{Tree, leaf, rev, seq, par, loop, exactly, at_most, tree as tree_of_term}
use Rattle.vir_read.specs.declared.shared_term.SharedTerm.{SharedTerm}
use Rattle.vir_read.specs.declared.shared_term.SharedTerm.TheVariants.{Whole, Leaf, Rev', Seq', Par', Loop', Until'}

-- the tree of a term: what it is, without a word on who shares its parts
abbrev pub tree : SharedTerm → Tree
tree (Whole term) = tree_of_term term
tree (Leaf l) = leaf l.value
tree (Rev' place part) = rev (tree part)
tree (Seq' place first place' second) = seq (tree first) (tree second)
tree (Par' place first place' second) = par (tree first) (tree second)
tree (Loop' k place body) = loop (exactly k) (tree body)
tree (Until' k place body) = loop (at_most k) (tree body)
