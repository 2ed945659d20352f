-- Terms whose numbers are within the limits.
use Rattle.vir_term.specs.declared.leaf.Leaf.{Leaf}
use Rattle.vir_term.specs.declared.leaf.Leaf.TheVariants as leaf
use Rattle.vir_term.specs.Limits.{IsLeafInRange, IsInRange}
use Rattle.vir_term.specs.Tree.{Tree, leaf as module_of, rev, seq, par, loop}
use Rattle.vir_sound.specs.Truth.{IsProperLeaf, IsProper}

proper_leaf_in_range : (l : Leaf) → IsLeafInRange l → IsProperLeaf l
proper_leaf_in_range (leaf.PassFirst k order) fine = fine.0.some
proper_leaf_in_range (leaf.DropFirst k order) fine = fine.0.some
proper_leaf_in_range _ fine = tt

-- a term whose numbers are in range names none below 1
pub proper_in_range : (t : Tree) → IsInRange t → IsProper t
proper_in_range (module_of l) fine = proper_leaf_in_range l fine
proper_in_range (rev part) fine = proper_in_range part fine
proper_in_range (seq first second) fine = (proper_in_range first fine.0, proper_in_range second fine.1)
proper_in_range (par first second) fine = (proper_in_range first fine.0, proper_in_range second fine.1)
proper_in_range (loop k body) fine = (fine.0.some, proper_in_range body fine.1)
