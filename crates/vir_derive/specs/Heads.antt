-- Heads of terms: by them alone two terms are derivably disjoint or not.
-- (The program's promises don't stand on this file.)
use Rattle.std.specs.Prelude.{Bool, false, ◌&&◌, nat_eq, Option, Some, None}
use Rattle.std.specs.Cmp.Lexicographic.{pointwise}
use Rattle.vir_term.specs.declared.leaf.Leaf.{Leaf}
use Rattle.vir_term.specs.declared.leaf.Leaf.TheVariants.{PassFirst, DropFirst}
use Rattle.vir_term.specs.Tree.{Tree, leaf, rev, seq, par, loop}

-- a module's head: itself, where it is a `pass` or a `drop`
abbrev pub leaf_head : Leaf → Option Leaf
leaf_head (PassFirst k order) = Some (PassFirst k order)
leaf_head (DropFirst k order) = Some (DropFirst k order)
leaf_head _ = None

-- a term's head: the `pass` or `drop` that is reached in the first part of each sequence and the body of each revision
abbrev pub head : Tree → Option Leaf
head (leaf l) = leaf_head l
head (rev part) = head part
head (seq first second) = head first
head (par first second) = None
head (loop k body) = None

-- whether one is a `pass` and the other a `drop`, of one number and one fixed order
abbrev pub opposed : Option Leaf → Option Leaf → Bool
opposed (Some (PassFirst k order)) (Some (DropFirst j other)) = nat_eq k j && pointwise nat_eq order other
opposed (Some (DropFirst k order)) (Some (PassFirst j other)) = nat_eq k j && pointwise nat_eq order other
opposed _ _ = false

-- whether the heads of two terms are opposed
abbrev pub are_opposed : Tree → Tree → Bool
are_opposed left right = opposed (head left) (head right)
