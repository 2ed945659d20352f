-- The kinds of modules.
use Rattle.vir_term.specs.declared.leaf.Leaf.{Leaf}
use Rattle.vir_term.specs.declared.leaf.Leaf.TheVariants as leaf
use Rattle.vir_term.specs.declared.leaf.LeafKind.{LeafKind}
use Rattle.vir_term.specs.declared.leaf.LeafKind.TheVariants as kind

-- a module without its number and its fixed order
abbrev pub kind_of : Leaf → LeafKind
kind_of leaf.Elect = kind.Elect
kind_of leaf.Defer = kind.Defer
kind_of (leaf.PassFirst k order) = kind.PassFirst
kind_of (leaf.DropFirst k order) = kind.DropFirst
kind_of leaf.Plurality = kind.Plurality
kind_of (leaf.Max s) = kind.Max s
kind_of (leaf.Min s) = kind.Min s
kind_of (leaf.Below s) = kind.Below s
kind_of (leaf.Upto s) = kind.Upto s
