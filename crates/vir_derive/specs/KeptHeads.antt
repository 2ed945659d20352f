-- The heads that signatures keep.
-- (The program's promises don't stand on this file.)
use Rattle.std.specs.Prelude.{Option, option_map, if◌then◌else◌}
use Rattle.vir_term.specs.declared.leaf.Leaf.{Leaf}
use Rattle.vir_term.specs.declared.leaf.Leaf.TheVariants.{PassFirst, DropFirst}
use Rattle.vir_derive.specs.declared.kept_head.Head.{Head}

-- the module that a head is
abbrev pub module_of : Head → Leaf
module_of h = if h.passes then PassFirst h.k h.order.items else DropFirst h.k h.order.items

-- the head that is kept, where there is one
abbrev pub head_seen : Option Head → Option Leaf
head_seen h = option_map module_of h
