-- The outermost form of a term, and which shapes it is of.
use Rattle.std.specs.Prelude.{ℕ, Bool, true, false, nat_eq}
use Rattle.vir_term.specs.declared.leaf.Leaf.{Leaf}
use Rattle.vir_term.specs.declared.leaf.Leaf.TheVariants.{PassFirst, DropFirst}
use Rattle.vir_term.specs.Kinds.{kind_of}
use Rattle.vir_term.specs.Tree.{Tree, End, exactly, at_most}
use Rattle.vir_term.specs.Tree as tree
use Rattle.vir_rules.specs.declared.form.Form.{Form as Borrowed}
use Rattle.vir_rules.specs.declared.form.Form.TheVariants as borrowed
use Rattle.vir_rules.specs.declared.row.Shape.{Shape}
use Rattle.vir_rules.specs.declared.row.Shape.TheVariants.{Any, ModuleOf, PassK, DropK, Rev, Seq, Par, Loop, LoopK}
use Rattle.vir_rules.specs.declared.row.Shape.TheVariants.{LoopOne, Until, UntilK, UntilOne}
use Rattle.vir_rules.specs.Families.{is_of}

-- a term without its parts
pub data Form : Type 0 where
  leaf : Leaf → Form
  rev : Form
  seq : Form
  par : Form
  loop : End → Form

-- the outermost form of a term
abbrev pub form_of : Tree → Form
form_of (tree.leaf l) = leaf l
form_of (tree.rev part) = rev
form_of (tree.seq first second) = seq
form_of (tree.par first second) = par
form_of (tree.loop k body) = loop k

-- the first part of a term; a module is its own
abbrev pub first_part : Tree → Tree
first_part (tree.leaf l) = tree.leaf l
first_part (tree.rev part) = part
first_part (tree.seq first second) = first
first_part (tree.par first second) = first
first_part (tree.loop k body) = body

-- the second part of a term; where there is one part, that one
abbrev pub second_part : Tree → Tree
second_part (tree.leaf l) = tree.leaf l
second_part (tree.rev part) = part
second_part (tree.seq first second) = second
second_part (tree.par first second) = second
second_part (tree.loop k body) = body

-- whether a form is of a shape, where k is the number that the shape speaks of
abbrev pub is_shaped : Shape → ℕ → Form → Bool
is_shaped Any k form = true
is_shaped (ModuleOf family) k (leaf l) = is_of family (kind_of l)
is_shaped PassK k (leaf (PassFirst j order)) = nat_eq j k
is_shaped DropK k (leaf (DropFirst j order)) = nat_eq j k
is_shaped Rev k rev = true
is_shaped Seq k seq = true
is_shaped Par k par = true
is_shaped Loop k (loop (exactly j)) = true
is_shaped LoopK k (loop (exactly j)) = nat_eq j k
is_shaped LoopOne k (loop (exactly j)) = nat_eq j 1
is_shaped Until k (loop (at_most j)) = true
is_shaped UntilK k (loop (at_most j)) = nat_eq j k
is_shaped UntilOne k (loop (at_most j)) = nat_eq j 1
is_shaped _ k _ = false

-- a form of the code, which borrows its module
abbrev pub form_seen : Borrowed → Form
form_seen (borrowed.Leaf l) = leaf l.now
form_seen borrowed.Rev = rev
form_seen borrowed.Seq = seq
form_seen borrowed.Par = par
form_seen (borrowed.Loop k) = loop (exactly k)
form_seen (borrowed.Until k) = loop (at_most k)
