-- What is derivable of a term and of all its parts.
-- (The program's promises don't stand on this file.)
use Rattle.std.specs.Prelude.{◌≡◌, Bool, true, false, IsTrue, ⊤}
use Rattle.vir_term.specs.Tree.{Tree}
use Rattle.vir_term.specs.Tree as tree
use Rattle.vir_rules.specs.Claims.{Claim, of, disj}
use Rattle.vir_rules.specs.Forms.{Form, rev, seq, par, loop, form_of, first_part, second_part}
use Rattle.vir_derive.specs.declared.props_tree.PropsTree.{PropsTree}
use Rattle.vir_derive.specs.declared.props_tree.PropsTree.TheVariants.{Leaf, One', Two'}
use Rattle.vir_derive.specs.declared.derivable_props.DerivableProps.{DerivableProps}
use Rattle.vir_derive.specs.Heads.{are_opposed}
use Rattle.vir_derive.specs.DerivableProps.{Tells}

-- what is derivable of the whole term
abbrev pub own_props : PropsTree → DerivableProps
own_props (Leaf own) = own
own_props (One' own place part) = own
own_props (Two' own place first place' second) = own

-- the tree of the first part; that of a module is its own
abbrev pub first_tree : PropsTree → PropsTree
first_tree (Leaf own) = Leaf own
first_tree (One' own place part) = part
first_tree (Two' own place first place' second) = first

-- the tree of the second part; where there is one part, of that one
abbrev pub second_tree : PropsTree → PropsTree
second_tree (Leaf own) = Leaf own
second_tree (One' own place part) = part
second_tree (Two' own place first place' second) = second

-- This is the tree of a term: what it has of each part is what is derivable of that, and it is composed as the term is.
abbrev pub IsPropsTreeOf : PropsTree → Tree → Type 0
IsPropsTreeOf (Leaf own) (tree.leaf l) = Tells own (tree.leaf l)
IsPropsTreeOf (One' own place part) (tree.rev m) = Tells own (tree.rev m) × IsPropsTreeOf part m
IsPropsTreeOf (One' own place part) (tree.loop k m) = Tells own (tree.loop k m) × IsPropsTreeOf part m
IsPropsTreeOf (Two' own place first place' second) (tree.seq m n) = Tells own (tree.seq m n) × IsPropsTreeOf first m
    × IsPropsTreeOf second n
IsPropsTreeOf (Two' own place first place' second) (tree.par m n) = Tells own (tree.par m n) × IsPropsTreeOf first m
    × IsPropsTreeOf second n
IsPropsTreeOf _ _ = ⊥

-- This is the tree of the term that a claim is about. Where it is about two terms, none is needed.
abbrev pub IsTreeFor : PropsTree → Claim → Type 0
IsTreeFor props (of q term) = IsPropsTreeOf props term
IsTreeFor props (disj left right) = ⊤

-- whether a form has one part, and whether it has two
abbrev pub has_one_part : Form → Bool
has_one_part rev = true
has_one_part (loop k) = true
has_one_part _ = false

abbrev pub has_two_parts : Form → Bool
has_two_parts seq = true
has_two_parts par = true
has_two_parts _ = false

-- Of each term of this form that has a part of this tree, that is the tree.
abbrev pub JoinsOne : Form → PropsTree → PropsTree → Type 0
JoinsOne form part props = (term : Tree) → form_of term ≡ form → IsTrue (has_one_part form)
    → IsPropsTreeOf part (first_part term) → IsPropsTreeOf props term

-- Of each term of this form that has parts of these trees, opposed or not, that is the tree.
abbrev pub JoinsTwo : Form → PropsTree → PropsTree → Bool → PropsTree → Type 0
JoinsTwo form first second opposed props =
    (term : Tree) → form_of term ≡ form → IsTrue (has_two_parts form) → opposed ≡ are_opposed (first_part term)
    (second_part term) → IsPropsTreeOf first (first_part term) → IsPropsTreeOf second (second_part term)
    → IsPropsTreeOf props term
