-- With which numbers a property can be derivable of a term.
-- (The program's promises don't stand on this file.)
use Rattle.std.specs.Prelude.{ℕ, Bool, true, nat_eq, List, Option, Some, None, IsTrue}
use Rattle.std.specs.List.{list_any}
use Rattle.vir_term.specs.declared.prop.Prop.{Prop}
use Rattle.vir_term.specs.declared.prop.Prop.TheVariants.{Defers, Rejects, Elim}
use Rattle.vir_rules.specs.declared.row.Need.{Need}
use Rattle.vir_rules.specs.declared.row.Need.TheVariants as need
use Rattle.vir_rules.specs.Premises.{prop_for}
use Rattle.vir_term.specs.declared.leaf.Leaf.TheVariants.{PassFirst, DropFirst}
use Rattle.vir_term.specs.Tree.{number_of}
use Rattle.vir_rules.specs.Forms.{Form, leaf, seq, loop}

-- the one number, not 1, with which `defers` can be derivable of a term of this form, where it is so of the first part
-- with this one
abbrev pub defers_candidate : Form → Option ℕ → Option ℕ
defers_candidate (leaf (PassFirst k order)) first = Some k
defers_candidate (loop k) first = Some (number_of k)
defers_candidate seq first = first
defers_candidate _ first = None

-- the one number with which `rejects` can be derivable of a term of this form
abbrev pub rejects_candidate : Form → Option ℕ
rejects_candidate (leaf (DropFirst k order)) = Some k
rejects_candidate _ = None

-- whether a property has no number, or one of these
abbrev pub is_within : (ℕ → Bool) → Prop → Bool
is_within numbers (Defers k) = numbers k
is_within numbers (Rejects k) = numbers k
is_within numbers (Elim k) = numbers k
is_within numbers _ = true

-- whether the property that a premise asks for has no number, or one of these, where the row's number is k
abbrev pub is_need_within : (ℕ → Bool) → ℕ → Need → Bool
is_need_within numbers k (need.Of wanted part) = is_within numbers (prop_for wanted k)
is_need_within numbers k (need.Disj left right) = true

-- The rules ask for 1 and 2 by themselves: these numbers are enough.
abbrev pub AreEnough : (ℕ → Bool) → Type 0
AreEnough numbers = IsTrue (numbers 1) × IsTrue (numbers 2)

-- all numbers
abbrev pub every : ℕ → Bool
every k = true

-- whether a number is listed
abbrev pub is_listed : List ℕ → ℕ → Bool
is_listed numbers k = list_any (λ j. nat_eq j k) numbers
