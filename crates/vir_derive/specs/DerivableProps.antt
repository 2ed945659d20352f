-- What is derivable of a term, and what is seen of a term from which this follows.
-- (The program's promises don't stand on this file.)
use Rattle.std.specs.Prelude.{◌≡◌, ◌↔◌, ℕ, Bool, true, false, ◌&&◌, nat_eq, if◌then◌else◌, Option, Some, None, IsTrue}
use Rattle.std.specs.Prelude.{⊤}
use Rattle.vir_term.specs.declared.prop.Prop.{Prop}
use Rattle.vir_term.specs.declared.prop.Prop.TheVariants as prop
use Rattle.vir_term.specs.Tree.{Tree}
use Rattle.vir_rules.specs.declared.row.Need.{Need}
use Rattle.vir_rules.specs.declared.row.Need.TheVariants as need
use Rattle.vir_rules.specs.declared.row.Part.TheVariants.{M, N, T, U}
use Rattle.vir_rules.specs.Claims.{of}
use Rattle.vir_rules.specs.Derivations.{Derivable}
use Rattle.vir_rules.specs.Forms.{Form, leaf, form_of, first_part, second_part}
use Rattle.vir_derive.specs.declared.derivable_props.DerivableProps.{DerivableProps}
use Rattle.vir_derive.specs.Heads.{are_opposed}
use Rattle.vir_derive.specs.Numbers.{is_within}

-- whether there is a number, and it is this one
abbrev pub is_number : Option ℕ → ℕ → Bool
is_number None k = false
is_number (Some j) k = nat_eq j k

-- whether a property is among the derivable ones
abbrev pub has : DerivableProps → Prop → Bool
has props prop.Ne = props.ne
has props prop.Ea = props.ea
has props prop.El = props.el
has props (prop.Defers k) = if nat_eq k 1 then props.defers_one else is_number props.defers_other k
has props (prop.Rejects k) = is_number props.rejects k
has props (prop.Elim k) = nat_eq k 1 && props.elim_one
has props prop.Nb = props.nb
has props prop.Decr = props.decr
has props prop.Dli = props.dli
has props prop.Imono = props.imono
has props prop.Dimono = props.dimono
has props prop.Dmono = props.dmono
has props prop.Mono = props.mono
has props prop.Cc = props.cc
has props prop.Dcc = props.dcc
has props prop.Cprog = props.cprog
has props prop.Ccomp = props.ccomp
has props prop.Neut = props.neut

-- The properties tell of a term: they are just those that are derivable, each with each number.
abbrev pub Tells : DerivableProps → Tree → Type 0
Tells props term = (q : Prop) → IsTrue (has props q) ↔ Derivable (of q term)

-- They tell of a term with some numbers: of the properties with these numbers they are just those that are derivable.
abbrev pub TellsWithin : (ℕ → Bool) → DerivableProps → Tree → Type 0
TellsWithin numbers props term = (q : Prop) → IsTrue (is_within numbers q) → IsTrue (has props q)
    ↔ Derivable (of q term)

-- whether a form has parts
abbrev pub is_composed : Form → Bool
is_composed (leaf l) = false
is_composed _ = true

-- This is seen of a term: its form, and where it has parts, what is derivable of each and whether their heads are
-- opposed.
pub record IsSeen (form : Form) (first second : DerivableProps) (opposed : Bool) (term : Tree) : Type 0 where
  pub form_is : form_of term ≡ form
  pub first_tells : IsTrue (is_composed form) → Tells first (first_part term)
  pub second_tells : IsTrue (is_composed form) → Tells second (second_part term)
  pub opposed_is : IsTrue (is_composed form) → opposed ≡ are_opposed (first_part term) (second_part term)

-- The same, where of each part only the properties with these numbers are seen.
pub record IsSeenWithin (numbers : ℕ → Bool) (form : Form) (first second : DerivableProps) (opposed : Bool)
    (term : Tree) : Type 0 where
  pub form_is : form_of term ≡ form
  pub first_tells : IsTrue (is_composed form) → TellsWithin numbers first (first_part term)
  pub second_tells : IsTrue (is_composed form) → TellsWithin numbers second (second_part term)
  pub opposed_is : IsTrue (is_composed form) → opposed ≡ are_opposed (first_part term) (second_part term)

-- A premise on a term of this form can be told from what is seen of it: it is on the term, on a part that there is, or
-- says that the first and the second part are disjoint.
abbrev pub IsTold : Form → Need → Type 0
IsTold form (need.Of wanted T) = ⊤
IsTold form (need.Of wanted U) = ⊥
IsTold form (need.Of wanted _) = IsTrue (is_composed form)
IsTold form (need.Disj M N) = IsTrue (is_composed form)
IsTold form (need.Disj _ _) = ⊥
