-- The properties with some numbers, and terms that have the same of them.
-- (The program's promises don't stand on this file.)
use Rattle.std.specs.Prelude.{◌≡◌, ◌↔◌, ℕ, Bool, IsTrue}
use Rattle.vir_term.specs.declared.prop.Prop.{Prop}
use Rattle.vir_term.specs.Tree.{Tree}
use Rattle.vir_rules.specs.Claims.{of}
use Rattle.vir_rules.specs.Derivations.{Derivable}
use Rattle.vir_rules.specs.Forms.{form_of, first_part, second_part}
pub use Rattle.vir_derive.specs.Numbers.{is_within}
use Rattle.vir_derive.specs.Heads.{are_opposed}
use Rattle.vir_derive.specs.DerivableProps.{is_composed}

-- The same properties with these numbers are derivable of two terms.
abbrev pub AreAlike : (ℕ → Bool) → Tree → Tree → Type 0
AreAlike numbers t u = (q : Prop) → IsTrue (is_within numbers q) → Derivable (of q t) ↔ Derivable (of q u)

-- Two terms have one form, and where it has parts, the parts are alike, and their heads are opposed in both or in
-- neither.
pub record HaveLikeParts (numbers : ℕ → Bool) (t u : Tree) : Type 0 where
  pub form_same : form_of t ≡ form_of u
  pub first_alike : IsTrue (is_composed (form_of t)) → AreAlike numbers (first_part t) (first_part u)
  pub second_alike : IsTrue (is_composed (form_of t)) → AreAlike numbers (second_part t) (second_part u)
  pub opposed_same : IsTrue (is_composed (form_of t)) → are_opposed (first_part t) (second_part t)
      ≡ are_opposed (first_part u) (second_part u)
