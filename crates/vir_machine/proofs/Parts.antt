-- A set is a part of another where nothing of it is left without the other.
use Rattle.std.proofs.Common.{◌≡◌, Bool, true, false, refl, sym, ◌∙◌}
use Rattle.std.specs.Prelude.{◌↔◌, IsTrue}
use Rattle.std.specs.FinSet as set
use Rattle.vir_altset.specs.Sets.{Set}
use Rattle.vir_mean.proofs.EliminatedSplits.{whole_gone, some_left}

pub is_subset-difference : (a x rest : Set) (none : Bool) → rest ≡ set.difference a x → IsTrue none ↔ (rest ≡ set.empty)
    → none ≡ set.is_subset a x
is_subset-difference a x rest true is tells = sym (whole_gone a x (sym is ∙ tells.0 refl))
is_subset-difference a x rest false is tells = sym (some_left a x (λ e. let h : IsTrue false = tells.1 (is ∙ e)
    in absurd cc))
