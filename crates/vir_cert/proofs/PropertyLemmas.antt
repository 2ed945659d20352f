-- Properties with another number of arguments than they take.
use Rattle.std.proofs.Common.{◌≡◌, ◌<◌, ℕ, List, [], ◌∷◌, length, Err, refl, arith}
use Rattle.vir_term.specs.declared.prop.Prop.{Prop}
use Rattle.vir_read.specs.declared.text_fault.TextKind.TheVariants.{WrongCountOfArguments}
use Rattle.vir_read.specs.Faults.{fault}
use Rattle.vir_read.specs.RawTrees.{RawTree, gathered}
use Rattle.vir_rules.specs.declared.prop_name.Counted.{Counted}
use Rattle.vir_cert.specs.Properties.{prop_alone, prop_of_number}

pub not_alone : (at : ℕ) (p : Prop) (ss : List RawTree) → 0 < length ss → prop_alone at p (gathered ss)
    ≡ Err (fault WrongCountOfArguments at)
not_alone at p [] h = absurd (omega arith)
not_alone at p (s ∷ ss) h = refl

pub not_of_number : (text : List ℕ) (at : ℕ) (name : Counted) (ss : List RawTree) → (length ss ≡ 1 → ⊥)
    → prop_of_number text at name (gathered ss) ≡ Err (fault WrongCountOfArguments at)
not_of_number text at name [] h = refl
not_of_number text at name (s ∷ []) h = absurd (h refl)
not_of_number text at name (s ∷ t ∷ ss) h = refl
