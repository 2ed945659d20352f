-- What is derived of a rule is true of it.
use Rattle.vir_course.specs.Proved.{IsHeld}
use Rattle.vir_rules.specs.Claims.{of}
use Rattle.vir_rules.specs.Derivations.{IsFirst}
use Rattle.vir_rules.specs.RuleTrees.{RuleTree}
use Rattle.vir_rules.proofs.Firsts.{first_valid}
use Rattle.vir_sound.proofs.DerivedTruth.{true_by}
use Rattle.vir_sound.proofs.ProperTerms.{proper_in_range}
use Rattle.vir_term.specs.declared.prop.Prop.{Prop}
use Rattle.vir_term.specs.Limits.{IsInRange}
use Rattle.vir_term.specs.Tree.{Tree}

-- the first derivation of a property of a rule that is within the limits
pub held_by : (term : Tree) (prop : Prop) (derivation : RuleTree) → IsInRange term
    → IsFirst derivation (of prop term) → IsHeld term prop derivation
held_by term prop derivation range first =
    let valid = first_valid derivation (of prop term) first in
    record {
      first = first;
      proof =
          record { valid = valid; true_of_all = true_by derivation (of prop term) (proper_in_range term range) valid };
    }
