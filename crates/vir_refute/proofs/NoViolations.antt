-- A property holds of a term exactly where no case violates it.
use Rattle.std.proofs.Common.{◌↔◌}
use Rattle.vir_term.specs.Tree.{Tree}
use Rattle.vir_term.specs.declared.prop.Prop.{Prop}
use Rattle.vir_mean.specs.Meaning.{mean}
use Rattle.vir_mean.specs.Properties.{Holds}
use Rattle.vir_mean.proofs.MeaningLaws.{mean-split}
use Rattle.vir_refute.specs.Violations.{IsNeverViolated}
use Rattle.vir_refute.proofs.Violated.{never_violated}
use Rattle.vir_refute.proofs.Unviolated.{holds_if_never_violated}

pub holds_unless_violated : (t : Tree) (prop : Prop) → Holds prop (mean t) ↔ IsNeverViolated prop (mean t)
holds_unless_violated t prop = (never_violated prop (mean t), holds_if_never_violated prop (mean t) (mean-split t))
