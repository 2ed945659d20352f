-- The names of what can be wrong with a node of a derivation.
use Rattle.std.specs.Prelude.{ℕ, List, codes}
use Rattle.vir_rules.specs.declared.unfit.Unfit.{Unfit}
use Rattle.vir_rules.specs.declared.unfit.Unfit.TheVariants.{RuleDoesNotFit, WrongNumberOfPremises}

-- the name of a variant
abbrev pub unfit_name : Unfit → List ℕ
unfit_name RuleDoesNotFit = codes "RuleDoesNotFit"
unfit_name WrongNumberOfPremises = codes "WrongNumberOfPremises"
