-- What deriving answers.
-- (The program's promises don't stand on this file.)
use Rattle.either.specs.declared.Either.{Either}
use Rattle.either.specs.declared.Either.TheVariants.{Left, Right}
use Rattle.vir_rules.specs.declared.derivation.Derivation.{Derivation}
use Rattle.vir_rules.specs.declared.why.Why.{Why}
use Rattle.vir_rules.specs.Claims.{Claim}
use Rattle.vir_rules.specs.Derivations.{Derivable, IsFirst}
use Rattle.vir_rules.specs.Reasons.{AreReasons, reasons_seen}
use Rattle.vir_rules.specs.RuleTrees.{rule_tree}

-- An answer to a claim: its first derivation, or that it has none, with the reasons.
abbrev pub Answers : Either Derivation Why → Claim → Type 0
Answers (Left derivation) c = IsFirst (rule_tree derivation) c
Answers (Right why) c = (Derivable c → ⊥) × AreReasons c (reasons_seen why)
