-- What a verdict on a derivation says.
-- (The program's promises don't stand on this file.)
use Rattle.std.specs.Prelude.{◌≡◌, ℕ, ◌-◌, ◌^◌, min, Some}
use Rattle.vir_rules.specs.Claims.{Claim}
use Rattle.vir_rules.specs.RuleTrees.{RuleTree}
use Rattle.vir_rules.specs.Derivations.{Valid}
use Rattle.vir_rules.specs.BadNodes.{BadNode, first_bad}
use Rattle.vir_rules.specs.declared.unfit.Unfit.{Unfit}
use Rattle.vir_check.specs.declared.verdict.Verdict.{Verdict}
use Rattle.vir_check.specs.declared.verdict.Verdict.TheVariants.{Accepted, Refused}

-- the greatest number of a node that is told; a node with a greater one is told by this
abbrev pub greatest_number : ℕ
greatest_number = 2 ^ 64 - 1

-- A tree isn't valid for a claim, and its first bad node is told.
pub record IsRefusal (d : RuleTree) (c : Claim) (node : ℕ) (why : Unfit) : Type 0 where
  pub not_valid : Valid d c → ⊥
  pub bad : BadNode
  pub is_first : first_bad d c ≡ Some bad
  pub number_is : node ≡ min bad.number greatest_number
  pub why_is : why ≡ bad.why

-- A verdict on a tree that is to derive a claim: accepted where it is valid, and refused where it isn't.
abbrev pub IsVerdict : Verdict → RuleTree → Claim → Type 0
IsVerdict Accepted d c = Valid d c
IsVerdict (Refused node why) d c = IsRefusal d c node why
