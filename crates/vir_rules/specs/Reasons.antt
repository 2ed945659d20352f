-- Why a claim has no derivation: for each rule that fits, its first premise that has none.
use Rattle.std.specs.Prelude.{◌≡◌, ℕ, ◌+◌, List, [], ◌∷◌, Some, map, filter, slice_get, take, length}
use Rattle.std.specs.List.{range_with_len}
use Rattle.vir_rules.specs.declared.why.Why.{Why}
use Rattle.vir_rules.specs.declared.why.WhyLine.{WhyLine}
use Rattle.vir_rules.specs.Claims.{Claim, claim}
use Rattle.vir_rules.specs.Premises.{premises, fits}
use Rattle.vir_rules.specs.Table.{table}
use Rattle.vir_rules.specs.Derivations.{Derivable, AllDerivable}

-- a rule, the number of one of its premises from 1, and that premise
pub record Reason : Type 0 where
  pub rule : ℕ
  pub number : ℕ
  pub premise : Claim

-- A premise is the first of these that isn't derivable, and has this number.
pub record IsFirstUnderived (needed : List Claim) (number : ℕ) (premise : Claim) : Type 0 where
  pub before : ℕ
  pub number_is : number ≡ before + 1
  pub stands : slice_get needed before ≡ Some premise
  pub derivable : AllDerivable (take before needed)
  pub underived : Derivable premise → ⊥

-- A reason is that of this rule, on a claim on which the rule has these premises.
pub record IsReasonOf (rule : ℕ) (needed : List Claim) (reason : Reason) : Type 0 where
  pub of_rule : reason.rule ≡ rule
  pub first : IsFirstUnderived needed reason.number reason.premise

-- A reason against a claim is that of a rule which fits it.
pub record IsReasonBy (c : Claim) (rule : ℕ) (reason : Reason) : Type 0 where
  pub needed : List Claim
  pub fits : premises rule c ≡ Some needed
  pub first : IsReasonOf rule needed reason

-- These are the reasons of these rules, one for each in their order.
abbrev pub AreReasonsBy : Claim → List ℕ → List Reason → Type 0
AreReasonsBy c [] [] = Unit {0}
AreReasonsBy c (rule ∷ rules) (reason ∷ reasons) = IsReasonBy c rule reason × AreReasonsBy c rules reasons
AreReasonsBy c _ _ = ⊥

-- of the first so many rules of the table, those that fit a claim, in their order
unfoldable pub fitting : ℕ → Claim → List ℕ
fitting most c = filter (λ rule. fits rule c) (range_with_len 1 most)

-- These are the reasons against a claim: one for each rule of the table that fits.
abbrev pub AreReasons : Claim → List Reason → Type 0
AreReasons c reasons = AreReasonsBy c (fitting (length table) c) reasons

-- a reason of the code
abbrev pub reason_seen : WhyLine → Reason
reason_seen line = record { rule = line.rule; number = line.number; premise = claim line.premise }

-- the reasons of a list of the code
abbrev pub reasons_seen : Why → List Reason
reasons_seen why = map reason_seen why.lines.items
