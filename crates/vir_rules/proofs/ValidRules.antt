-- The rules of a valid tree are rules.
use Rattle.std.proofs.Common.{◌≡◌, ℕ, Bool, true, false, ◌&&◌, nat_lt, nat_le, List, [], ◌∷◌, length, Option, Some}
use Rattle.std.proofs.Common.{None, if◌then◌else◌, refl, arith}
use Rattle.std.proofs.lemmas.Bool.Decides.{nat_tests}
use Rattle.vir_rules.specs.Counts.{rule_count}
use Rattle.vir_rules.specs.Claims.{Claim}
use Rattle.vir_rules.specs.Derivations.{Valid, AllValid}
use Rattle.vir_rules.specs.Premises.{is_rule, premises, premises_by, row_of}
use Rattle.vir_rules.specs.RuleTrees.{RuleTree, RuleTrees, node, none, more, IsRule, AreRules, AllAreRules}
use Rattle.vir_rules.specs.Table.{table}
use Rattle.vir_rules.proofs.Rows.{table_is_long}

chosen : {A : Type 0} (b : Bool) (found : Option A) (x : A) → (if b then found else None) ≡ Some x → b ≡ true
chosen true found x h = refl
chosen false found x h = cc

within_table : (rule many : ℕ) → (nat_lt 0 rule && nat_le rule many) ≡ true → IsRule many rule
within_table rule many h = (grind (arith, nat_tests), grind (arith, nat_tests))

fitting_rule : (rule : ℕ) (c : Claim) (needed : List Claim) → premises rule c ≡ Some needed → IsRule rule_count rule
unfolding premises is_rule
fitting_rule rule c needed h =
    let k = within_table rule (length table) (chosen (is_rule rule) (premises_by (row_of rule) c) needed h) in
    (omega (arith, k.0), omega (arith, k.1, table_is_long))

mutual
  pub valid_rules : (d : RuleTree) (c : Claim) → Valid d c → AreRules rule_count d
  valid_rules (node rule children) c valid = (
    fitting_rule rule c valid.0 valid.1,
    all_valid_rules children valid.0
        valid.2,
  )

  pub all_valid_rules : (ds : RuleTrees) (cs : List Claim) → AllValid ds cs → AllAreRules rule_count ds
  all_valid_rules none cs valid = tt
  all_valid_rules (more first rest) [] valid = absurd valid
  all_valid_rules (more first rest) (c ∷ cs) valid = (valid_rules first c valid.0, all_valid_rules rest cs valid.1)
