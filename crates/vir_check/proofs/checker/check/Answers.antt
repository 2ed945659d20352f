use Rattle.std.proofs.Common.{◌≡◌, arith, sym, ◌∙◌, Some, None}
use Rattle.vir_rules.specs.Claims.{claim}
use Rattle.vir_rules.specs.RuleTrees.{rule_tree}
use Rattle.vir_rules.specs.BadNodes.{BadNode}
use Rattle.vir_rules.proofs.Checking.{unblamed_valid, valid_unblamed}
use Rattle.vir_sound.proofs.DerivedTruth.{true_by}
use Rattle.vir_check.proofs.checker.check.Goals as goal

pub returns-in-Ok-clause-verdict : goal.returns-in-Ok-clause-verdict
returns-in-Ok-clause-verdict c = unblamed_valid (rule_tree c.args.derivation.now) (claim c.args.judgement)
    c.in-Ok.ensures.0

pub returns-in-Ok-clause-truth : goal.returns-in-Ok-clause-truth
returns-in-Ok-clause-truth c accepted proper =
    true_by (rule_tree c.args.derivation.now) (claim c.args.judgement) proper
    (unblamed_valid (rule_tree c.args.derivation.now) (claim c.args.judgement) c.in-Ok.ensures.0)

some-none : (bad : BadNode) → Some bad ≡ None → ⊥
some-none bad same = cc

pub returns-in-Err-clause-verdict : goal.returns-in-Err-clause-verdict
returns-in-Err-clause-verdict c =
    let told = c.in-Err.ensures in
    record {
      not_valid = λ valid. some-none told.0 (sym told.1 ∙ valid_unblamed (rule_tree c.args.derivation.now)
          (claim c.args.judgement) valid);
      bad = told.0;
      is_first = told.1;
      number_is = omega arith;
      why_is = told.3;
    }
