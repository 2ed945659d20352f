use Rattle.std.proofs.Common.{◌≡◌, ◌+◌, length, None, sym, ◌∙◌, refl, arith}
use Rattle.vir_rules.specs.declared.unfit.Unfit.TheVariants.{RuleDoesNotFit, WrongNumberOfPremises}
use Rattle.vir_rules.specs.declared.derivation.Derivation.{out-Derivation}
use Rattle.vir_rules.specs.Claims.{claim}
use Rattle.vir_rules.specs.Premises.{premises}
use Rattle.vir_rules.specs.RuleTrees.{size, rule_tree, rule_trees}
use Rattle.vir_rules.specs.BadNodes.{first_bad}
use Rattle.vir_check.proofs.FirstBadNodes.{counted, premise_at, stands_within, size_opened, size_of_all-here}
use Rattle.vir_check.proofs.FirstBadNodes.{bad_by_rule, bad_by_number, bad_of_children, passed, stopped}
use Rattle.vir_check.proofs.checker.+number_after.Goals as goal

pub returns-in_default : goal.returns-in_default
returns-in_default t c = (
  record { number = 0; why = RuleDoesNotFit },
  bad_by_rule c.args.derivation.now (claim c.args.judgement)
      c.in_default.ensures.value,
  omega arith,
  refl,
)

pub returns-then-len-count : goal.returns-then-len-count
returns-then-len-count t c =
    let known = counted (premises (out-Derivation c.args.derivation.now).rule (claim c.args.judgement)) c.in-Some.count
    c.in-Some.ensures.value in (
      record { number = 0; why = WrongNumberOfPremises },
      bad_by_number c.args.derivation.now (claim c.args.judgement) known.0 known.1
          (λ e. c.if-len-count.true (c.len.ensures ∙ sym e ∙ known.2)),
      omega arith,
      refl,
    )

pub loop-i-init : goal.loop-i-init
loop-i-init t c =
    let known = counted (premises (out-Derivation c.args.derivation.now).rule (claim c.args.judgement)) c.in-Some.count
    c.in-Some.ensures.value in
    let as_many : length known.0 ≡ length (rule_trees (out-Derivation c.args.derivation.now).children) = known.2
    ∙ sym c.if-len-count.false ∙ c.len.ensures in (
      known.0,
      1,
      known.1,
      as_many,
      omega arith,
      omega (arith, c.saturating_add-next.ensures),
      size_opened c.args.derivation.now,
      bad_of_children c.args.derivation.now (claim c.args.judgement) known.0 known.1 as_many,
    )

pub unreachable-requires : goal.unreachable-requires
unreachable-requires t c =
    stands_within (rule_trees (out-Derivation c.args.derivation.now).children) c.loop-i.i (sym c.in_default-at.ensures)
    (omega arith)

pub unreachable-requires-in_default-premise : goal.unreachable-requires-in_default-premise
unreachable-requires-in_default-premise t c =
    let kept = c.loop-i.invariant in
    stands_within kept.0 c.loop-i.i (premise_at kept.0 _ c.loop-i.i None kept.2 c.in_default-premise.ensures)
    (omega arith)

pub number_after-requires : goal.number_after-requires
number_after-requires t c =
    let kept = c.loop-i.invariant in
    let here = size_of_all-here (rule_trees (out-Derivation c.args.derivation.now).children) c.loop-i.i
    (rule_tree c.in-Some-at.child.now) (sym c.in-Some-at.ensures) in
    (omega arith, tt)

pub returns-in-Err : goal.returns-in-Err
returns-in-Err t c =
    let kept = c.loop-i.invariant in
    let told = c.in-Err.ensures in (
      record { number = kept.1 + told.0.number; why = told.0.why },
      stopped (first_bad (rule_tree c.args.derivation.now) (claim c.args.judgement))
          (rule_trees (out-Derivation c.args.derivation.now).children) kept.0 c.loop-i.i kept.1
          (rule_tree c.in-Some-at.child.now) (claim c.in-Some-premise.wanted) (sym c.in-Some-at.ensures)
          (premise_at kept.0 _ c.loop-i.i _ kept.2 c.in-Some-premise.ensures) kept.7 told.0 told.1,
      omega arith,
      told.3,
    )

pub loop-i-preserved : goal.loop-i-preserved
loop-i-preserved t c =
    let kept = c.loop-i.invariant in
    let told = c.in-Ok.ensures in
    let here = size_of_all-here (rule_trees (out-Derivation c.args.derivation.now).children) c.loop-i.i
    (rule_tree c.in-Some-at.child.now) (sym c.in-Some-at.ensures) in (
      kept.0,
      kept.1 + size (rule_tree c.in-Some-at.child.now),
      kept.2,
      kept.3,
      omega arith,
      omega arith,
      omega arith,
      passed (first_bad (rule_tree c.args.derivation.now) (claim c.args.judgement))
          (rule_trees (out-Derivation c.args.derivation.now).children) kept.0 c.loop-i.i kept.1
          (rule_tree c.in-Some-at.child.now) (claim c.in-Some-premise.wanted) (sym c.in-Some-at.ensures)
          (premise_at kept.0 _ c.loop-i.i _ kept.2 c.in-Some-premise.ensures) kept.7 told.0,
    )
