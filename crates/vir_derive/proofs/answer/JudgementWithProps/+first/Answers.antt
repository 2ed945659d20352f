use Rattle.std.proofs.Common.{Some, None, sym, ◌∙◌, arith}
use Rattle.vir_rules.specs.RuleTrees.{rule_tree, rule_trees}
use Rattle.vir_rules.specs.Premises.{premises}
use Rattle.vir_derive.specs.Judged.{claim_of}
use Rattle.vir_derive.proofs.Answering.{reason_fails, child_more}
use Rattle.vir_derive.proofs.Deriving.{fails_at_zero, nth_derivable, underivable}
use Rattle.vir_derive.proofs.PremiseProps.{counted, nth}
use Rattle.vir_derive.proofs.Serving.{gone}
use Rattle.vir_derive.proofs.Smaller.{premise_smaller}
use Rattle.vir_derive.proofs.answer.JudgementWithProps.+first.Goals as goal

pub first-loop-i-init : goal.first-loop-i-init
first-loop-i-init t c = λ rule l. fails_at_zero rule (claim_of c.args.self) l

pub first-unreachable-requires-2 : goal.first-unreachable-requires-2
first-unreachable-requires-2 t c = underivable (claim_of c.args.self) (λ rule l. c.loop-i.invariant rule (omega arith))
    c.requires.derivable

pub children-returns-then-is_some : goal.children-returns-then-is_some
children-returns-then-is_some t c =
    let fits = counted (premises c.args.rule (claim_of c.args.self)) c.in-Some.count c.in-Some.ensures.value in
    reason_fails c.args.rule (claim_of c.args.self) fits.0 c.reason.result fits.1 (sym c.is_some.ensures
    ∙ c.if-is_some.true) (c.reason.ensures.fit fits.0 fits.1)

pub children-unreachable-requires : goal.children-unreachable-requires
children-unreachable-requires t c =
    let i = c.loop-i.invariant in
    gone i.0 c.loop-i.i (sym (nth i.0 (premises c.args.rule (claim_of c.args.self)) c.loop-i.i None i.1
    c.in_default-premise.ensures.premise)) (omega (arith, i.2))

pub children-first-requires : goal.children-first-requires
children-first-requires t c =
    let i = c.loop-i.invariant in
    let at = nth i.0 (premises c.args.rule (claim_of c.args.self)) c.loop-i.i
    (Some (claim_of c.in-Some-premise.premise)) i.1 c.in-Some-premise.ensures.premise in
    let smaller = premise_smaller c.args.rule (claim_of c.args.self) i.0 c.loop-i.i (claim_of c.in-Some-premise.premise)
    i.1 at in (
      omega (arith, smaller),
      (
        c.in-Some-premise.ensures.props,
        nth_derivable i.0 c.loop-i.i
            (claim_of c.in-Some-premise.premise) at i.3,
      ),
    )

pub children-loop-i-preserved : goal.children-loop-i-preserved
children-loop-i-preserved t c =
    let i = c.loop-i.invariant in
    let at = nth i.0 (premises c.args.rule (claim_of c.args.self)) c.loop-i.i
    (Some (claim_of c.in-Some-premise.premise)) i.1 c.in-Some-premise.ensures.premise in (
      i.0,
      i.1,
      i.2,
      i.3,
      child_more (rule_trees c.loop-i.children) (rule_trees c.push.new.self) i.0 c.loop-i.i
          (rule_tree c.in_ok-child.child) (claim_of c.in-Some-premise.premise) c.in_ok-push.ensures.ok at i.4
          c.in_ok-child.ensures,
    )
