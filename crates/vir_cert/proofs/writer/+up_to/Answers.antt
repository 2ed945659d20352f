use Rattle.std.proofs.Common.{◌+◌, ◌≤◌, ◌&&◌, drop, ap, sym, ◌∙◌, arith}
use Rattle.vir_rules.specs.RuleTrees.{gathered, rule_tree, rule_trees, size, size_of_all}
use Rattle.vir_cert.specs.Texts.{have_rules_up_to}
use Rattle.vir_cert.proofs.PartLemmas.{size_at, have_rules_up_to_at}
use Rattle.vir_cert.proofs.writer.+up_to.Goals as goal

pub have_rules_up_to-has_rules_up_to-requires : goal.have_rules_up_to-has_rules_up_to-requires
have_rules_up_to-has_rules_up_to-requires t c =
    let below : size (rule_tree c.in-Some.child.now) ≤ size_of_all (gathered (rule_trees c.args.children.now)) =
    size_at (rule_trees c.args.children.now) c.loop-i.i (rule_tree c.in-Some.child.now)
    (rw c.in-Some.is at c.at.ensures) in
    (omega arith, tt)

pub have_rules_up_to-returns-then-not-has_rules_up_to : goal.have_rules_up_to-returns-then-not-has_rules_up_to
have_rules_up_to-returns-then-not-has_rules_up_to t c =
    let trees = rule_trees c.args.children.now in
    ap (λ b. b && have_rules_up_to c.args.last (gathered (drop (c.loop-i.i + 1) trees)))
    c.if-not-has_rules_up_to.ensures
    ∙ sym (have_rules_up_to_at c.args.last trees c.loop-i.i (rule_tree c.in-Some.child.now)
    (rw c.in-Some.is at c.at.ensures)) ∙ c.loop-i.invariant

pub have_rules_up_to-loop-i-preserved : goal.have_rules_up_to-loop-i-preserved
have_rules_up_to-loop-i-preserved t c =
    let trees = rule_trees c.args.children.now in
    ap (λ b. b && have_rules_up_to c.args.last (gathered (drop (c.loop-i.i + 1) trees)))
    c.if-not-has_rules_up_to.ensures
    ∙ sym (have_rules_up_to_at c.args.last trees c.loop-i.i (rule_tree c.in-Some.child.now)
    (rw c.in-Some.is at c.at.ensures)) ∙ c.loop-i.invariant
