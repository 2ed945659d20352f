use Rattle.std.proofs.Common.{◌≡◌, ◌≤◌, ◌<◌, None, ap, append-nil, arith, codes, length, slice_get, sym, ◌∙◌}
use Rattle.std.proofs.Common.{◌++◌}
use Rattle.std.proofs.lemmas.Option.{slice_get-get_or}
use Rattle.vir_rules.specs.RuleTrees.{gathered, rule_tree, rule_trees, size, size_of_all}
use Rattle.vir_rules.specs.Texts.{children_text}
use Rattle.vir_report.proofs.ChildrenLemmas.{children_text_of_none, children_text_whole, more_children_text_at, size_at}
use Rattle.vir_term.proofs.Beginnings.{appends_last, begins_after}
use Rattle.vir_report.proofs.derivation.+push_derivation.Goals as goal

pub push_children-returns-in_default : goal.push_children-returns-in_default
push_children-returns-in_default t c =
    let text = c.args.text.now.items in
    sym (append-nil text) ∙ ap (λ xs. text ++ xs) (children_text_of_none (rule_trees c.args.children.now)
    (rw c.in_default.is at c.at.ensures))

pub push_children-push_derivation-requires : goal.push_children-push_derivation-requires
push_children-push_derivation-requires t c =
    let below : size (rule_tree c.in-Some.first.now) ≤ size_of_all (gathered (rule_trees c.args.children.now)) =
    size_at (rule_trees c.args.children.now) 0 (rule_tree c.in-Some.first.now) (rw c.in-Some.is at c.at.ensures) in
    (omega arith, tt)

pub push_children-unreachable-requires : goal.push_children-unreachable-requires
push_children-unreachable-requires t c =
    let trees = rule_trees c.args.children.now in
    let past : None ≡ slice_get trees c.loop-i.i = rw c.in_default-at.is at c.at-in-loop-i.ensures in
    let within : c.loop-i.i < length trees = omega arith in
    let there = slice_get-get_or trees c.loop-i.i (rule_tree c.in-Some.first.now) within in
    absurd cc

pub push_children-push_derivation-requires-in-loop-i : goal.push_children-push_derivation-requires-in-loop-i
push_children-push_derivation-requires-in-loop-i t c =
    let below : size (rule_tree c.in-Some-at.child.now) ≤ size_of_all (gathered (rule_trees c.args.children.now)) =
    size_at (rule_trees c.args.children.now) c.loop-i.i (rule_tree c.in-Some-at.child.now)
    (rw c.in-Some-at.is at c.at-in-loop-i.ensures) in
    (omega arith, tt)

pub push_children-loop-i-preserved : goal.push_children-loop-i-preserved
push_children-loop-i-preserved t c =
    let comma = c.in_ok-extend_from_slice-2.ensures.items in
    let child = c.in_ok-push_derivation-2.ensures in
    record {
      whole =
          more_children_text_at (rule_trees c.args.children.now) c.loop-i.i (rule_tree c.in-Some-at.child.now) _ _ _ _
          (rw c.in-Some-at.is at c.at-in-loop-i.ensures) c.loop-i.invariant.whole comma child;
      begun = begins_after _ _ _ _ (begins_after _ _ _ _ c.loop-i.invariant.begun comma) child;
    }

pub push_children-returns : goal.push_children-returns
push_children-returns t c =
    let trees = rule_trees c.args.children.now in
    let whole : c.loop-i.text.items ++ codes ")" ≡ c.args.text.now.items ++ children_text (gathered trees) =
    children_text_whole trees c.loop-i.i (rule_tree c.in-Some.first.now) _ _ _ c.loop-i.text.items
    (rw c.in-Some.is at c.at.ensures) (omega arith) c.in_ok-extend_from_slice.ensures.items
    c.in_ok-push_derivation.ensures c.loop-i.invariant.whole in
    appends_last c.extend_from_slice-2.result _ _ _ _ (codes ")") c.extend_from_slice-2.ensures.items whole
    c.loop-i.invariant.begun
