use Rattle.std.proofs.Common.{◌+◌, ◌-◌, ◌<◌, length, drop, Ok, ap, sym, ◌∙◌, subst, arith}
use Rattle.vir_read.specs.declared.symbol.Symbol.TheVariants.{CloseParenthesis}
use Rattle.vir_read.proofs.ListedLemmas.{with_front}
use Rattle.vir_read.proofs.MemberLemmas.{continues}
use Rattle.vir_read.proofs.TypingLemmas.{fails_as, fails_fault, fails_on}
use Rattle.vir_read.specs.Faults.{Gives, ◌>>=◌}
use Rattle.vir_rules.specs.RuleTrees.{node, gathered, rule_tree, rule_trees}
use Rattle.vir_rules.proofs.TreeLaws.{tree_made}
use Rattle.vir_cert.specs.Derivations.{children, derivation_within}
use Rattle.vir_cert.specs.Seen.{rule_seen}
use Rattle.vir_cert.proofs.WithinLemmas.{behind-opened, within-fails, within-no_room, within-room}
use Rattle.vir_cert.proofs.derivation_reader.+derivation.Goals as goal

pub read_behind-returns-in-Ok-clause-tree : goal.read_behind-returns-in-Ok-clause-tree
read_behind-returns-in-Ok-clause-tree t c =
    behind-opened c.args.text.now (derivation_within c.args.text.now c.args.last c.args.room) c.args.rule
    c.args.list.now c.args.from (sym c.if-not-opens.ensures.exact)
    ∙ ap (λ r. r >>= λ found. Ok (node c.args.rule (gathered found.0), found.1)) c.in-Ok.ensures.children
    ∙ ap (λ d. Ok (d, drop c.in-Ok.field-0.next c.args.list.now)) (sym (tree_made c.args.rule c.in-Ok.field-0.children))

pub read_behind-returns-in-Err-clause-tree : goal.read_behind-returns-in-Err-clause-tree
read_behind-returns-in-Err-clause-tree t c =
    fails_as c.in-Err.e _ _ (behind-opened c.args.text.now (derivation_within c.args.text.now c.args.last c.args.room)
    c.args.rule c.args.list.now c.args.from (sym c.if-not-opens.ensures.exact))
    (fails_on c.in-Err.e _ (λ found. Ok (node c.args.rule (gathered found.0), found.1)) c.in-Err.ensures.children)

pub read_children-loop-preserved : goal.read_children-loop-preserved
read_children-loop-preserved t c =
    let tree = derivation_within c.args.text.now c.args.last c.args.room in
    let list = c.args.list.now in
    let l = c.loop in
    let text = c.args.text.now in
    record {
      whole =
          ap (λ trees. with_front trees (children text tree (length list - (l.counter + 1))
          (drop (c.in-Ok.child.next + 1) list))) c.in_ok-push.ensures.ok
          ∙ continues text CloseParenthesis tree list _ (rule_trees l.children) l.counter l.at c.loop-test.true
          c.loop.invariant.whole (rule_tree c.in-Ok.child.derivation) (drop c.in-Ok.child.next list)
          c.in-Ok.ensures.tree
          (drop (c.in-Ok.child.next + 1) list) (rw c.in-Ok-Comma.field-0-is at c.in-Ok-Comma.ensures.exact);
      forward = omega (arith, c.in-Ok.ensures.forward.0, c.loop.invariant.forward);
      within = omega (arith, c.in-Ok-Comma.ensures.within);
    }

pub read_within-returns-in-Err-clause-tree : goal.read_within-returns-in-Err-clause-tree
read_within-returns-in-Err-clause-tree t c = within-fails c.args.text.now c.args.last c.args.room
    (drop c.args.from c.args.list.now) c.in-Err.e c.in-Err.ensures.exact

pub read_within-returns-then-room-eq0-clause-tree : goal.read_within-returns-then-room-eq0-clause-tree
read_within-returns-then-room-eq0-clause-tree t c =
    fails_fault _ _ _ c.fault.ensures (within-no_room c.args.text.now c.args.last c.args.room
    (drop c.args.from c.args.list.now) _ (rule_seen c.in-Ok.found) c.if-room-eq0.true c.in-Ok.ensures.exact)

pub read_within-returns-clause-tree : goal.read_within-returns-clause-tree
read_within-returns-clause-tree t c =
    let room : 0 < c.args.room = (let n = c.if-room-eq0.false in omega arith) in
    let same = within-room c.args.text.now c.args.last c.args.room (drop c.args.from c.args.list.now) _
    (rule_seen c.in-Ok.found) room c.in-Ok.ensures.exact in
    subst (Gives (λ end. (rule_tree end.derivation, drop end.next c.args.list.now)) c.read_behind.result) (sym same)
    c.read_behind.ensures.tree
