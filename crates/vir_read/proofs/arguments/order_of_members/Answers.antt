use Rattle.std.proofs.Common.{◌+◌, ◌∙◌, ap, sym, drop, [], ◌∷◌, ◌++◌}
use Rattle.vir_term.specs.Orders.{order_fault}
use Rattle.vir_read.specs.RawTrees.{raw_tree, listed}
use Rattle.vir_read.specs.Faults.{◌>>=◌}
use Rattle.vir_read.specs.Arguments.{with_member, with_members}
use Rattle.vir_read.proofs.TypingLemmas.{member_step, grown, fails_on, fails_as}
use Rattle.vir_read.proofs.arguments.order_of_members.Goals as goal

pub loop-i-preserved : goal.loop-i-preserved
loop-i-preserved c =
    let text = c.args.text.now in
    let ms = listed c.args.members.now in
    let p = grown c.push.result _ _ _ (sym c.is_err.ensures.value ∙ c.if-is_err.false) c.push.ensures.items in
    let n = c.deref.ensures.value in
    record {
      same = ap (λ xs. with_members text xs (drop (c.loop-i.i + 1) ms)) (p ∙ ap (λ xs. xs ++ c.in-Ok.n ∷ []) (sym n))
          ∙ ap (λ r. r >>= λ xs. with_members text xs (drop (c.loop-i.i + 1) ms)) (sym c.in-Ok.ensures.exact)
          ∙ ap (λ xs. with_member text xs (raw_tree c.in-Some.raw.now) >>= λ xs. with_members text xs
          (drop (c.loop-i.i + 1) ms)) n
          ∙ sym (member_step text c.loop-i.list.items ms c.loop-i.i (raw_tree c.in-Some.raw.now)
          (sym c.in-Some.ensures))
          ∙ c.loop-i.invariant.same;
      faultless = ap order_fault (p ∙ ap (λ xs. xs ++ c.in-Ok.n ∷ []) (sym n)) ∙ c.in-Ok.ensures.faultless
          (ap order_fault n ∙ c.loop-i.invariant.faultless);
    }

pub returns-in-Err : goal.returns-in-Err
returns-in-Err c =
    let text = c.args.text.now in
    let ms = listed c.args.members.now in
    let s = raw_tree c.in-Some.raw.now in
    fails_as c.in-Err.e _ _
    (sym c.loop-i.invariant.same ∙ member_step text c.loop-i.list.items ms c.loop-i.i s (sym c.in-Some.ensures)
    ∙ ap (λ xs. with_member text xs s >>= λ xs. with_members text xs (drop (c.loop-i.i + 1) ms))
    (sym c.deref.ensures.value))
    (fails_on c.in-Err.e _ (λ xs. with_members text xs (drop (c.loop-i.i + 1) ms)) c.in-Err.ensures.exact)
