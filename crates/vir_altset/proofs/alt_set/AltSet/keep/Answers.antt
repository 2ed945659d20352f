use Rattle.std.proofs.Common.{sym, ◌∙◌, subst, arith}
use Rattle.vir_altset.proofs.KeepLemmas.{kept_none, kept_more, kept_same, kept_all}
use Rattle.vir_altset.proofs.alt_set.AltSet.keep.Goals as goal
use Rattle.vir_altset.proofs.alt_set.AltSet.keep.Goals.{then-has+then-test, else-has, else-has-via-then-has+else-test}
use Rattle.vir_altset.proofs.alt_set.AltSet.keep.Goals.{else-has-via-else-has}

pub loop-x-init : goal.loop-x-init
loop-x-init g c = rw c.empty-kept.ensures (kept_none _ _ c.bounded.ensures)

pub loop-x-preserved : goal.loop-x-preserved
loop-x-preserved g c = elim c.if-has.branch [
  | then-has+then-test w ↦ rw (w.kept-is, w.put.ensures) (kept_more c.loop-x.invariant (sym c.has.ensures
      ∙ w.if-has.true) (subst (λ b. g.F.Fn.post c.args.test (c.loop-x.x, tt) b) w.if-test.true w.test.ensures))
  | else-has w ↦ rw w.kept-is (kept_same c.loop-x.invariant (λ m. elim w.else-has.branch [
    | else-has-via-then-has+else-test w' ↦ subst (λ b. g.F.Fn.post c.args.test (c.loop-x.x, tt) b) w'.if-test.false
        w'.test.ensures
    | else-has-via-else-has w' ↦ cc (m, c.has.ensures, w'.if-has.false)
  ]))
]

pub returns : goal.returns
returns g c = kept_all c.bounded.ensures (omega arith) c.loop-x.invariant
