use Rattle.std.proofs.Common.{◌≡◌, [], ◌∷◌, ◌++◌, length, sym, ap, ◌∙◌}
use Rattle.std.specs.Prelude.{slice_set}
use Rattle.vir_term.specs.Tree.{tree, seq, par, loop}
use Rattle.vir_code.specs.declared.instr.Instr.TheVariants.{JoinSeq, JoinMax, EndLoop}
use Rattle.vir_code.specs.Code.{code_at}
use Rattle.vir_compile.specs.Endings.{end_of}
use Rattle.vir_compile.proofs.Emitted.{on_ok, seq_emitted, par_emitted, loop_emitted}
use Rattle.vir_compile.proofs.compiler.+emit.Goals as goal

pub emit-returns-in_ok-emit-in-Seq-2 : goal.emit-returns-in_ok-emit-in-Seq-2
emit-returns-in_ok-emit-in-Seq-2 t c =
    let base = c.args.code.now.items in
    let first = ap tree c.deref-in-Seq.ensures in
    let second = ap tree c.deref-in-Seq-2.ensures in
    let term = ap (λ a. seq a (tree c.deref-in-Seq-2.result.now)) first ∙ ap (λ b. seq (tree c.in-Seq.first.value) b)
    second ∙ sym (ap tree c.in-Seq.is) in
    on_ok c.put-in-Seq-3.result (c.put-in-Seq-3.new.code.items ≡ c.emit-in-Seq-2.new.code.items ++ JoinSeq ∷ [])
    (c.put-in-Seq-3.new.code.items ≡ base ++ code_at (length base) (tree c.args.term.now))
    (λ e. seq_emitted base _ _ _ _ _ (tree c.deref-in-Seq.result.now) (tree c.deref-in-Seq-2.result.now)
    c.in_ok-emit-in-Seq.ensures c.in_ok-put-in-Seq.ensures c.in_ok-put-in-Seq-2.ensures
    c.in_ok-emit-in-Seq-2.ensures e ∙ ap (λ u. base ++ code_at (length base) u) term) c.put-in-Seq-3.ensures

pub emit-returns-in_ok-emit-in-Par-2 : goal.emit-returns-in_ok-emit-in-Par-2
emit-returns-in_ok-emit-in-Par-2 t c =
    let base = c.args.code.now.items in
    let first = ap tree c.deref-in-Par.ensures in
    let second = ap tree c.deref-in-Par-2.ensures in
    let term = ap (λ a. par a (tree c.deref-in-Par-2.result.now)) first ∙ ap (λ b. par (tree c.in-Par.first.value) b)
    second ∙ sym (ap tree c.in-Par.is) in
    on_ok c.put-in-Par.result (c.put-in-Par.new.code.items ≡ c.emit-in-Par-2.new.code.items ++ JoinMax ∷ [])
    (c.put-in-Par.new.code.items ≡ base ++ code_at (length base) (tree c.args.term.now))
    (λ e. par_emitted base _ _ _ (tree c.deref-in-Par.result.now) (tree c.deref-in-Par-2.result.now)
    c.in_ok-emit-in-Par.ensures c.in_ok-emit-in-Par-2.ensures e ∙ ap (λ u. base ++ code_at (length base) u) term)
    c.put-in-Par.ensures

pub emit_loop-returns : goal.emit_loop-returns
emit_loop-returns t c =
    let base = c.args.code.now.items in
    let k = end_of c.args.ending in
    on_ok c.put-4.result (c.put-4.new.code.items ≡ slice_set c.put-3.new.code.items c.len-test.result c.test_of-2.result
    ++ EndLoop ∷ []) (c.put-4.new.code.items ≡ base ++ code_at (length base) (loop k (tree c.args.body.now)))
    (λ e. loop_emitted base _ _ _ _ _ _ _ _ _ k (tree c.args.body.now) c.in_ok-put.ensures (c.len-test.ensures
    ∙ c.put.new.code.ok.0) c.in_ok-put-2.ensures c.in_ok-emit.ensures c.in_ok-put-3.ensures (c.len-exit.ensures
    ∙ c.put-3.new.code.ok.0) (ap (slice_set c.put-3.new.code.items c.len-test.result) c.test_of-2.ensures) e)
    c.put-4.ensures
