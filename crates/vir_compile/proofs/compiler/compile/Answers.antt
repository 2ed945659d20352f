use Rattle.std.proofs.Common.{◌++◌, length, ap, ◌∙◌}
use Rattle.vir_term.specs.Tree.{tree}
use Rattle.vir_code.specs.Code.{code_at}
use Rattle.vir_compile.proofs.Emitted.{compiled_valid}
use Rattle.vir_compile.proofs.compiler.compile.Goals as goal

pub unreachable-requires : goal.unreachable-requires
unreachable-requires c =
    let t = tree c.args.term.now in
    c.in-None.ensures (compiled_valid _ t c.requires (c.in_ok-emit.ensures ∙ ap (λ l. l ++ code_at (length l) t)
    c.new-list.ensures.items))
