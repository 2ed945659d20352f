use Rattle.std.proofs.Common.{subst, sym}
use Rattle.vir_term.specs.Tree.{tree}
use Rattle.vir_derive.specs.DerivableProps.{Tells}
use Rattle.vir_derive.proofs.TreeLemmas.{own_tells}
use Rattle.vir_derive.proofs.SignatureLemmas.{signature_of}
use Rattle.vir_derive.proofs.signatures.signature.Goals as goal

pub returns : goal.returns
returns c = signature_of c.args.numbers.now _ c.own.result.now (tree c.args.term.now) c.requires
    (subst (λ s. Tells s (tree c.args.term.now)) (sym c.own.ensures) (own_tells c.in_ok-tree.tree (tree c.args.term.now)
    c.in_ok-tree.ensures))
    c.in_ok-numbers.ensures.items c.in_ok-head.ensures c.restrict-props.ensures
