use Rattle.std.proofs.Common.{◌≡◌, false, rules}
use Rattle.vir_term.specs.Tree.{tree}
use Rattle.vir_derive.specs.Heads.{are_opposed}
use Rattle.vir_derive.proofs.Disjointness.{disjoint_if_told}
use Rattle.vir_derive.proofs.head.are_opposed.Goals as goal

pub returns-in_default-clause-disjoint : goal.returns-in_default-clause-disjoint
returns-in_default-clause-disjoint c =
    let e : false ≡ are_opposed (tree c.args.left.now) (tree c.args.right.now) = search rules in
    disjoint_if_told false (tree c.args.left.now) (tree c.args.right.now) e

pub returns-in_default-2-clause-disjoint : goal.returns-in_default-2-clause-disjoint
returns-in_default-2-clause-disjoint c =
    let e : false ≡ are_opposed (tree c.args.left.now) (tree c.args.right.now) = search rules in
    disjoint_if_told false (tree c.args.left.now) (tree c.args.right.now) e

pub returns-clause-disjoint : goal.returns-clause-disjoint
returns-clause-disjoint c =
    let e : c.opposed.result ≡ are_opposed (tree c.args.left.now) (tree c.args.right.now) = search rules in
    disjoint_if_told c.opposed.result (tree c.args.left.now) (tree c.args.right.now) e
