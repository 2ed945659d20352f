use Rattle.std.proofs.Common.{◌≤◌, ◌+◌, arith}
use Rattle.vir_term.specs.Tree.{nesting}
use Rattle.vir_read.specs.Grammar.{unclosed_limit}
use Rattle.vir_read.proofs.RoundTripTrees.{readable-term}
use Rattle.vir_read.proofs.laws.pieces_are_read.Goals as goal

pub returns : goal.returns
returns c = λ text t tokens rest flat says opens_nothing.
    let enough : nesting t + 1 ≤ unclosed_limit = omega arith in
    readable-term text t unclosed_limit tokens enough says rest opens_nothing
