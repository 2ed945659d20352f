-- No term is without a size or a nesting.
use Rattle.std.proofs.Common.{◌≤◌, arith}
use Rattle.vir_term.specs.Tree.{Tree, leaf, rev, seq, par, loop, size, nesting}

-- each term has at least one module
pub size_positive : (t : Tree) → 1 ≤ size t
size_positive (leaf l) = omega arith
size_positive (rev part) = omega arith
size_positive (seq first second) = omega arith
size_positive (par first second) = omega arith
size_positive (loop k body) = omega arith

-- each term is nested at least once
pub nesting_positive : (t : Tree) → 1 ≤ nesting t
nesting_positive (leaf l) = omega arith
nesting_positive (rev part) = omega arith
nesting_positive (seq first second) = omega arith
nesting_positive (par first second) = omega arith
nesting_positive (loop k body) = omega arith
