use Rattle.std.proofs.Common.{◌+◌, ◌*◌}
use Rattle.vir_term.specs.Tree.{tree, size}
use Rattle.vir_simplify.proofs.rewriting.+rewrite.Given as goal

abbrev pub decreases-rewrite_at : goal.decreases-rewrite_at
decreases-rewrite_at l = 3 * size (tree l.term.now) + 1

abbrev pub decreases-rewrite_within : goal.decreases-rewrite_within
decreases-rewrite_within l = 3 * size (tree l.term.now)

abbrev pub decreases-rewrite_part : goal.decreases-rewrite_part
decreases-rewrite_part l = 3 * size (tree l.part.now) + 2

abbrev pub decreases-rewrite_two : goal.decreases-rewrite_two
decreases-rewrite_two l = 3 * (size (tree l.first.now) + size (tree l.second.now)) + 2
