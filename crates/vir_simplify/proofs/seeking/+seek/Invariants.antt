use Rattle.std.proofs.Common.{◌+◌, ◌-◌, ◌*◌}
use Rattle.vir_term.specs.Tree.{tree, size}
use Rattle.vir_simplify.proofs.seeking.+seek.Given as goal

abbrev pub decreases-seek : goal.decreases-seek
decreases-seek l = 3 * size (tree l.term.now)

abbrev pub decreases-seek_in_parts : goal.decreases-seek_in_parts
decreases-seek_in_parts l = 3 * size (tree l.term.now) - 1

abbrev pub decreases-seek_in_two : goal.decreases-seek_in_two
decreases-seek_in_two l = 3 * (size (tree l.first.now) + size (tree l.second.now)) + 1
