use Rattle.std.proofs.Common.{◌+◌, ◌*◌}
use Rattle.vir_read.specs.RawTrees.{raw_tree, listed, gathered}
use Rattle.vir_read.proofs.TypingWeights.{weight, weights}
use Rattle.vir_read.proofs.typing.+typing.Given as goal

abbrev pub decreases-build_composition : goal.decreases-build_composition
decreases-build_composition g l = 4 * weights (gathered (listed l.parts.now)) + 1

abbrev pub decreases-build_built_in : goal.decreases-build_built_in
decreases-build_built_in g l = 4 * weights (gathered (listed l.parts.now)) + 2

abbrev pub decreases-build_word : goal.decreases-build_word
decreases-build_word g l = 4 * weights (gathered (listed l.parts.now)) + 3

abbrev pub decreases-build_term : goal.decreases-build_term
decreases-build_term g l = 4 * weight (raw_tree l.raw.now)
