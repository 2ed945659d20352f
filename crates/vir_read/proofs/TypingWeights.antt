-- How large a tree is, as a measure: parts are smaller than what they are parts of.
use Rattle.std.proofs.Common.{ℕ, ◌+◌}
use Rattle.vir_read.specs.RawTrees.{RawTree, RawTrees, word, number, bracket, none, more}

abbrev mutual
  pub weight : RawTree → ℕ
  weight (word start end parts) = 1 + weights parts
  weight (number start end) = 1
  weight (bracket start members) = 1

  pub weights : RawTrees → ℕ
  weights none = 0
  weights (more t rest) = weight t + weights rest
