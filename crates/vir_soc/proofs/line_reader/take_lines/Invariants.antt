use Rattle.std.proofs.Common.{◌≡◌, ◌+◌, ◌≤◌, [], length, ℕ, List}
use Rattle.vir_soc.specs.Reader.Pieces.{Progress, reads, unended}
use Rattle.vir_soc.specs.Reader.Views.{progress_of}
use Rattle.vir_soc.proofs.line_reader.take_lines.Given as goal

pub record SoFar (first now : Progress) (bytes rest : List ℕ) : Type 0 where
  pub same : reads first bytes ≡ reads now rest
  pub line : now.line + length rest ≤ first.line + length bytes
  pub begun : now.begun ≡ []
  pub ended : unended [] rest ≡ []

abbrev pub invariant-loop-rest : goal.invariant-loop-rest
invariant-loop-rest l = SoFar (progress_of l.fn.reader) (progress_of l.reader) l.bytes l.rest

abbrev pub decreases-loop-rest : goal.decreases-loop-rest
decreases-loop-rest l = length l.rest
