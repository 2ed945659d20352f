use Rattle.std.proofs.Common.{length, arith}
use Rattle.vir_book.proofs.FuelLemmas.{entries_of-enough}
use Rattle.vir_book.proofs.laws.no_more_definitions_than_tokens.Goals as goal

pub returns : goal.returns
returns c = λ most text before tokens h. entries_of-enough most (length tokens) text before tokens h (omega arith)
