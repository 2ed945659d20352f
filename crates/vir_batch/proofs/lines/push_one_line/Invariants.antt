use Rattle.std.proofs.Common.{◌≡◌, ◌++◌, map, take}
use Rattle.vir_batch.specs.BatchTexts.{spaced_byte}
use Rattle.vir_batch.proofs.lines.push_one_line.Given as goal

-- the first bytes are written
abbrev pub invariant-loop-byte : goal.invariant-loop-byte
invariant-loop-byte l = l.text.items ≡ l.fn.text.items ++ map spaced_byte (take l.byte-index l.byte-items)
