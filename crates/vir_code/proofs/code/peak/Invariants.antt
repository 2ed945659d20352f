use Rattle.std.proofs.Common.{◌≡◌, ◌≤◌, drop}
use Rattle.vir_code.specs.Heights.{peak_from, peak_of}
use Rattle.vir_code.proofs.code.peak.Given as goal

abbrev pub invariant-loop-instr : goal.invariant-loop-instr
invariant-loop-instr l = record {
  low : l.height ≤ l.instr-index;
  rest : peak_from l.height l.most (drop l.instr-index l.list) ≡ peak_of l.list;
}
