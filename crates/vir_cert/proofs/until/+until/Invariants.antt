use Rattle.std.proofs.Common.{◌≡◌, ◌+◌, ◌*◌, drop}
use Rattle.vir_read.specs.RawTrees.{gathered, listed, raw_tree}
use Rattle.vir_cert.specs.Untils.{until_in}
use Rattle.vir_cert.proofs.PartLemmas.{heft, hefts}
use Rattle.vir_cert.proofs.until.+until.Given as goal

abbrev pub decreases-until_in : goal.decreases-until_in
decreases-until_in l = 2 * hefts (gathered (listed l.parts.now)) + 1

abbrev pub decreases-until_at : goal.decreases-until_at
decreases-until_at l = 2 * heft (raw_tree l.raw.now)

abbrev pub invariant-until_in-loop-i : goal.invariant-until_in-loop-i
invariant-until_in-loop-i l = until_in l.text (gathered (drop l.i (listed l.parts)))
    ≡ until_in l.text (gathered (listed l.parts))
