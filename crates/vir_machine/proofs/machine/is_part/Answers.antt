use Rattle.std.proofs.Common.{◌∙◌, sym}
use Rattle.vir_machine.proofs.Parts.{is_subset-difference}
use Rattle.vir_machine.proofs.machine.is_part.Goals as goal

pub returns : goal.returns
returns c =
    let tells = c.equals.ensures in
    let empty = c.empty.ensures in
    is_subset-difference c.args.part.now c.args.whole.now c.minus.result c.equals.result c.minus.ensures (
      λ h. tells.0 h
          ∙ empty,
      λ e. tells.1 (e ∙ sym empty),
    )
