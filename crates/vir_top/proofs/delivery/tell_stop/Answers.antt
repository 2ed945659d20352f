use Rattle.vir_top.proofs.WritesLemmas.{writes_line}
use Rattle.vir_top.proofs.delivery.tell_stop.Goals as goal

pub returns-clause-line : goal.returns-clause-line
returns-clause-line g c = writes_line _ _ _ c.write_line.result c.write_line.ensures
