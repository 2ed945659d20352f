use Rattle.vir_cookbook.proofs.Cells.{imono_plurality_then_elect, mono_plurality_then_elect}
use Rattle.vir_cookbook.proofs.laws.plurality_then_elect.Goals as goal

pub returns-clause-imono : goal.returns-clause-imono
returns-clause-imono c = imono_plurality_then_elect

pub returns-clause-mono : goal.returns-clause-mono
returns-clause-mono c = mono_plurality_then_elect
