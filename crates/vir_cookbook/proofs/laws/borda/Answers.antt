use Rattle.vir_cookbook.proofs.Cells.{dli_borda, dmono_borda, imono_borda}
use Rattle.vir_cookbook.proofs.laws.borda.Goals as goal

pub returns-clause-dli : goal.returns-clause-dli
returns-clause-dli c = dli_borda

pub returns-clause-dmono : goal.returns-clause-dmono
returns-clause-dmono c = dmono_borda

pub returns-clause-imono : goal.returns-clause-imono
returns-clause-imono c = imono_borda
