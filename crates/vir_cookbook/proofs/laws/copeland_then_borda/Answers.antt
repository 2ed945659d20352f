use Rattle.vir_cookbook.proofs.Cells.{dli_copeland_then_borda, dmono_copeland_then_borda}
use Rattle.vir_cookbook.proofs.Cells.{imono_copeland_then_borda, mono_copeland_then_borda}
use Rattle.vir_cookbook.proofs.laws.copeland_then_borda.Goals as goal

pub returns-clause-dli : goal.returns-clause-dli
returns-clause-dli c = dli_copeland_then_borda

pub returns-clause-dmono : goal.returns-clause-dmono
returns-clause-dmono c = dmono_copeland_then_borda

pub returns-clause-imono : goal.returns-clause-imono
returns-clause-imono c = imono_copeland_then_borda

pub returns-clause-mono : goal.returns-clause-mono
returns-clause-mono c = mono_copeland_then_borda
