use Rattle.vir_cookbook.proofs.Cells.{dli_copeland, dmono_copeland, imono_copeland}
use Rattle.vir_cookbook.proofs.laws.copeland.Goals as goal

pub returns-clause-dli : goal.returns-clause-dli
returns-clause-dli c = dli_copeland

pub returns-clause-dmono : goal.returns-clause-dmono
returns-clause-dmono c = dmono_copeland

pub returns-clause-imono : goal.returns-clause-imono
returns-clause-imono c = imono_copeland
