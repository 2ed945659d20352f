use Rattle.vir_cookbook.proofs.Cells.{dli_black, dmono_black, imono_black, mono_black}
use Rattle.vir_cookbook.proofs.laws.black.Goals as goal

pub returns-clause-dli : goal.returns-clause-dli
returns-clause-dli c = dli_black

pub returns-clause-dmono : goal.returns-clause-dmono
returns-clause-dmono c = dmono_black

pub returns-clause-imono : goal.returns-clause-imono
returns-clause-imono c = imono_black

pub returns-clause-mono : goal.returns-clause-mono
returns-clause-mono c = mono_black
