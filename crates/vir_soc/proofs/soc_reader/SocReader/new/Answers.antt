use Rattle.std.proofs.Common.{refl}
use Rattle.vir_soc.proofs.StandLemmas.{stands_start}
use Rattle.vir_soc.proofs.soc_reader.SocReader.new.Goals as goal

pub returns : goal.returns
returns c = rw (stands_start, c.new.ensures, c.new-2.ensures) refl
