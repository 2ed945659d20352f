use Rattle.vir_soc.proofs.RoundTripLemmas.{soc-soc_text}
use Rattle.vir_soc.proofs.write.written_files_read_back.Goals as goal

pub returns : goal.returns
returns c = soc-soc_text
