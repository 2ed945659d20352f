use Rattle.vir_cert.proofs.FirstVersion.{first_is_read}
use Rattle.vir_cert.proofs.laws.first_certificates_are_read.Goals as goal

pub returns : goal.returns
returns c = λ text cert accepted. first_is_read text cert accepted
