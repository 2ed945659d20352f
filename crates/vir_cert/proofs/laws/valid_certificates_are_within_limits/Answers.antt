use Rattle.vir_cert.proofs.ValidFlat.{valid_is_flat, valid_is_cert}
use Rattle.vir_cert.proofs.laws.valid_certificates_are_within_limits.Goals as goal

pub returns-clause-levels : goal.returns-clause-levels
returns-clause-levels c = λ d p t valid within. valid_is_flat d p t valid within

pub returns-clause-certificates : goal.returns-clause-certificates
returns-clause-certificates c = λ cert term prop valid. valid_is_cert cert term prop valid
