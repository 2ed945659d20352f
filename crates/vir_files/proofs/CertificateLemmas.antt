-- Certificates as texts.
use Rattle.std.proofs.Common.{◌≡◌, ℕ, List, true, length, nat_lt, Err, ap, if◌then◌else◌}
use Rattle.vir_cert.specs.Certs.{Cert, cert_of, parts_of}
use Rattle.vir_cert.specs.Seen.{cert_seen}
use Rattle.vir_cert.specs.declared.certificate.Certificate.{Certificate}
use Rattle.vir_cert.specs.declared.reader.TheConstants.{CERTIFICATE_LIMIT}
use Rattle.vir_read.specs.Faults.{◌>>=◌, fault}
use Rattle.vir_read.specs.Tokens.{tokens_of}
use Rattle.vir_read.specs.declared.text_fault.TextKind.TheVariants.{TextTooLong}

-- a certificate of the code is this one
abbrev pub SeesCert : Cert → Certificate → Type 0
SeesCert c x = c ≡ cert_seen x

-- a text that is too long has that fault
pub long_certificate : (bytes : List ℕ) → nat_lt CERTIFICATE_LIMIT (length bytes) ≡ true
    → cert_of bytes ≡ Err (fault TextTooLong CERTIFICATE_LIMIT)
long_certificate bytes long =
    ap (λ b. if b then Err (fault TextTooLong CERTIFICATE_LIMIT) else (tokens_of bytes >>= parts_of bytes)) long
