use Rattle.std.proofs.lemmas.Result.{err_from_is_err_and}
use Rattle.vir_cert.specs.Certs.{cert_of}
use Rattle.vir_cert.specs.Seen.{cert_seen}
use Rattle.vir_cert.specs.declared.reader.TheConstants.{CERTIFICATE_LIMIT}
use Rattle.vir_files.proofs.CertificateLemmas.{long_certificate}
use Rattle.vir_files.proofs.TextLemmas.{reads_judged, reads_stopped}
use Rattle.vir_files.proofs.certificate_file.certificate_file.Goals as goal

pub returns-in_err-text-clause-reads : goal.returns-in_err-text-clause-reads
returns-in_err-text-clause-reads g c =
    let p = err_from_is_err_and c.from_residual.result c.from_residual.ensures.1 in
    rw (p.1, p.2)
    (reads_stopped CERTIFICATE_LIMIT cert_of cert_seen long_certificate _ _ _ c.in_err-text.field-0.0
    c.in_err-text.ensures)

pub returns-clause-reads : goal.returns-clause-reads
returns-clause-reads g c =
    reads_judged CERTIFICATE_LIMIT cert_of cert_seen long_certificate _ _ _ _ _ c.in_ok-text.ensures
    (rw c.deref.ensures.value at c.judge.ensures.judges)
