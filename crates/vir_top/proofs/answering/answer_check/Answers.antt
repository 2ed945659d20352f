use Rattle.std.proofs.lemmas.Result.{err_from_is_err_and}
use Rattle.vir_claims.specs.Claims.{check_course}
use Rattle.vir_cert.specs.Seen.{cert_seen}
use Rattle.vir_top.proofs.AnswerLemmas.{file_plain, file_stop}
use Rattle.vir_top.proofs.answering.answer_check.Goals as goal

pub returns-in_err-certificate : goal.returns-in_err-certificate
returns-in_err-certificate g c = λ bench.
    let p = err_from_is_err_and c.from_residual.result c.from_residual.ensures.1 in
    rw (p.1, p.2)
    (file_stop g.S.Shelf.seen c.args.shelf.now c.certificate.new.shelf _ cert_seen check_course bench
    c.in_err-certificate.field-0.0
    (c.in_err-certificate.ensures.performs bench))

pub returns : goal.returns
returns g c = λ bench.
    file_plain g.S.Shelf.seen c.args.shelf.now c.certificate.new.shelf _ cert_seen check_course bench
    c.in_ok-certificate.certificate c.check.result
    (c.in_ok-certificate.ensures.performs bench) c.check.ensures
