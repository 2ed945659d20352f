use Rattle.vir_files.specs.Files.{certificates}
use Rattle.vir_files.proofs.CertificateLemmas.{SeesCert}
use Rattle.vir_files.proofs.PerformLemmas.{asks_first, performs_one}
use Rattle.vir_files.proofs.file.certificate.Goals as goal

pub returns-clause-performs : goal.returns-clause-performs
returns-clause-performs g c =
    performs_one certificates SeesCert _ g.S.Shelf.seen c.args.shelf.now c.certificate_file.new.shelf _
    c.certificate_file.ensures.reads

pub returns-clause-asks : goal.returns-clause-asks
returns-clause-asks g c =
    asks_first (g.S.Shelf.seen c.args.shelf.now) (g.S.Shelf.seen c.certificate_file.new.shelf) c.args.name.now
    c.certificate_file.ensures.reads.took.asked
