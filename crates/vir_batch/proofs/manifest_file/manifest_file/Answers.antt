use Rattle.std.proofs.lemmas.Result.{err_from_is_err_and}
use Rattle.vir_batch.proofs.ManifestLemmas.{SeesNames, long_manifest, names_seen}
use Rattle.vir_batch.proofs.manifest_file.manifest_file.Goals as goal
use Rattle.vir_batch.specs.Kinds.{manifests}
use Rattle.vir_batch.specs.Manifest.{manifest_of}
use Rattle.vir_batch.specs.declared.manifest.TheConstants.{MANIFEST_LIMIT}
use Rattle.vir_files.proofs.PerformLemmas.{asks_first}
use Rattle.vir_files.proofs.TextLemmas.{reads_judged, reads_stopped}
use Rattle.vir_files.proofs.ThenLemmas.{performs_at}

pub returns-in_err-text-clause-performs : goal.returns-in_err-text-clause-performs
returns-in_err-text-clause-performs g c = λ place bench.
    let p = err_from_is_err_and c.from_residual.result c.from_residual.ensures.1 in
    rw (p.1, p.2)
    (performs_at manifests SeesNames c.args.name.now g.S.Shelf.seen c.args.shelf.now c.text_file.new.shelf _ place bench
    (reads_stopped MANIFEST_LIMIT manifest_of names_seen long_manifest _ _ _ c.in_err-text.field-0.0
    c.in_err-text.ensures))

pub returns-clause-performs : goal.returns-clause-performs
returns-clause-performs g c = λ place bench.
    performs_at manifests SeesNames c.args.name.now g.S.Shelf.seen c.args.shelf.now c.text_file.new.shelf _ place bench
    (reads_judged MANIFEST_LIMIT manifest_of names_seen long_manifest _ _ _ _ _ c.in_ok-text.ensures
    (rw c.deref.ensures.value at c.judge.ensures))

pub returns-in_err-text-clause-asks : goal.returns-in_err-text-clause-asks
returns-in_err-text-clause-asks g c =
    asks_first (g.S.Shelf.seen c.args.shelf.now) (g.S.Shelf.seen c.text_file.new.shelf) c.args.name.now
    c.in_err-text.ensures.took.asked

pub returns-clause-asks : goal.returns-clause-asks
returns-clause-asks g c =
    asks_first (g.S.Shelf.seen c.args.shelf.now) (g.S.Shelf.seen c.text_file.new.shelf) c.args.name.now
    c.in_ok-text.ensures.took.asked
