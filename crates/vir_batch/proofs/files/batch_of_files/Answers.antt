use Rattle.std.proofs.lemmas.Result.{err_from_is_err_and}
use Rattle.vir_batch.proofs.FilesLemmas.{files_answer, manifest_stops, rule_stops}
use Rattle.vir_batch.proofs.files.batch_of_files.Goals as goal

pub returns-in_err-rule : goal.returns-in_err-rule
returns-in_err-rule g c =
    let p = err_from_is_err_and c.from_residual.result c.from_residual.ensures.1 in
    rw (p.1, p.2)
    (rule_stops c.args.rule_name.now c.args.manifest_name.now g.S.Shelf.seen _ c.args.shelf.now c.rule.new.shelf
    c.in_err-rule.field-0.0 (c.in_err-rule.ensures.performs _))

pub returns-in_err-names : goal.returns-in_err-names
returns-in_err-names g c =
    let p = err_from_is_err_and c.from_residual-in_err-names.result c.from_residual-in_err-names.ensures.1 in
    rw (p.1, p.2)
    (manifest_stops c.args.rule_name.now c.args.manifest_name.now g.S.Shelf.seen _ c.args.shelf.now c.rule.new.shelf
    c.in_ok-rule.rule (c.in_ok-rule.ensures.performs _) c.manifest_file.new.shelf c.in_err-names.field-0.0
    (c.in_err-names.ensures.performs 1 _))

pub returns : goal.returns
returns g c =
    files_answer c.args.rule_name.now c.args.manifest_name.now g.S.Shelf.seen _ c.args.shelf.now c.rule.new.shelf
    c.in_ok-rule.rule (c.in_ok-rule.ensures.performs _) c.manifest_file.new.shelf c.batch.new.shelf _
    c.in_ok-names.names c.batch.result (c.in_ok-names.ensures.performs 1 _) c.batch.ensures
