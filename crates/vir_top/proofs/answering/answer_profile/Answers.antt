use Rattle.std.proofs.lemmas.Result.{err_from_is_err_and}
use Rattle.vir_profile.specs.SocFiles.{File}
use Rattle.vir_top.proofs.AnswerLemmas.{file_plain, file_stop}
use Rattle.vir_top.proofs.answering.answer_profile.Goals as goal
use Rattle.vir_top.specs.CommandCourses.{profile_course}

pub returns-in_err-file : goal.returns-in_err-file
returns-in_err-file g c = λ bench.
    let p = err_from_is_err_and c.from_residual.result c.from_residual.ensures.1 in
    rw (p.1, p.2)
    (file_stop g.S.Shelf.seen c.args.shelf.now c.profile.new.shelf _ (λ (f : File). f) (profile_course c.args.work)
    bench c.in_err-file.field-0.0 (c.in_err-file.ensures.performs bench))

pub returns : goal.returns
returns g c = λ bench.
    file_plain g.S.Shelf.seen c.args.shelf.now c.profile.new.shelf _ (λ (f : File). f) (profile_course c.args.work)
    bench c.in_ok-file.file c.on_profile.result (c.in_ok-file.ensures.performs bench) c.on_profile.ensures
