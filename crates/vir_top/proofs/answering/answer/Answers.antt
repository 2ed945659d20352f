use Rattle.vir_top.proofs.AnswerLemmas.{answers_wanting}
use Rattle.vir_top.proofs.answering.answer.Goals as goal

pub returns-in-Err : goal.returns-in-Err
returns-in-Err g c = answers_wanting g.S.Shelf.seen c.args.shelf.now _ _ _ c.in-Err.ensures.memory
