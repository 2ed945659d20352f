use Rattle.std.proofs.Common.{refl, ap, map, string_bytes, ◌∙◌}
use Rattle.vir_c.proofs.DueLemmas.{due_in_memory, follows_told, is_answered, usage_due}
use Rattle.vir_c.proofs.TextLemmas.{are_texts, kept_answer}
use Rattle.vir_c.specs.Answered.{IsAnswered}
use Rattle.vir_c.specs.Pieces.{files_of, pieces}
use Rattle.vir_outside.specs.Memory.{ShelfState, SinkState}
use Rattle.vir_words.specs.Command.{command_of}
use Rattle.vir_c.proofs.calling.call.Goals as goal

pub returns-in-Ok-clause-answered : goal.returns-in-Ok-clause-answered
returns-in-Ok-clause-answered c =
    let calls = c.in-Ok.ensures.calls.1 in
    let out_empty = ap (λ (s : SinkState). s.bytes) c.new-out.ensures in
    let err_empty = ap (λ (s : SinkState). s.bytes) c.new-err.ensures in
    let faultless = ap (λ (s : SinkState). s.faults) c.new-out.ensures in
    kept_answer
    (IsAnswered (pieces c.args.word_sizes.now c.args.words.now) (files_of c.args.file_sizes.now c.args.files.now))
    c.in-Ok.status c.call_on_full_bench.new.out c.call_on_full_bench.new.err c.unless_cut.result
    c.unless_cut.ensures.called c.unless_cut.ensures.whole
    (λ kept. is_answered _ _ _ c.new-shelf.result.inner.files _ c.new-out.result.bytes _ _
    (ap command_of (ap (map string_bytes) c.deref.ensures.value ∙ c.in_ok-words.ensures.words))
    (ap (λ (s : ShelfState). s.files) (c.new-shelf.ensures ∙ c.in_ok-shelf_of.ensures.shelf)) out_empty
    c.in-Ok.ensures.reports c.in-Ok.ensures.printed
    (λ command asks. due_in_memory _ _ _ _ refl (c.in-Ok.ensures.due command c.new-shelf.result.inner.files asks refl))
    calls.answer (follows_told _ _ c.new-shelf.result.inner.files _ c.new-shelf.result c.call_on_full_bench.new.shelf _
    calls.answer refl refl calls.answers) (usage_due _ _ _ _ _ _ _ _ calls.answers)
    (are_texts calls.answer _ c.new-out.result c.call_on_full_bench.new.out c.new-err.result
    c.call_on_full_bench.new.err out_empty faultless err_empty kept calls.delivers))
