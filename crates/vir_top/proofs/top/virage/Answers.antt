use Rattle.vir_top.proofs.HeadlineLemmas.{call_reports}
use Rattle.vir_top.proofs.StatusLemmas.{call_due, call_printed, call_usage}
use Rattle.vir_top.proofs.top.virage.Goals as goal

pub returns-clause-reports : goal.returns-clause-reports
returns-clause-reports g c = λ rule profile asks is.
    call_reports _ _ g.S.Shelf.seen c.args.shelf.now c.answer-answer.new.shelf _ _ _ g.O.Sink.seen c.args.out.now
    c.deliver.new.out g.E.Sink.seen c.args.err.now c.deliver.new.err
    (record { answer = c.answer-answer.result; answers = c.answer-answer.ensures; delivers = c.deliver.ensures })
    rule profile asks is

pub returns-clause-printed : goal.returns-clause-printed
returns-clause-printed g c = λ command asks is.
    call_printed _ _ g.S.Shelf.seen c.args.shelf.now c.answer-answer.new.shelf _ _ _ g.O.Sink.seen c.args.out.now
    c.deliver.new.out g.E.Sink.seen c.args.err.now c.deliver.new.err
    (record { answer = c.answer-answer.result; answers = c.answer-answer.ensures; delivers = c.deliver.ensures })
    command asks is

pub returns-clause-due : goal.returns-clause-due
returns-clause-due g c = λ command all asks told.
    call_due _ _ g.S.Shelf.seen c.args.shelf.now c.answer-answer.new.shelf _ _ _ g.O.Sink.seen c.args.out.now
    c.deliver.new.out g.E.Sink.seen c.args.err.now c.deliver.new.err
    (record { answer = c.answer-answer.result; answers = c.answer-answer.ensures; delivers = c.deliver.ensures })
    command asks all told

pub returns-clause-usage : goal.returns-clause-usage
returns-clause-usage g c = λ asks.
    call_usage _ _ g.S.Shelf.seen c.args.shelf.now c.answer-answer.new.shelf _ _ _ g.O.Sink.seen c.args.out.now
    c.deliver.new.out g.E.Sink.seen c.args.err.now c.deliver.new.err
    (record { answer = c.answer-answer.result; answers = c.answer-answer.ensures; delivers = c.deliver.ensures }) asks
