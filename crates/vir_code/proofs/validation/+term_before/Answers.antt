use Rattle.vir_code.proofs.Pieces.{none_at_start, none_without_room, none_without_levels, none_ends, answer_leaf}
use Rattle.vir_code.proofs.Pieces.{answer_rev, none_second, none_between, answer_seq, none_beside, answer_par}
use Rattle.vir_code.proofs.Pieces.{none_back, none_turn, none_started, none_elsewhere, answer_loop}
use Rattle.vir_code.proofs.validation.+term_before.Goals.{then-end-eq0-via-then-end-eq0}
use Rattle.vir_code.proofs.validation.+term_before.Goals.{then-end-eq0-via-else-end-eq0+then-room-eq0}
use Rattle.vir_code.proofs.validation.+term_before.Goals.{then-end-eq0-via-else-end-eq0+else-room-eq0+then-levels-eq0}
use Rattle.vir_code.proofs.validation.+term_before.Goals as goal

pub returns-then-end-eq0 : goal.returns-then-end-eq0
returns-then-end-eq0 t c =
    elim c.then-end-eq0.branch [
      | then-end-eq0-via-then-end-eq0 w ↦ none_at_start _ _ _ _ w.if-end-eq0.true
      | then-end-eq0-via-else-end-eq0+then-room-eq0 w ↦ none_without_room _ _ _ _ w.if-room-eq0.true
      | then-end-eq0-via-else-end-eq0+else-room-eq0+then-levels-eq0 w ↦ none_without_levels _ _ _ _ w.if-levels-eq0.true
    ]

pub returns-in-Call : goal.returns-in-Call
returns-in-Call t c =
    rw c.then_some.ensures (answer_leaf _ _ _ _ _ c.if-end-eq0.false c.if-room-eq0.false c.if-levels-eq0.false
    c.requires c.index-list-last.is _ c.in-Call.is _ c.in_range.ensures)

pub returns-in-Revise : goal.returns-in-Revise
returns-in-Revise t c =
    answer_rev _ _ _ _ _ c.if-end-eq0.false c.if-room-eq0.false c.if-levels-eq0.false c.requires c.index-list-last.is
    c.in-Revise.is _ c.term_before.ensures

pub returns-in_err-second-in-JoinSeq : goal.returns-in_err-second-in-JoinSeq
returns-in_err-second-in-JoinSeq t c =
    rw c.from_residual.ensures (none_second _ _ _ _ _ c.if-end-eq0.false c.if-room-eq0.false c.if-levels-eq0.false
    c.requires c.index-list-last.is c.in-JoinSeq.is c.in_err-second-in-JoinSeq.ensures)

pub returns-in_err-middle-in-JoinSeq : goal.returns-in_err-middle-in-JoinSeq
returns-in_err-middle-in-JoinSeq t c =
    rw c.from_residual-in_err-middle-in-JoinSeq.ensures (none_between _ _ _ _ _ c.if-end-eq0.false c.if-room-eq0.false
    c.if-levels-eq0.false c.requires c.index-list-last.is c.in-JoinSeq.is _ c.in_ok-second-in-JoinSeq.ensures
    c.in_err-middle-in-JoinSeq.ensures)

pub returns-in_ok-middle-in-JoinSeq : goal.returns-in_ok-middle-in-JoinSeq
returns-in_ok-middle-in-JoinSeq t c =
    answer_seq _ _ _ _ _ c.if-end-eq0.false c.if-room-eq0.false c.if-levels-eq0.false c.requires c.index-list-last.is
    c.in-JoinSeq.is _ c.in_ok-second-in-JoinSeq.ensures _ c.in_ok-middle-in-JoinSeq.ensures _
    c.term_before-in-JoinSeq-2.ensures

pub returns-in_err-second-in-JoinMax : goal.returns-in_err-second-in-JoinMax
returns-in_err-second-in-JoinMax t c =
    rw c.from_residual-in_err-second-in-JoinMax.ensures (none_beside _ _ _ _ _ c.if-end-eq0.false c.if-room-eq0.false
    c.if-levels-eq0.false c.requires c.index-list-last.is c.in-JoinMax.is c.in_err-second-in-JoinMax.ensures)

pub returns-in_ok-second-in-JoinMax : goal.returns-in_ok-second-in-JoinMax
returns-in_ok-second-in-JoinMax t c =
    answer_par _ _ _ _ _ c.if-end-eq0.false c.if-room-eq0.false c.if-levels-eq0.false c.requires c.index-list-last.is
    c.in-JoinMax.is _ c.in_ok-second-in-JoinMax.ensures _ c.term_before-in-JoinMax-2.ensures

pub returns-in_err-test-in-EndLoop : goal.returns-in_err-test-in-EndLoop
returns-in_err-test-in-EndLoop t c =
    rw c.from_residual-in_err-test-in-EndLoop.ensures (none_back _ _ _ _ _ c.if-end-eq0.false c.if-room-eq0.false
    c.if-levels-eq0.false c.requires c.index-list-last.is c.in-EndLoop.is c.in_err-test-in-EndLoop.ensures)

pub returns-in_err-body-in-EndLoop : goal.returns-in_err-body-in-EndLoop
returns-in_err-body-in-EndLoop t c =
    rw c.from_residual-in_err-body-in-EndLoop.ensures (none_turn _ _ _ _ _ c.if-end-eq0.false c.if-room-eq0.false
    c.if-levels-eq0.false c.requires c.index-list-last.is c.in-EndLoop.is c.in_err-body-in-EndLoop.ensures)

pub returns-in_err-start-in-EndLoop : goal.returns-in_err-start-in-EndLoop
returns-in_err-start-in-EndLoop t c =
    rw c.from_residual-in_err-start-in-EndLoop.ensures (none_started _ _ _ _ _ c.if-end-eq0.false c.if-room-eq0.false
    c.if-levels-eq0.false c.requires c.index-list-last.is c.in-EndLoop.is _ c.in_ok-body-in-EndLoop.ensures
    c.in_err-start-in-EndLoop.ensures)

pub returns-then-test-start : goal.returns-then-test-start
returns-then-test-start t c =
    none_elsewhere _ _ _ _ _ c.if-end-eq0.false c.if-room-eq0.false c.if-levels-eq0.false c.requires
    c.index-list-last.is c.in-EndLoop.is _ c.in_ok-body-in-EndLoop.ensures _ c.in_ok-test-in-EndLoop.ensures _
    c.in_ok-start-in-EndLoop.ensures.1 c.if-test-start.true

pub returns-else-test-start : goal.returns-else-test-start
returns-else-test-start t c =
    answer_loop _ _ _ _ _ c.if-end-eq0.false c.if-room-eq0.false c.if-levels-eq0.false c.requires c.index-list-last.is
    c.in-EndLoop.is _ c.in_ok-body-in-EndLoop.ensures _ c.in_ok-test-in-EndLoop.ensures _
    c.in_ok-start-in-EndLoop.ensures c.if-test-start.false

pub returns-in_default : goal.returns-in_default
returns-in_default t c =
    none_ends _ _ _ _ _ c.if-end-eq0.false c.if-room-eq0.false c.if-levels-eq0.false c.requires c.index-list-last.is
    c.in_default.not-Call c.in_default.not-JoinSeq c.in_default.not-JoinMax c.in_default.not-Revise
    c.in_default.not-EndLoop
