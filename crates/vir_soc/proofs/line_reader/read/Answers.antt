use Rattle.std.proofs.Common.{ap, ◌∙◌, arith}
use Rattle.std.proofs.lemmas.Result.{err_from_is_err_and}
use Rattle.std.specs.List.{list_any}
use Rattle.vir_profile.specs.SocFiles.{is_line_feed}
use Rattle.vir_soc.specs.Reader.Views.{progress_of}
use Rattle.vir_soc.proofs.LineLemmas.{reads-line, reads_append_fails, reads_open}
use Rattle.vir_soc.proofs.line_reader.read.Goals as goal

pub returns-in_err-take_ended_lines-clause-exact : goal.returns-in_err-take_ended_lines-clause-exact
returns-in_err-take_ended_lines-clause-exact c =
    let p = err_from_is_err_and c.from_residual.result
    c.from_residual.ensures.1 in
    rw (p.1, p.2) (reads_append_fails (progress_of c.args.reader.now) c.args.piece.now c.split_at.result.0.now
    c.split_at.result.1.now c.in_err-take_ended_lines.field-0.0 c.split_at.ensures.by_index.0
    c.in_err-take_ended_lines.ensures.exact)

pub returns-clause-exact : goal.returns-clause-exact
returns-clause-exact c =
    let back = c.split_at.result.1.now in
    let none = ap (list_any is_line_feed) c.split_at.ensures.back ∙ c.ended_len.ensures.begun in
    rw c.in_ok-extend.ensures (reads_open (progress_of c.args.reader.now) (progress_of c.take_ended_lines.new.reader)
    c.args.piece.now c.split_at.result.0.now back c.split_at.ensures.by_index.0
    c.in_ok-take_ended_lines.ensures.exact none)

pub returns-clause-line : goal.returns-clause-line
returns-clause-line c =
    let l = reads-line (progress_of c.args.reader.now) (progress_of c.take_ended_lines.new.reader)
    c.split_at.result.0.now c.in_ok-take_ended_lines.ensures.exact in
    let n = c.split_at.ensures.front_len in
    let m = c.split_at.ensures.back_len in
    omega arith
