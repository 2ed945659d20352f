use Rattle.std.proofs.Common.{◌≡◌, [], ◌∙◌, sym, ap}
use Rattle.std.proofs.lemmas.Result.{err_from_is_err_and}
use Rattle.vir_soc.specs.Reader.Pieces.{reads}
use Rattle.vir_soc.specs.Reader.Views.{progress_of}
use Rattle.vir_soc.proofs.LineFeedLemmas.{unended-after_first, unended_feed}
use Rattle.vir_soc.proofs.LineLemmas.{reads_fails, reads_nothing, reads_on}
use Rattle.vir_soc.proofs.UsualLemmas.{empty_is, some_inside}
use Rattle.vir_soc.proofs.line_reader.take_ended_lines.Goals as goal

pub returns-then-is_empty-2 : goal.returns-then-is_empty-2
returns-then-is_empty-2 c =
    let none : c.args.bytes.now ≡ [] = empty_is _ c.if-is_empty-2.ensures in
    record { exact = ap (reads (progress_of c.args.reader.now)) none ∙ reads_nothing (progress_of c.args.reader.now) }

pub take_begun-requires-clause-feed : goal.take_begun-requires-clause-feed
take_begun-requires-clause-feed c = unended_feed c.args.bytes.now (some_inside _ c.if-is_empty-2.ensures)
    c.requires.ended

pub returns-in_err-rest : goal.returns-in_err-rest
returns-in_err-rest c =
    let feed = unended_feed c.args.bytes.now (some_inside _ c.if-is_empty-2.ensures) c.requires.ended in
    let p = err_from_is_err_and c.from_residual.result c.from_residual.ensures.1 in
    record {
      exact = rw (p.1, p.2) (reads_fails (progress_of c.args.reader.now) c.args.bytes.now c.in_err-rest.field-0.0 feed
          c.in_err-rest.ensures.exact);
    }

pub take_lines-requires-2-clause-ended : goal.take_lines-requires-2-clause-ended
take_lines-requires-2-clause-ended c =
    let feed = unended_feed c.args.bytes.now (some_inside _ c.if-is_empty-2.ensures) c.requires.ended in
    rw c.in_ok-rest.ensures.rest (sym (unended-after_first [] c.args.bytes.now feed) ∙ c.requires.ended)

pub returns : goal.returns
returns c =
    let feed = unended_feed c.args.bytes.now (some_inside _ c.if-is_empty-2.ensures) c.requires.ended in
    record {
      exact = rw (reads_on (progress_of c.args.reader.now) (progress_of c.take_begun.new.reader) c.args.bytes.now
          c.in_ok-rest.rest.now feed c.in_ok-rest.ensures.rest c.in_ok-rest.ensures.exact) c.take_lines-2.ensures.exact;
    }
