use Rattle.std.proofs.Common.{◌≡◌, [], Ok, List, ℕ, length, false, nat_eq, sym, ◌∙◌, arith}
use Rattle.std.specs.List.{after_first, before_first}
use Rattle.std.proofs.lemmas.Result.{err_from_is_err_and}
use Rattle.vir_profile.specs.SocFiles.{is_line_feed}
use Rattle.vir_soc.specs.Reader.Pieces.{Progress, end_line, unended}
use Rattle.vir_soc.specs.Reader.UsualLines.{HasLineFeed}
use Rattle.vir_soc.specs.Reader.Views.{progress_of}
use Rattle.vir_soc.proofs.LineFeedLemmas.{after_first-shorter, unended-after_first, unended_feed}
use Rattle.vir_soc.proofs.LineLemmas.{end_line-next, reads_fails, reads_nothing, reads_on}
use Rattle.vir_soc.proofs.UsualLemmas.{empty_is, some_inside}
use Rattle.vir_soc.proofs.line_reader.take_lines.Invariants.{SoFar}
use Rattle.vir_soc.proofs.line_reader.take_lines.Goals as goal

-- a line more is taken
SoFar-next : (first now next : Progress) (bytes rest after : List ℕ) → HasLineFeed rest
    → after ≡ after_first is_line_feed rest → end_line now (before_first is_line_feed rest) ≡ Ok next
    → SoFar first now bytes rest → SoFar first next bytes after
SoFar-next first now next bytes rest after feed behind is old =
    let shorter = after_first-shorter rest after feed behind in
    let q = end_line-next now next (before_first is_line_feed rest) is in
    record {
      same = old.same ∙ reads_on now next rest after feed behind is;
      line = omega (arith, old.line, q.0);
      begun = q.1;
      ended = rw behind (sym (unended-after_first [] rest feed) ∙ old.ended);
    }

-- there is a line more
has_feed : (rest : List ℕ) → false ≡ nat_eq (length rest) 0 → unended [] rest ≡ [] → HasLineFeed rest
has_feed rest some ended = unended_feed rest (some_inside rest some) ended

pub take_line-requires-clause-feed : goal.take_line-requires-clause-feed
take_line-requires-clause-feed c = has_feed c.loop-rest.rest.now c.loop-rest-test.ensures
    c.loop-rest.invariant.ended

pub returns-in_err-rest : goal.returns-in_err-rest
returns-in_err-rest c =
    let p = err_from_is_err_and c.from_residual.result c.from_residual.ensures.1 in
    let rest = c.loop-rest.rest.now in
    let feed = has_feed rest c.loop-rest-test.ensures c.loop-rest.invariant.ended in
    let fails = reads_fails (progress_of c.loop-rest.reader) rest c.in_err-rest.field-0.0 feed
    c.in_err-rest.ensures.exact in
    record { exact = rw (p.1, p.2, c.loop-rest.invariant.same) fails }

pub loop-rest-preserved : goal.loop-rest-preserved
loop-rest-preserved c = SoFar-next _ (progress_of c.loop-rest.reader) (progress_of c.take_line.new.reader) _
    c.loop-rest.rest.now c.in_ok-rest.rest.now (has_feed c.loop-rest.rest.now c.loop-rest-test.ensures
    c.loop-rest.invariant.ended) c.in_ok-rest.ensures.rest c.in_ok-rest.ensures.exact
    c.loop-rest.invariant

pub returns : goal.returns
returns c =
    let none : c.loop-rest.rest.now ≡ [] = empty_is _ c.loop-rest-test.ensures in
    record { exact = c.loop-rest.invariant.same ∙ rw none (reads_nothing (progress_of c.loop-rest.reader)) }
