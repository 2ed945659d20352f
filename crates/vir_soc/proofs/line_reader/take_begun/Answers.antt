use Rattle.std.proofs.Common.{◌++◌, ◌∷◌, [], ap, sym, ◌∙◌}
use Rattle.std.proofs.lemmas.Result.{err_from_is_err_and}
use Rattle.vir_soc.specs.Reader.Pieces.{end_line}
use Rattle.vir_soc.specs.Reader.Views.{progress_of}
use Rattle.vir_soc.proofs.BegunLemmas.{IsWhole, end_line-whole, end_line-whole_fails}
use Rattle.vir_soc.proofs.line_reader.take_begun.Goals as goal

pub returns-in_err-take_line-clause-exact : goal.returns-in_err-take_line-clause-exact
returns-in_err-take_line-clause-exact c =
    let p = err_from_is_err_and c.from_residual-in_err-take_line.result
    c.from_residual-in_err-take_line.ensures.1 in
    let end = c.first_line.result.0.now in
    let whole : IsWhole (progress_of c.args.reader.now) c.take-line.new.self c.deref.result.now end = record {
      begun = c.take-line.result.items;
      taken = c.take-line.ensures.bytes;
      first = c.take-line.ensures.known;
      nothing = c.take-line.ensures.left;
      last = c.first_line.ensures.one_line;
      joined = c.deref.ensures.value ∙ c.in_ok-extend_from_slice-2.ensures.items
          ∙ ap (λ bytes. bytes ++ 10 ∷ []) c.in_ok-extend_from_slice.ensures.items;
    } in
    rw (p.1, p.2, ← c.first_line.ensures.line) (end_line-whole_fails (progress_of c.args.reader.now)
    c.take-line.new.self c.deref.result.now end c.in_err-take_line.field-0.0 whole c.in_err-take_line.ensures.exact)

pub returns-clause-exact : goal.returns-clause-exact
returns-clause-exact c =
    let end = c.first_line.result.0.now in
    let whole : IsWhole (progress_of c.args.reader.now) c.take-line.new.self c.deref.result.now end = record {
      begun = c.take-line.result.items;
      taken = c.take-line.ensures.bytes;
      first = c.take-line.ensures.known;
      nothing = c.take-line.ensures.left;
      last = c.first_line.ensures.one_line;
      joined = c.deref.ensures.value ∙ c.in_ok-extend_from_slice-2.ensures.items
          ∙ ap (λ bytes. bytes ++ 10 ∷ []) c.in_ok-extend_from_slice.ensures.items;
    } in
    ap (end_line (progress_of c.args.reader.now)) (sym c.first_line.ensures.line)
    ∙ end_line-whole (progress_of c.args.reader.now) c.take-line.new.self c.deref.result.now end whole
    ∙ c.in_ok-take_line.ensures.exact
