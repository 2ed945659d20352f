use Rattle.std.proofs.Common.{◌∙◌, sym, ap}
use Rattle.vir_tables.specs.Marks.{is_marked}
use Rattle.vir_tables.proofs.FirstPlaces.{begins_with-filter, is_at, is_at-option_eq}
use Rattle.vir_tables.proofs.first_places.is_first.Goals as goal

pub returns : goal.returns
returns c =
    c.eq.ensures ∙ is_at-option_eq c.args.x c.first_marked.result
    ∙ ap (is_at c.args.x) c.first_marked.ensures
    ∙ sym (begins_with-filter (is_marked c.args.marks.now) c.args.x c.args.order.now)
