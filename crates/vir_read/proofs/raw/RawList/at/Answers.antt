use Rattle.std.proofs.Common.{◌≡◌, ℕ, ◌<◌, ◌≤◌, List, length, get_or, slice_get, option_map, sym, ◌∙◌, ap, Some, None}
use Rattle.std.proofs.Common.{Option}
use Rattle.std.specs.Borrow.{Bor}
use Rattle.std.specs.Option.{MatchOption, IfSome}
use Rattle.std.proofs.lemmas.Option.{slice_get-map, slice_get-get_or, slice_get_past}
use Rattle.vir_read.specs.RawTrees.{RawTree, raw_tree, list_step, raw_step}
use Rattle.vir_read.specs.declared.raw.Raw.{Raw}
use Rattle.vir_read.specs.declared.raw.RawList.{out-RawList, fold_out-RawList}
use Rattle.vir_read.proofs.raw.RawList.at.Goals as goal

looked_up : (Q : Bor Raw → Type 0) (raws : List Raw) (i : ℕ) (found : Option (Bor Raw))
    → IfSome found (λ r. r.now ≡ get_or raws i r.now) →
    MatchOption found (length raws ≤ i) (λ r. (i < length raws) × Q r) → option_map (λ (r : Bor Raw). raw_tree r.now)
    found ≡ option_map raw_tree (slice_get raws i)
looked_up Q raws i None same place = ap (option_map raw_tree) (sym (slice_get_past raws i place))
looked_up Q raws i (Some r) same place = ap Some (ap raw_tree same) ∙ ap (option_map raw_tree)
    (sym (slice_get-get_or raws i r.now place.0))

pub returns : goal.returns
returns c =
    let raws : List Raw = (out-RawList c.args.self.now).trees.items in
    looked_up _ c.deref.result.now c.args.i c.get.result c.get.ensures.lookup.1 c.get.ensures.lookup.3
    ∙ ap (λ xs. option_map raw_tree (slice_get xs c.args.i)) c.deref.ensures.value
    ∙ sym (slice_get-map raw_tree raws c.args.i)
    ∙ ap (λ trees. slice_get trees c.args.i)
    (sym (fold_out-RawList RawTree (List RawTree) raw_step list_step c.args.self.now))
