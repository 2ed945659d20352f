use Rattle.std.proofs.Common.{◌≡◌, ℕ, ◌+◌, ◌<◌, Bool, true, cond, List, length, drop, get_or, Some, refl, sym, ap}
use Rattle.std.proofs.Common.{subst, ◌∙◌}
use Rattle.std.specs.List.{slice_get}
use Rattle.std.specs.Str.{bytes_eq}
use Rattle.std.proofs.lemmas.List.{at_drop_more}
use Rattle.std.proofs.lemmas.Option.{slice_get_read}
use Rattle.vir_outside.specs.Shelf.{Files, content_of}
use Rattle.vir_outside.specs.Memory.{rest_at}
use Rattle.vir_outside.proofs.stored.place_of.Goals as goal

-- The first file of a name stands at a place before which none has the name.
found_here : (files : Files) (name : List ℕ) (place : ℕ) (file : List ℕ × List ℕ) → place < length files
    → file ≡ get_or files place file → bytes_eq file.0 name ≡ true
    → content_of files name ≡ content_of (drop place files) name
    → rest_at files (Some place) 0 ≡ content_of files name
found_here files name place file within here same so_far =
    let at_place : slice_get files place ≡ Some file = slice_get_read files (length files) place file refl within here
    in
    let behind = content_of (drop (place + 1) files) name in
    let found_at = λ (f : List ℕ × List ℕ). cond (bytes_eq f.0 name) (Some f.1) behind in
    let step : content_of (drop place files) name ≡ found_at (get_or files place file) =
    at_drop_more (λ fs. content_of fs name) files place file within in
    let found : found_at (get_or files place file) ≡ Some file.1 =
    subst (λ (f : List ℕ × List ℕ). found_at f ≡ Some file.1) here (ap (λ (b : Bool). cond b (Some file.1) behind) same)
    in
    rw at_place (sym (so_far ∙ step ∙ found))

pub returns-then-is_named-clause-found : goal.returns-then-is_named-clause-found
returns-then-is_named-clause-found c =
    found_here c.args.files.now c.args.name.now c.loop-place.place c.index-files-place.result c.loop-place-test.true
    c.index-files-place.is (sym c.is_named.ensures ∙ c.if-is_named.true) c.loop-place.invariant
