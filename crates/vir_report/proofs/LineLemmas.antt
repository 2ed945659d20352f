-- Lines of a list, written one after another.
use Rattle.std.proofs.Common.{◌≡◌, ℕ, ◌+◌, List, [], ◌∷◌, ◌++◌, Some, take, slice_get, sym, ap, ◌∙◌}
use Rattle.std.specs.List.{flat_map}
use Rattle.std.proofs.lemmas.List.{flat_map_more, take_more}
use Rattle.std.proofs.lemmas.Option.{get_or_from_slice_get, slice_get_within}

-- with the line of the next one written, those of the first and of it are
pub lines_next : {X : Type 0} (line : X → List ℕ) (xs : List X) (i : ℕ) (x : X) (start before after : List ℕ) → Some x
    ≡ slice_get xs i → before ≡ start ++ flat_map line (take i xs) → after ≡ before ++ line x
    → after ≡ start ++ flat_map line (take (i + 1) xs)
lines_next line xs i x start before after is so_far one =
    let more : take (i + 1) xs ≡ take i xs ++ x ∷ [] =
    take_more xs i x (slice_get_within xs i x (sym is)) ∙ ap (λ y. take i xs ++ y ∷ [])
    (get_or_from_slice_get xs i x x (sym is)) in
    one ∙ ap (λ ys. ys ++ line x) so_far ∙ flat_map_more line start (take i xs) x ∙ ap (λ ys. start ++ flat_map line ys)
    (sym more)
