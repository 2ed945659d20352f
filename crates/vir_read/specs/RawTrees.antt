-- The trees of a text, before it is known what they stand for.
use Rattle.std.specs.Prelude.{ℕ, List, [], ◌∷◌}
use Rattle.vir_read.specs.declared.raw.RawList.{RawList, RawList-F, fold-RawList}
use Rattle.vir_read.specs.declared.raw.Raw.{Raw, Raw-F, fold-Raw}
use Rattle.vir_read.specs.declared.raw.Raw.TheOpen as open_raw

mutual
  -- a word with the trees in its parentheses, a number, or a list in brackets
  pub data RawTree : Type 0 where
    word : ℕ → ℕ → RawTrees → RawTree
    number : ℕ → ℕ → RawTree
    bracket : ℕ → RawTrees → RawTree

  -- a list of trees
  pub data RawTrees : Type 0 where
    none : RawTrees
    more : RawTree → RawTrees → RawTrees

-- a list of trees, as such
abbrev pub gathered : List RawTree → RawTrees
gathered [] = none
gathered (t ∷ rest) = more t (gathered rest)

-- and back
abbrev pub list_of : RawTrees → List RawTree
list_of none = []
list_of (more t rest) = t ∷ list_of rest

abbrev pub list_step : RawList-F RawTree (List RawTree) → List RawTree
list_step l = l.trees.items

abbrev pub raw_step : Raw-F RawTree (List RawTree) → RawTree
raw_step (open_raw.Word start end parts) = word start end (gathered parts)
raw_step (open_raw.Number start end) = number start end
raw_step (open_raw.List start members) = bracket start (gathered members)

-- what a `Raw` is, without the places of its lists in memory
abbrev pub raw_tree : Raw → RawTree
raw_tree raw = fold-Raw RawTree (List RawTree) raw_step list_step raw

-- what a `RawList` lists
abbrev pub listed : RawList → List RawTree
listed l = fold-RawList RawTree (List RawTree) raw_step list_step l
