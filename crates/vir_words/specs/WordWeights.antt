-- Weights and eliminators of positional scores as words of the command line.
use Rattle.std.specs.Prelude.{ℕ, List, Some, None, codes, if◌then◌else◌}
use Rattle.std.specs.Str.{bytes_eq}
use Rattle.std.specs.declared.option.Option.{Option}
use Rattle.vir_mean.specs.declared.elimination.Elimination.{Elimination}
use Rattle.vir_mean.specs.declared.elimination.Elimination.TheVariants.{Max, Min, Below, Upto}
use Rattle.vir_positional.specs.WeightLists.{are_weights}
use Rattle.vir_words.specs.WordLists.{comma, list_of}
use Rattle.vir_words.specs.WordNumbers.{plain_number}

-- these numbers, where they are weights
abbrev pub if_weights : Option (List ℕ) → Option (List ℕ)
if_weights (Some list) = if are_weights list then Some list else None
if_weights None = None

-- 1 to 1,024 weights that never rise, in digits without leading zeros, with commas between them
unfoldable pub weights_of : List ℕ → Option (List ℕ)
weights_of word = if_weights (list_of comma 1024 (plain_number 1000000) word)

-- the eliminator of this name
abbrev pub elimination_of : List ℕ → Option Elimination
elimination_of word =
    if bytes_eq word (codes "max") then Some Max
    else (if bytes_eq word (codes "min") then Some Min
    else (if bytes_eq word (codes "below") then Some Below
    else (if bytes_eq word (codes "upto") then Some Upto else None)))
