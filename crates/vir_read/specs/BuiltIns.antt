-- The words that are built in.
use Rattle.std.specs.Prelude.{ℕ, Bool, true, false, ◌||◌, ◌==◌, List, Option, Some, None, if◌then◌else◌, codes}
use Rattle.std.specs.Str.{bytes_eq}
use Rattle.vir_term.specs.declared.score.Score.{Score}
use Rattle.vir_term.specs.declared.score.Score.TheVariants as score
use Rattle.vir_term.specs.Tree.{End, exactly, at_most}
use Rattle.vir_read.specs.declared.built_in.BuiltIn.{BuiltIn}
use Rattle.vir_read.specs.declared.built_in.BuiltIn.TheVariants as word
use Rattle.vir_read.specs.declared.built_in.Plain.TheVariants as plain
use Rattle.vir_read.specs.declared.built_in.Ordered.TheVariants as ordered
use Rattle.vir_read.specs.declared.built_in.Eliminator.TheVariants as eliminator
use Rattle.vir_read.specs.declared.built_in.Pair.TheVariants as pair
use Rattle.vir_read.specs.declared.built_in.LoopEnd.TheVariants as loop_end

-- the score that a word names
abbrev pub score_named : List ℕ → Option Score
score_named name =
    if bytes_eq name (codes "plurality") then Some score.Plurality
    else (if bytes_eq name (codes "borda") then Some score.Borda
    else (if bytes_eq name (codes "copeland") then Some score.Copeland
    else (if bytes_eq name (codes "minimax") then Some score.Minimax
    else (if bytes_eq name (codes "condorcet") then Some score.Condorcet
    else None))))

abbrev pub only_score : Option Score → Option BuiltIn
only_score (Some s) = Some (word.OnlyScore s)
only_score None = None

abbrev pub composition_named : List ℕ → Option BuiltIn
composition_named name =
    if bytes_eq name (codes "rev") then Some word.Rev
    else (if bytes_eq name (codes "seq") then Some (word.Pair pair.Seq)
    else (if bytes_eq name (codes "par") then Some (word.Pair pair.Par)
    else (if bytes_eq name (codes "loop") then Some (word.Loop loop_end.Exactly)
    else (if bytes_eq name (codes "until") then Some (word.Loop loop_end.AtMost)
    else only_score (score_named name)))))

abbrev pub module_named : List ℕ → Option BuiltIn
module_named name =
    if bytes_eq name (codes "pass") then Some (word.Ordered ordered.Pass)
    else (if bytes_eq name (codes "drop") then Some (word.Ordered ordered.Drop)
    else (if bytes_eq name (codes "max") then Some (word.Eliminator eliminator.Max)
    else (if bytes_eq name (codes "min") then Some (word.Eliminator eliminator.Min)
    else (if bytes_eq name (codes "below") then Some (word.Eliminator eliminator.Below)
    else (if bytes_eq name (codes "upto") then Some (word.Eliminator eliminator.Upto)
    else composition_named name)))))

-- what a word means, where it is built in
abbrev pub built_in_named : List ℕ → Option BuiltIn
built_in_named name =
    if bytes_eq name (codes "elect") then Some (word.Plain plain.Elect)
    else (if bytes_eq name (codes "defer") then Some (word.Plain plain.Defer)
    else (if bytes_eq name (codes "plurality") then Some (word.Plain plain.Plurality)
    else module_named name))

-- whether it may have so many arguments
abbrev pub takes : BuiltIn → ℕ → Bool
takes (word.Plain _) n = n == 0
takes (word.Ordered _) n = n == 1 || n == 2
takes (word.Eliminator _) n = n == 1
takes word.Rev n = n == 1
takes (word.Pair _) n = n == 2
takes (word.Loop _) n = n == 2
takes (word.OnlyScore _) n = false

-- whether it is a score and no term
abbrev pub is_only_score : BuiltIn → Bool
is_only_score (word.OnlyScore _) = true
is_only_score _ = false

-- the word of a loop, by where it ends
abbrev pub loop_name : End → List ℕ
loop_name (exactly k) = codes "loop"
loop_name (at_most k) = codes "until"
