-- Which modules the rows of the table are about.
use Rattle.std.specs.Prelude.{Bool, true, false}
use Rattle.vir_term.specs.declared.score.Score.{Score}
use Rattle.vir_term.specs.declared.score.Score.TheVariants.{Plurality as First, Copeland, Minimax, Condorcet}
use Rattle.vir_term.specs.declared.leaf.LeafKind.{LeafKind}
use Rattle.vir_term.specs.declared.leaf.LeafKind.TheVariants.{Elect, Defer, PassFirst, DropFirst, Plurality, Max, Min}
use Rattle.vir_term.specs.declared.leaf.LeafKind.TheVariants.{Below, Upto}
use Rattle.vir_rules.specs.declared.row.Family.{Family}
use Rattle.vir_rules.specs.declared.row.Family.TheVariants.{ElectingNobody, ElectingAll, ElectingSome, KeepingSome}
use Rattle.vir_rules.specs.declared.row.Family.TheVariants.{Dropping, Unscored, Leading, Eliminating, Winning}
use Rattle.vir_rules.specs.declared.row.Family.TheVariants.{Progressing, Deferring, Unordered}

-- whether a module eliminates by a score
abbrev pub is_eliminator : LeafKind → Bool
is_eliminator (Max s) = true
is_eliminator (Min s) = true
is_eliminator (Below s) = true
is_eliminator (Upto s) = true
is_eliminator _ = false

-- the scores of which `max` leaves a lifted leader among the leaders, and all others as they are or out
abbrev pub is_leading : Score → Bool
is_leading Minimax = false
is_leading _ = true

-- the scores in which a Condorcet winner alone is greatest
abbrev pub is_winning : Score → Bool
is_winning Copeland = true
is_winning Minimax = true
is_winning Condorcet = true
is_winning _ = false

-- the scores in which a Condorcet winner is above the average
abbrev pub is_above_average : Score → Bool
is_above_average First = false
is_above_average _ = true

-- whether a module is of a family
abbrev pub is_of : Family → LeafKind → Bool
is_of ElectingNobody Elect = false
is_of ElectingNobody Plurality = false
is_of ElectingNobody _ = true
is_of ElectingAll Elect = true
is_of ElectingAll _ = false
is_of ElectingSome Elect = true
is_of ElectingSome Plurality = true
is_of ElectingSome _ = false
is_of KeepingSome Defer = true
is_of KeepingSome PassFirst = true
is_of KeepingSome kind = is_eliminator kind
is_of Dropping DropFirst = true
is_of Dropping _ = false
is_of Unscored Elect = true
is_of Unscored Defer = true
is_of Unscored PassFirst = true
is_of Unscored DropFirst = true
is_of Unscored Plurality = true
is_of Unscored _ = false
is_of Leading (Max s) = is_leading s
is_of Leading _ = false
is_of Eliminating kind = is_eliminator kind
is_of Winning (Max s) = is_winning s
is_of Winning _ = false
is_of Progressing (Min s) = is_above_average s
is_of Progressing (Below s) = is_above_average s
is_of Progressing (Upto s) = is_above_average s
is_of Progressing _ = false
is_of Deferring Defer = true
is_of Deferring _ = false
is_of Unordered PassFirst = false
is_of Unordered DropFirst = false
is_of Unordered _ = true
