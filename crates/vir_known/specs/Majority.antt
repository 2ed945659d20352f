-- Sequential majority comparison.
-- (The program's promises don't stand on this file.)
use Rattle.std.specs.Prelude.{ℕ, List}
use Rattle.vir_term.specs.declared.leaf.Leaf.TheVariants.{Elect, PassFirst, DropFirst, Plurality}
use Rattle.vir_term.specs.Tree.{Tree, leaf, rev, seq, par, loop, exactly}

-- of those who meet the one stays whom most voters put first, or else the first of these on the agenda
abbrev pub decided : List ℕ → Tree
decided agenda = seq (rev (leaf Plurality)) (leaf (PassFirst 1 agenda))

-- the first two on the agenda meet
abbrev pub duel : List ℕ → Tree
duel agenda = seq (leaf (PassFirst 2 agenda)) (decided agenda)

-- one round: the first two meet, and all others wait
abbrev pub round : List ℕ → Tree
round agenda = par (duel agenda) (leaf (DropFirst 2 agenda))

-- sequential majority comparison, by any agenda
abbrev pub sequential_majority_by : List ℕ → Tree
sequential_majority_by agenda = seq (loop (exactly 1) (round agenda)) (leaf Elect)
