-- The meaning of a term.
use Rattle.vir_term.specs.Tree.{Tree, leaf, rev, seq, par, loop}
use Rattle.vir_mean.specs.Modules.{Meaning, leaf_mean}
use Rattle.vir_mean.specs.Compositions.{rev_of, seq_of, par_of, loop_of}

-- the meaning of a term, by recursion on what it is composed of
abbrev pub mean : Tree → Meaning
mean (leaf l) = leaf_mean l
mean (rev part) = rev_of (mean part)
mean (seq first second) = seq_of (mean first) (mean second)
mean (par first second) = par_of (mean first) (mean second)
mean (loop k body) = loop_of k (mean body)
