-- The depth of a term's code.
-- (The program's promises don't stand on this file.)
use Rattle.std.specs.Prelude.{ℕ, ◌+◌, max}
use Rattle.vir_term.specs.Tree.{Tree, leaf, rev, seq, par, loop}

-- how many splits are on the stack at most; nor are there ever more domains on theirs
abbrev pub depth_of : Tree → ℕ
depth_of (leaf l) = 1
depth_of (rev part) = depth_of part
depth_of (seq first second) = max (depth_of first) (depth_of second + 1)
depth_of (par first second) = max (depth_of first) (depth_of second + 1)
depth_of (loop k body) = depth_of body + 1
