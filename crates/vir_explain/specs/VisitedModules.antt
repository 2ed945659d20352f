-- The modules that are visited.
-- (The program's promises don't stand on this file.)
use Rattle.std.specs.Prelude.{List, [], ◌∷◌, ◌++◌}
use Rattle.vir_term.specs.declared.leaf.Leaf.{Leaf}
use Rattle.vir_term.specs.Tree.{Tree, leaf, rev, seq, par, loop}
use Rattle.vir_explain.specs.Visits.{Visit}

-- a term that is a module, as a list
abbrev pub module_in : Tree → List Leaf
module_in (leaf l) = l ∷ []
module_in (rev part) = []
module_in (seq first second) = []
module_in (par first second) = []
module_in (loop k body) = []

-- the modules of visits, in their order
abbrev pub modules_of : List Visit → List Leaf
modules_of [] = []
modules_of (v ∷ rest) = module_in v.term ++ modules_of rest
