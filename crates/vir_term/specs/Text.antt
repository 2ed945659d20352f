-- The text of a term in the rule language.
use Rattle.std.specs.Prelude.{ℕ, List, [], ◌∷◌, ◌++◌, codes, decimal}
use Rattle.vir_term.specs.declared.score.Score.{Score}
use Rattle.vir_term.specs.declared.score.Score.TheVariants as score
use Rattle.vir_term.specs.declared.leaf.Leaf.{Leaf}
use Rattle.vir_term.specs.declared.leaf.Leaf.TheVariants.{Elect, Defer, PassFirst, DropFirst, Plurality, Max, Min}
use Rattle.vir_term.specs.declared.leaf.Leaf.TheVariants.{Below, Upto}
use Rattle.vir_term.specs.Tree.{Tree, leaf, rev, seq, par, loop, End, exactly, at_most, number_of}

-- the word of a score
abbrev pub score_text : Score → List ℕ
score_text score.Plurality = codes "plurality"
score_text score.Borda = codes "borda"
score_text score.Copeland = codes "copeland"
score_text score.Minimax = codes "minimax"
score_text score.Condorcet = codes "condorcet"

-- further members of a fixed order, each after a comma
abbrev pub more_text : List ℕ → List ℕ
more_text [] = []
more_text (x ∷ rest) = codes "," ++ decimal x ++ more_text rest

-- a fixed order as a second argument; the empty one is left out
abbrev pub order_text : List ℕ → List ℕ
order_text [] = []
order_text (x ∷ rest) = codes ",[" ++ decimal x ++ more_text rest ++ codes "]"

-- a module
abbrev pub leaf_text : Leaf → List ℕ
leaf_text Elect = codes "elect"
leaf_text Defer = codes "defer"
leaf_text (PassFirst k order) = codes "pass(" ++ decimal k ++ order_text order ++ codes ")"
leaf_text (DropFirst k order) = codes "drop(" ++ decimal k ++ order_text order ++ codes ")"
leaf_text Plurality = codes "plurality"
leaf_text (Max s) = codes "max(" ++ score_text s ++ codes ")"
leaf_text (Min s) = codes "min(" ++ score_text s ++ codes ")"
leaf_text (Below s) = codes "below(" ++ score_text s ++ codes ")"
leaf_text (Upto s) = codes "upto(" ++ score_text s ++ codes ")"

-- the word of a loop, by where it ends
abbrev pub loop_word : End → List ℕ
loop_word (exactly k) = codes "loop("
loop_word (at_most k) = codes "until("

-- a term, without spaces
abbrev pub term_text : Tree → List ℕ
term_text (leaf l) = leaf_text l
term_text (rev part) = codes "rev(" ++ term_text part ++ codes ")"
term_text (seq first second) = codes "seq(" ++ term_text first ++ codes "," ++ term_text second ++ codes ")"
term_text (par first second) = codes "par(" ++ term_text first ++ codes "," ++ term_text second ++ codes ")"
term_text (loop k body) = loop_word k ++ decimal (number_of k) ++ codes "," ++ term_text body ++ codes ")"
