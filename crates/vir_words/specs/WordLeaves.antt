-- Modules as words of the command line, exactly as they are printed.
use Rattle.std.specs.Prelude.{ℕ, List, [], ◌∷◌, ◌++◌, map, codes, Some, None, Ok, Err, if◌then◌else◌}
use Rattle.std.specs.Str.{bytes_eq}
use Rattle.std.specs.declared.option.Option.{Option}
use Rattle.vir_term.specs.declared.leaf.Leaf.{Leaf}
use Rattle.vir_term.specs.declared.leaf.Leaf.TheVariants.{Elect, Defer, PassFirst, DropFirst, Plurality, Max, Min}
use Rattle.vir_term.specs.declared.leaf.Leaf.TheVariants.{Below, Upto}
use Rattle.vir_term.specs.declared.score.Score.{Score}
use Rattle.vir_term.specs.declared.score.Score.TheVariants as score
use Rattle.vir_term.specs.Text.{leaf_text}
use Rattle.vir_term.specs.Tree.{Tree, leaf, rev, seq, par, loop}
use Rattle.vir_read.specs.Faults.{OrFault}
use Rattle.vir_book.specs.Books.{rule_of}
use Rattle.vir_words.specs.WordLists.{semicolon, list_of}

-- the rule file that defines a rule by a word
abbrev pub rule_file : List ℕ → List ℕ
rule_file word = codes "r=" ++ (word ++ codes ";")

-- a rule that is one module, where that is printed so
abbrev pub printed_leaf : List ℕ → Tree → Option Leaf
printed_leaf word (leaf l) = if bytes_eq (leaf_text l) word then Some l else None
printed_leaf word (rev part) = None
printed_leaf word (seq first second) = None
printed_leaf word (par first second) = None
printed_leaf word (loop end body) = None

-- what is read, where it is such a module
abbrev pub leaf_read : List ℕ → OrFault Tree → Option Leaf
leaf_read word (Ok t) = printed_leaf word t
leaf_read word (Err fault) = None

-- the module that is printed so: the one that a rule file says by that word
unfoldable pub leaf_of : List ℕ → Option Leaf
leaf_of word = leaf_read word (rule_of (rule_file word))

-- 1 to 64 modules with semicolons between them
unfoldable pub leaves_of : List ℕ → Option (List Leaf)
leaves_of word = list_of semicolon 64 leaf_of word

-- ---- the modules that are taken where none are named

-- all scores, in their order
abbrev pub scores : List Score
scores = score.Plurality ∷ score.Borda ∷ score.Copeland ∷ score.Minimax ∷ score.Condorcet ∷ []

-- the modules without a score
abbrev pub plain_leaves : List Leaf
plain_leaves =
    Elect ∷ Defer ∷ PassFirst 1 [] ∷ PassFirst 2 [] ∷ DropFirst 1 [] ∷ DropFirst 2 [] ∷ Plurality ∷ []

-- 27 modules: those without a score, and each eliminator by each score
unfoldable pub default_leaves : List Leaf
default_leaves = plain_leaves ++ map Max scores ++ map Min scores ++ map Below scores ++ map Upto scores
