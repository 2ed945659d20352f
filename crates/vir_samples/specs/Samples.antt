-- What the votes and the texts of tables stand for.
-- (The program's promises don't stand on this file.)
use Rattle.std.specs.Prelude.{ℕ, List, ◌∷◌, ◌++◌, [], Ok}
use Rattle.vir_term.specs.declared.leaf.Leaf.{Leaf}
use Rattle.vir_term.specs.Tree.{Tree, leaf}
use Rattle.vir_read.specs.Faults.{OrFault}
use Rattle.vir_book.specs.Books.{rule_of}
use Rattle.vir_profile.specs.declared.ballot.Entry.{Entry}

-- the line of a vote, which is a weight and an order
abbrev pub line_of : ℕ × List ℕ → Entry
line_of (weight, order) = record { weight = weight; order = order }

-- the rule file `r=TEXT;`
abbrev pub rule_file : List ℕ → List ℕ
rule_file text = 114 ∷ 61 ∷ (text ++ 59 ∷ [])

-- the rule, in a list, where it is a module
abbrev pub in_list : OrFault Tree → List Leaf
in_list (Ok (leaf l)) = l ∷ []
in_list _ = []

-- the module of this text, in a list, if it is that of one
abbrev pub module_of : List ℕ → List Leaf
module_of text = in_list (rule_of (rule_file text))
