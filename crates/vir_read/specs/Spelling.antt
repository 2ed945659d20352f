-- Which trees of a text spell a term, word for word.
-- (The program's promises don't stand on this file.)
use Rattle.std.specs.Prelude.{ℕ, ◌≡◌, List, [], ◌∷◌, ⊤, codes, decimal}
use Rattle.vir_term.specs.declared.score.Score.{Score}
use Rattle.vir_term.specs.declared.leaf.Leaf.{Leaf}
use Rattle.vir_term.specs.declared.leaf.Leaf.TheVariants.{Elect, Defer, PassFirst, DropFirst, Plurality, Max, Min}
use Rattle.vir_term.specs.declared.leaf.Leaf.TheVariants.{Below, Upto}
use Rattle.vir_term.specs.Text.{score_text}
use Rattle.vir_term.specs.Tree.{Tree, leaf, rev, seq, par, loop, number_of}
use Rattle.vir_read.specs.BuiltIns.{loop_name}
use Rattle.vir_read.specs.RawTrees.{RawTree, RawTrees, word, number, bracket, none, more}
use Rattle.vir_read.specs.Arguments.{span}

-- a tree that is this word, with these trees in its parentheses
pub record IsWord (text name : List ℕ) (parts : RawTrees) (raw : RawTree) : Type 0 where
  pub start : ℕ
  pub end : ℕ
  pub shape : raw ≡ word start end parts
  pub written : span text start end ≡ name

-- a tree that is this number in decimals
pub record IsNumber (text : List ℕ) (n : ℕ) (raw : RawTree) : Type 0 where
  pub start : ℕ
  pub end : ℕ
  pub shape : raw ≡ number start end
  pub written : span text start end ≡ decimal n

-- trees that are these numbers
abbrev pub AreNumbers : List ℕ → List ℕ → RawTrees → Type 0
AreNumbers text [] none = ⊤
AreNumbers text (n ∷ rest) (more raw others) = IsNumber text n raw × AreNumbers text rest others
AreNumbers text [] (more _ _) = ⊥
AreNumbers text (_ ∷ _) none = ⊥

-- a tree that is a list of these numbers in brackets
pub record IsBracket (text order : List ℕ) (raw : RawTree) : Type 0 where
  pub start : ℕ
  pub members : RawTrees
  pub shape : raw ≡ bracket start members
  pub written : AreNumbers text order members

-- a word with one tree in its parentheses, which is such
abbrev pub IsOf : List ℕ → List ℕ → (RawTree → Type 0) → RawTree → Type 0
IsOf text name First raw = (first : RawTree) × IsWord text name (more first none) raw × First first

-- a word with two trees in its parentheses, the first one such and the second one such
abbrev pub IsOfTwo : List ℕ → List ℕ → (RawTree → Type 0) → (RawTree → Type 0) → RawTree → Type 0
IsOfTwo text name First Second raw =
    (first second : RawTree) × IsWord text name (more first (more second none)) raw × First first × Second second

-- a word with a number, and a fixed order if it isn't empty
abbrev pub SpellsOrdered : List ℕ → List ℕ → ℕ → List ℕ → RawTree → Type 0
SpellsOrdered text name k [] raw = IsOf text name (IsNumber text k) raw
SpellsOrdered text name k (x ∷ rest) raw = IsOfTwo text name (IsNumber text k) (IsBracket text (x ∷ rest)) raw

-- a module's word, with its score
abbrev pub SpellsEliminator : List ℕ → List ℕ → Score → RawTree → Type 0
SpellsEliminator text name s raw = IsOf text name (IsWord text (score_text s) none) raw

-- a module
abbrev pub SpellsLeaf : List ℕ → Leaf → RawTree → Type 0
SpellsLeaf text Elect raw = IsWord text (codes "elect") none raw
SpellsLeaf text Defer raw = IsWord text (codes "defer") none raw
SpellsLeaf text Plurality raw = IsWord text (codes "plurality") none raw
SpellsLeaf text (PassFirst k order) raw = SpellsOrdered text (codes "pass") k order raw
SpellsLeaf text (DropFirst k order) raw = SpellsOrdered text (codes "drop") k order raw
SpellsLeaf text (Max s) raw = SpellsEliminator text (codes "max") s raw
SpellsLeaf text (Min s) raw = SpellsEliminator text (codes "min") s raw
SpellsLeaf text (Below s) raw = SpellsEliminator text (codes "below") s raw
SpellsLeaf text (Upto s) raw = SpellsEliminator text (codes "upto") s raw

-- a term, with no defined name in it
abbrev pub Spells : List ℕ → Tree → RawTree → Type 0
Spells text (leaf l) raw = SpellsLeaf text l raw
Spells text (rev part) raw = IsOf text (codes "rev") (Spells text part) raw
Spells text (seq first second) raw = IsOfTwo text (codes "seq") (Spells text first) (Spells text second) raw
Spells text (par first second) raw = IsOfTwo text (codes "par") (Spells text first) (Spells text second) raw
Spells text (loop k body) raw = IsOfTwo text (loop_name k) (IsNumber text (number_of k)) (Spells text body) raw
