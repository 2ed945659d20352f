-- The equations between terms, as data: for all terms m, n and t and each number k, the left side has the meaning of
-- the right side.
use Rattle.std.specs.Prelude.{◌≡◌, ◌<◌, ◌≤◌, ℕ, List, [], ◌∷◌}
use Rattle.vir_term.specs.declared.leaf.Leaf.TheVariants.{Elect, Defer, Plurality}
use Rattle.vir_term.specs.Tree.{Tree, leaf, rev, seq, par, loop, exactly, at_most, size, nesting}
use Rattle.vir_simplify.specs.declared.equation.Equation.{Equation}
use Rattle.vir_simplify.specs.declared.equation.Equation.TheVariants.{
  SeqDeferLeft,
  SeqDeferRight,
  SeqElect,
  SeqPlurality,
  SeqNobody,
  RevElect,
  RevRev,
  ParSame,
  ParElectLeft,
  ParElectRight,
  ParNobodyLeft,
  ParNobodyRight,
  LoopDefer,
  LoopLoop,
  UntilDefer,
  UntilUntil,
  SeqAssocRight,
  SeqAssocLeft,
}

infix 10 ◌⇒◌
-- the modules that equations name
abbrev pub elect : Tree
elect = leaf Elect

abbrev pub defer : Tree
defer = leaf Defer

abbrev pub plurality : Tree
plurality = leaf Plurality

-- a term that rejects all alternatives
abbrev pub nobody : Tree
nobody = rev defer

-- the left side and the right side of an equation
pub record Sides : Type 0 where
  pub left : Tree
  pub right : Tree

abbrev pub ◌⇒◌ : Tree → Tree → Sides
l ⇒ r = record { left = l; right = r }

-- the two sides of each equation
abbrev pub sides : Equation → Tree → Tree → Tree → ℕ → Sides
sides SeqDeferLeft m n t k = seq defer m ⇒ m
sides SeqDeferRight m n t k = seq m defer ⇒ m
sides SeqElect m n t k = seq elect m ⇒ elect
sides SeqPlurality m n t k = seq plurality m ⇒ plurality
sides SeqNobody m n t k = seq nobody m ⇒ nobody
sides RevElect m n t k = rev elect ⇒ defer
sides RevRev m n t k = rev (rev m) ⇒ nobody
sides ParSame m n t k = par m m ⇒ m
sides ParElectLeft m n t k = par elect m ⇒ elect
sides ParElectRight m n t k = par m elect ⇒ elect
sides ParNobodyLeft m n t k = par nobody m ⇒ m
sides ParNobodyRight m n t k = par m nobody ⇒ m
sides LoopDefer m n t k = loop (exactly k) defer ⇒ defer
sides LoopLoop m n t k = loop (exactly k) (loop (exactly k) m) ⇒ loop (exactly k) m
sides UntilDefer m n t k = loop (at_most k) defer ⇒ defer
sides UntilUntil m n t k = loop (at_most k) (loop (at_most k) m) ⇒ loop (at_most k) m
sides SeqAssocRight m n t k = seq (seq m n) t ⇒ seq m (seq n t)
sides SeqAssocLeft m n t k = seq m (seq n t) ⇒ seq (seq m n) t

-- By an equation, one tree becomes another: for some terms and some number they are its left and its right side.
pub record Rewrites (e : Equation) (one other : Tree) : Type 0 where
  pub m : Tree
  pub n : Tree
  pub t : Tree
  pub k : ℕ
  pub is_left : one ≡ (sides e m n t k).left
  pub is_right : other ≡ (sides e m n t k).right

-- An equation fits a tree: by it, the tree becomes some other.
abbrev pub Fits : Equation → Tree → Type 0
Fits e one = (other : Tree) × Rewrites e one other

-- An equation makes terms smaller: whatever the letters stand for, its right side is smaller than its left side, and
-- nested no deeper.
abbrev pub Shrinks : Equation → Type 0
Shrinks e = (m n t : Tree) (k : ℕ) → (size (sides e m n t k).right < size (sides e m n t k).left)
    × (nesting (sides e m n t k).right ≤ nesting (sides e m n t k).left)

-- the equations that make a term smaller, in their order: all but the last two
abbrev pub shrinking : List Equation
shrinking =
    SeqDeferLeft ∷ SeqDeferRight ∷ SeqElect ∷ SeqPlurality ∷ SeqNobody ∷ RevElect ∷ RevRev ∷ ParSame
    ∷ ParElectLeft ∷ ParElectRight ∷ ParNobodyLeft ∷ ParNobodyRight ∷ LoopDefer ∷ LoopLoop ∷ UntilDefer
    ∷ UntilUntil ∷ []
