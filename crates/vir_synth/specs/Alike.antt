-- Terms that no composition and no wanted property tells apart, and lists that are alike in what is found first.
-- (The program's promises don't stand on this file.)
use Rattle.std.specs.Prelude.{◌≡◌, ℕ, ◌<◌, Bool, List, None, find}
use Rattle.vir_term.specs.Tree.{Tree, rev, seq, par, loop, exactly}
use Rattle.vir_derive.specs.Heads.{head}
use Rattle.vir_derive.specs.Within.{AreAlike}

-- Two terms have one signature: the same properties with these numbers are derivable of both, and their heads are the
-- same.
pub record HaveOneSignature (numbers : ℕ → Bool) (t u : Tree) : Type 0 where
  pub alike : AreAlike numbers t u
  pub head_same : head t ≡ head u

-- Signatures compose: which signature a composition has follows from those of its parts.
pub record Composes (Same : Tree → Tree → Type 0) : Type 0 where
  pub itself : (t : Tree) → Same t t
  pub revised : (t u : Tree) → Same t u → Same (rev t) (rev u)
  pub looped : (t u : Tree) → Same t u → Same (loop (exactly 1) t) (loop (exactly 1) u)
  pub sequenced : (t t' u u' : Tree) → Same t t' → Same u u' → Same (seq t u) (seq t' u')
  pub paralleled : (t t' u u' : Tree) → Same t t' → Same u u' → Same (par t u) (par t' u')

-- A test asks only for the signature.
abbrev pub Respects : (Tree → Tree → Type 0) → (Tree → Bool) → Type 0
Respects Same p = (t u : Tree) → Same t u → p t ≡ p u

-- Where a test passes no term before, it finds first in the offered terms what it finds first in the kept ones.
abbrev pub Serves : (Tree → Tree → Type 0) → List Tree → List Tree → List Tree → Type 0
Serves Same before offered kept = (p : Tree → Bool) → Respects Same p → find p before ≡ None → find p offered
    ≡ find p kept

-- A test finds nothing in the terms of each size below n.
abbrev pub FindsNone : (Tree → Bool) → (ℕ → List Tree) → ℕ → Type 0
FindsNone p at n = (i : ℕ) → i < n → find p (at i) ≡ None

-- Where a test that asks for signatures alone finds nothing in smaller terms, it finds first in the terms of this size
-- what it finds first in the kept ones.
abbrev pub IsServed : (Tree → Tree → Type 0) → (ℕ → List Tree) → (ℕ → List Tree) → ℕ → Type 0
IsServed Same at kept n = (p : Tree → Bool) → Respects Same p → FindsNone p at n → find p (at n) ≡ find p (kept n)
