-- The places of a term: its subterms, numbered in preorder from 0.
use Rattle.std.specs.Prelude.{ℕ, zero, suc, ◌+◌, ◌-◌, List, [], ◌∷◌, ◌++◌, Option, slice_get, nat_lt, if◌then◌else◌}
use Rattle.vir_term.specs.Tree.{Tree, leaf, rev, seq, par, loop, size}

-- the subterms of a term in preorder: the whole before its parts, and the first part before the second
abbrev pub subterms : Tree → List Tree
subterms (leaf l) = leaf l ∷ []
subterms (rev part) = rev part ∷ subterms part
subterms (seq first second) = seq first second ∷ (subterms first ++ subterms second)
subterms (par first second) = par first second ∷ (subterms first ++ subterms second)
subterms (loop k body) = loop k body ∷ subterms body

-- the subterm at a place, if there is such a place
abbrev pub subterm_at : Tree → ℕ → Option Tree
subterm_at t place = slice_get (subterms t) place

-- the term with another one in place of the subterm at a place; as it is where there is no such place
abbrev pub replaced : Tree → ℕ → Tree → Tree
replaced t zero new = new
replaced (leaf l) (suc i) new = leaf l
replaced (rev part) (suc i) new = rev (replaced part i new)
replaced (seq first second) (suc i) new =
    if nat_lt i (size first) then seq (replaced first i new) second
    else seq first (replaced second (i - size first) new)
replaced (par first second) (suc i) new =
    if nat_lt i (size first) then par (replaced first i new) second
    else par first (replaced second (i - size first) new)
replaced (loop k body) (suc i) new = loop k (replaced body i new)

-- a place, and what stands there
pub record Place : Type 0 where
  pub number : ℕ
  pub subterm : Tree

-- The places of a term in postorder: those of its parts before its own, and of the first part before the second. Its
-- own is numbered n, and those within it as in preorder from there on.
abbrev pub postorder : ℕ → Tree → List Place
postorder n (leaf l) = record { number = n; subterm = leaf l } ∷ []
postorder n (rev part) = postorder (n + 1) part ++ record { number = n; subterm = rev part } ∷ []
postorder n (seq first second) =
    postorder (n + 1) first ++ postorder (n + 1 + size first) second
    ++ record { number = n; subterm = seq first second } ∷ []
postorder n (par first second) =
    postorder (n + 1) first ++ postorder (n + 1 + size first) second
    ++ record { number = n; subterm = par first second } ∷ []
postorder n (loop k body) = postorder (n + 1) body ++ record { number = n; subterm = loop k body } ∷ []

-- all places of a term in postorder
abbrev pub places : Tree → List Place
places t = postorder 0 t
