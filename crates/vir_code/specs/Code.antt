-- The code of a term.
use Rattle.std.specs.Prelude.{◌≡◌, ℕ, ◌+◌, List, [], ◌∷◌, ◌++◌}
use Rattle.vir_term.specs.Tree.{Tree, leaf, rev, seq, par, loop, End, exactly, at_most}
use Rattle.vir_code.specs.declared.instr.Instr.{Instr}
use Rattle.vir_code.specs.declared.instr.Instr.TheVariants.{Call, KeepDomain, FetchDomain, JoinSeq, JoinMax, Revise}
use Rattle.vir_code.specs.declared.instr.Instr.TheVariants.{StartLoop, LoopTest, UntilTest, LoopBack, EndLoop}

-- the test of a loop, by where it ends
abbrev pub test_of : End → ℕ → Instr
test_of (exactly k) exit = LoopTest k exit
test_of (at_most k) exit = UntilTest k exit

-- how many instructions the code of a term has
abbrev pub width : Tree → ℕ
width (leaf l) = 1
width (rev part) = width part + 1
width (seq first second) = width first + 2 + width second + 1
width (par first second) = width first + width second + 1
width (loop k body) = 2 + width body + 2

-- the code of a term of which the first instruction stands at position p
abbrev pub code_at : ℕ → Tree → List Instr
code_at p (leaf l) = Call l ∷ []
code_at p (rev part) = code_at p part ++ Revise ∷ []
code_at p (seq first second) =
    code_at p first ++ (KeepDomain ∷ (FetchDomain ∷ (code_at (p + width first + 2) second ++ JoinSeq ∷ [])))
code_at p (par first second) = code_at p first ++ (code_at (p + width first) second ++ JoinMax ∷ [])
code_at p (loop k body) =
    StartLoop ∷ (test_of k (p + 2 + width body + 1) ∷ (code_at (p + 2) body ++ (LoopBack (p + 1) ∷ (EndLoop ∷ []))))

-- the code of a term: its first instruction stands at 0
abbrev pub code_of : Tree → List Instr
code_of t = code_at 0 t

-- no two terms have the same code
abbrev pub CodesAreUnique : Type 0
CodesAreUnique = (t u : Tree) → code_of t ≡ code_of u → t ≡ u
