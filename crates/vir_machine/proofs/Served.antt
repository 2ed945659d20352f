-- Each module that an instruction of a term's code calls is one of the term's.
use Rattle.std.proofs.Common.{◌≡◌, ℕ, zero, suc, ◌+◌, Bool, true, false, cond, List, [], ◌∷◌, ◌++◌, Option, Some, None}
use Rattle.std.proofs.Common.{refl, sym, ap, ◌∙◌}
use Rattle.std.specs.Prelude.{slice_get, is_none}
use Rattle.vir_term.specs.declared.leaf.Leaf.{Leaf}
use Rattle.vir_term.specs.declared.leaf.LeafKind.{LeafKind}
use Rattle.vir_term.specs.Kinds.{kind_of}
use Rattle.vir_term.specs.Tree.{Tree, leaf, rev, seq, par, loop, End, exactly, at_most}
use Rattle.vir_code.specs.declared.instr.Instr.{Instr}
use Rattle.vir_code.specs.declared.instr.Instr.TheVariants.{Call, KeepDomain, FetchDomain, JoinSeq, JoinMax, Revise}
use Rattle.vir_code.specs.declared.instr.Instr.TheVariants.{StartLoop, LoopBack, EndLoop}
use Rattle.vir_code.specs.Code.{test_of, width, code_at, code_of}
use Rattle.vir_machine.specs.Bench.{is_served}
use Rattle.vir_machine.specs.Uses.{all_served, first_unserved, or_else}
use Rattle.vir_machine.specs.Asked.{call_served}

module _ (served : List (List LeafKind)) where
  abbrev AreServed : List Instr → Type 0
  AreServed code = (i : ℕ) (at : Instr) → slice_get code i ≡ Some at → call_served served at ≡ true

  none_served : AreServed []
  none_served i at stands = cc

  first_served : (at : Instr) (rest : List Instr) → call_served served at ≡ true → AreServed rest
      → AreServed (at ∷ rest)
  first_served at rest is later zero other stands = let e : Some at ≡ Some other = stands in let same : at ≡ other = cc
      in ap (call_served served) (sym same) ∙ is
  first_served at rest is later (suc i) other stands = later i other stands

  both_served : (first second : List Instr) → AreServed first → AreServed second → AreServed (first ++ second)
  both_served [] second one two = two
  both_served (at ∷ rest) second one two =
      first_served at (rest ++ second) (one 0 at refl)
      (both_served rest second (λ i other stands. one (suc i) other stands) two)

  then_last : (code : List Instr) (at : Instr) → call_served served at ≡ true → AreServed code
      → AreServed (code ++ at ∷ [])
  then_last code at is before = both_served code (at ∷ []) before (first_served at [] is none_served)

  left : (first second : Option Leaf) → is_none (or_else first second) ≡ true → is_none first ≡ true
  left None second e = refl
  left (Some l) second e = absurd cc

  right : (first second : Option Leaf) → is_none (or_else first second) ≡ true → is_none second ≡ true
  right None second e = e
  right (Some l) second e = absurd cc

  called_served : (b : Bool) (l : Leaf) → is_none (cond b None (Some l)) ≡ true → b ≡ true
  called_served true l e = refl
  called_served false l e = absurd cc

  test_served : (k : End) (exit : ℕ) → call_served served (test_of k exit) ≡ true
  test_served (exactly k) exit = refl
  test_served (at_most k) exit = refl

  code_served : (p : ℕ) (t : Tree) → all_served served t ≡ true → AreServed (code_at p t)
  code_served p (leaf l) is = first_served (Call l) [] (called_served (is_served served (kind_of l)) l is) none_served
  code_served p (rev part) is = then_last (code_at p part) Revise refl (code_served p part is)
  code_served p (seq first second) is =
      let code : List Instr = code_at (p + width first + 2) second ++ JoinSeq ∷ [] in
      let later : AreServed code = then_last (code_at (p + width first + 2) second) JoinSeq refl
      (code_served (p + width first + 2) second (right (first_unserved served first) (first_unserved served second)
      is)) in
      both_served (code_at p first) (KeepDomain ∷ (FetchDomain ∷ code))
      (code_served p first (left (first_unserved served first) (first_unserved served second) is))
      (first_served KeepDomain (FetchDomain ∷ code) refl (first_served FetchDomain code refl later))
  code_served p (par first second) is =
      let code : List Instr = code_at (p + width first) second in
      both_served (code_at p first) (code ++ JoinMax ∷ [])
      (code_served p first (left (first_unserved served first) (first_unserved served second) is))
      (then_last code JoinMax refl (code_served (p + width first) second (right (first_unserved served first)
      (first_unserved served second) is)))
  code_served p (loop k body) is =
      let code : List Instr = code_at (p + 2) body in
      let test : Instr = test_of k (p + 2 + width body + 1) in
      let back : Instr = LoopBack (p + 1) in
      first_served StartLoop (test ∷ (code ++ (back ∷ (EndLoop ∷ [])))) refl
      (first_served test (code ++ (back ∷ (EndLoop ∷ []))) (test_served k (p + 2 + width body + 1))
      (both_served code (back ∷ (EndLoop ∷ [])) (code_served (p + 2) body is)
      (first_served back (EndLoop ∷ []) refl (first_served EndLoop [] refl none_served))))

-- an instruction of the code of a served term, where what is served has stayed the same
pub at_served : (now old : List (List LeafKind)) → now ≡ old → (code : List Instr) (t : Tree) → code ≡ code_of t
    → all_served old t ≡ true → (i : ℕ) (at : Instr) → slice_get code i ≡ Some at → call_served now at ≡ true
at_served now old kept code t same is i at stands =
    ap (λ served. call_served served at) kept ∙ code_served old 0 t is i at (ap (λ l. slice_get l i) (sym same)
    ∙ stands)

-- where all modules are served, none is the first that isn't
pub none_of_served : (served : List (List LeafKind)) (t : Tree) → all_served served t ≡ true → first_unserved served t
    ≡ None
none_of_served served t e = none (first_unserved served t) e
  where
    none : (first : Option Leaf) → is_none first ≡ true → first ≡ None
    none None is = refl
    none (Some l) is = absurd cc

-- where none is the first that isn't, all are served
pub served_of_none : (served : List (List LeafKind)) (t : Tree) → first_unserved served t ≡ None → all_served served t
    ≡ true
served_of_none served t e = ap is_none e
