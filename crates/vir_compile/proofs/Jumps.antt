-- The jumps of a term's code lead to positions within it.
use Rattle.std.proofs.Common.{◌≡◌, ℕ, zero, suc, ◌+◌, ◌<◌, ◌≤◌, List, [], ◌∷◌, ◌++◌, length, Some, subst, arith}
use Rattle.std.specs.Prelude.{⊤, slice_get}
use Rattle.vir_term.specs.Tree.{Tree, leaf, rev, seq, par, loop, End, exactly, at_most}
use Rattle.vir_code.specs.declared.instr.Instr.{Instr}
use Rattle.vir_code.specs.declared.instr.Instr.TheVariants.{KeepDomain, FetchDomain, JoinSeq, JoinMax, Revise, LoopTest}
use Rattle.vir_code.specs.declared.instr.Instr.TheVariants.{UntilTest, LoopBack, EndLoop}
use Rattle.vir_code.specs.Code.{test_of, width, code_at, code_of}
use Rattle.vir_code.proofs.Unique.{length-code_at}
use Rattle.vir_compile.specs.Laws.{JumpsStayWithin}

-- a jump, if it is one, leads below a position
abbrev Below : ℕ → Instr → Type 0
Below end (LoopTest k exit) = exit < end
Below end (UntilTest k exit) = exit < end
Below end (LoopBack start) = start < end
Below end _ = ⊤

abbrev AllBelow : ℕ → List Instr → Type 0
AllBelow end [] = ⊤
AllBelow end (i ∷ is) = Below end i × AllBelow end is

both : (end : ℕ) (a b : List Instr) → AllBelow end a → AllBelow end b → AllBelow end (a ++ b)
both end [] b g h = h
both end (i ∷ a) b g h = (g.0, both end a b g.1 h)

below_test : (end exit : ℕ) (k : End) → exit < end → Below end (test_of k exit)
below_test end exit (exactly k) less = less
below_test end exit (at_most k) less = less

-- the jumps of the code of a term
all_below : (p end : ℕ) (t : Tree) → p + width t ≤ end → AllBelow end (code_at p t)
all_below p end (leaf l) le = (tt, tt)
all_below p end (rev m) le = both end (code_at p m) (Revise ∷ []) (all_below p end m (omega arith)) (tt, tt)
all_below p end (seq m n) le =
    let b = code_at (p + width m + 2) n in
    both end (code_at p m) (KeepDomain ∷ (FetchDomain ∷ (b ++ JoinSeq ∷ []))) (all_below p end m (omega arith))
    (tt, (tt, both end b (JoinSeq ∷ []) (all_below (p + width m + 2) end n (omega arith)) (tt, tt)))
all_below p end (par m n) le =
    let b = code_at (p + width m) n in
    both end (code_at p m) (b ++ JoinMax ∷ []) (all_below p end m (omega arith))
    (both end b (JoinMax ∷ []) (all_below (p + width m) end n (omega arith)) (tt, tt))
all_below p end (loop k m) le = (
  tt,
  (
    below_test end (p + 2 + width m + 1) k (omega arith),
    both end (code_at (p + 2) m) (LoopBack (p + 1)
        ∷ (EndLoop ∷ [])) (all_below (p + 2) end m (omega arith)) (omega arith, (tt, tt)),
  ),
)

at_place : (end : ℕ) (code : List Instr) (i : ℕ) (x : Instr) → AllBelow end code → slice_get code i ≡ Some x
    → Below end x
at_place end [] i x h e = cc
at_place end (j ∷ code) zero x h e = let same : j ≡ x = cc in subst (Below end) same h.0
at_place end (j ∷ code) (suc i) x h e = at_place end code i x h.1 e

pub within : JumpsStayWithin
within t =
    let all = all_below 0 (length (code_of t)) t (omega (arith, length-code_at 0 t)) in
    record {
      exits = λ i k exit at. at_place (length (code_of t)) (code_of t) i (LoopTest k exit) all at;
      until_exits = λ i k exit at. at_place (length (code_of t)) (code_of t) i (UntilTest k exit) all at;
      starts = λ i start at. at_place (length (code_of t)) (code_of t) i (LoopBack start) all at;
    }
