-- The depth of a term's code is the term's.
use Rattle.std.proofs.Common.{◌≡◌, ℕ, ◌+◌, ◌≤◌, max, List, [], ◌∷◌, ◌++◌, refl, sym, ap, ◌∙◌, arith, append_assoc}
use Rattle.std.proofs.lemmas.List.{append-nil}
use Rattle.vir_term.specs.Tree.{Tree, leaf, rev, seq, par, loop, End, exactly, at_most}
use Rattle.vir_code.specs.declared.instr.Instr.{Instr}
use Rattle.vir_code.specs.declared.instr.Instr.TheVariants.{KeepDomain, FetchDomain, JoinSeq, JoinMax, Revise, LoopBack}
use Rattle.vir_code.specs.declared.instr.Instr.TheVariants.{EndLoop}
use Rattle.vir_code.specs.Code.{test_of, width, code_at, code_of}
use Rattle.vir_code.specs.Depth.{depth_of}
use Rattle.vir_code.specs.Heights.{height_after, peak_from, peak_of}

-- each term needs a place for its split
pub depth_positive : (t : Tree) → 1 ≤ depth_of t
depth_positive (leaf l) = omega arith
depth_positive (rev m) = depth_positive m
depth_positive (seq m n) = omega arith
depth_positive (par m n) = omega arith
depth_positive (loop k m) = omega arith

same_peak : (h k x y : ℕ) (is : List Instr) → h ≡ k → x ≡ y → peak_from h x is ≡ peak_from k y is
same_peak h k x y is e f = ap (λ n. peak_from n x is) e ∙ ap (λ n. peak_from k n is) f

-- a test leaves the stack as it is
height-test_of : (k : End) (exit height : ℕ) → height_after (test_of k exit) height ≡ height
height-test_of (exactly k) exit height = refl
height-test_of (at_most k) exit height = refl

-- a term's code adds its split, and rises to its depth
pub peak-code_at : (p : ℕ) (t : Tree) (rest : List Instr) (height most : ℕ) → peak_from height most (code_at p t
    ++ rest) ≡ peak_from (height + 1) (max most (height + depth_of t)) rest
peak-code_at p (leaf l) rest height most = refl
peak-code_at p (rev m) rest height most =
    let some = depth_positive m in
    ap (peak_from height most) (append_assoc (code_at p m) (Revise ∷ []) rest)
    ∙ peak-code_at p m (Revise ∷ rest) height most
    ∙ same_peak _ _ _ _ rest refl (omega arith)
peak-code_at p (seq m n) rest height most =
    let some = depth_positive m in
    let some' = depth_positive n in
    let q = p + width m + 2 in
    let b = code_at q n in
    ap (peak_from height most) (append_assoc (code_at p m) (KeepDomain ∷ (FetchDomain ∷ (b ++ JoinSeq ∷ []))) rest)
    ∙ peak-code_at p m (KeepDomain ∷ (FetchDomain ∷ ((b ++ JoinSeq ∷ []) ++ rest))) height most
    ∙ ap (peak_from (height + 1) (max (max (max most (height + depth_of m)) (height + 1)) (height + 1)))
    (append_assoc b (JoinSeq ∷ []) rest)
    ∙ peak-code_at q n (JoinSeq ∷ rest) (height + 1) (max (max (max most (height + depth_of m)) (height + 1))
    (height + 1))
    ∙ same_peak _ _ _ _ rest (omega arith) (omega arith)
peak-code_at p (par m n) rest height most =
    let some = depth_positive m in
    let some' = depth_positive n in
    let q = p + width m in
    let b = code_at q n in
    ap (peak_from height most) (append_assoc (code_at p m) (b ++ JoinMax ∷ []) rest)
    ∙ peak-code_at p m ((b ++ JoinMax ∷ []) ++ rest) height most
    ∙ ap (peak_from (height + 1) (max most (height + depth_of m))) (append_assoc b (JoinMax ∷ []) rest)
    ∙ peak-code_at q n (JoinMax ∷ rest) (height + 1) (max most (height + depth_of m))
    ∙ same_peak _ _ _ _ rest (omega arith) (omega arith)
peak-code_at p (loop k m) rest height most =
    let some = depth_positive m in
    let b = code_at (p + 2) m in
    ap (λ h. peak_from h (max (max most (height + 1)) h) ((b ++ LoopBack (p + 1) ∷ (EndLoop ∷ [])) ++ rest))
    (height-test_of k (p + 2 + width m + 1) (height + 1))
    ∙ ap (peak_from (height + 1) (max (max most (height + 1)) (height + 1)))
    (append_assoc b (LoopBack (p + 1) ∷ (EndLoop ∷ [])) rest)
    ∙ peak-code_at (p + 2) m (LoopBack (p + 1) ∷ (EndLoop ∷ rest)) (height + 1)
    (max (max most (height + 1)) (height + 1))
    ∙ same_peak _ _ _ _ rest (omega arith) (omega arith)

-- the depth of a term's code is the term's
pub peak_is_depth : (code : List Instr) (t : Tree) → code ≡ code_of t → peak_of code ≡ depth_of t
peak_is_depth code t e =
    ap peak_of (e ∙ sym (append-nil (code_of t)))
    ∙ peak-code_at 0 t [] 0 0
    ∙ (let d : max 0 (0 + depth_of t) ≡ depth_of t = omega arith in d)
