-- What is appended part by part is the code of the term.
use Rattle.std.proofs.Common.{◌≡◌, ℕ, ◌+◌, ◌≤◌, List, [], ◌∷◌, ◌++◌, length, Result, Ok, Err, OnOk, ap, ◌∙◌, arith}
use Rattle.std.proofs.Common.{append_assoc, length-append}
use Rattle.std.specs.Prelude.{slice_set}
use Rattle.std.proofs.Math.Seq.{set-append_seam}
use Rattle.vir_term.specs.Tree.{Tree, leaf, rev, seq, par, loop, End, nesting}
use Rattle.vir_term.specs.Limits.{IsWithinLimits}
use Rattle.vir_code.specs.declared.instr.Instr.{Instr}
use Rattle.vir_code.specs.declared.instr.Instr.TheVariants.{KeepDomain, FetchDomain, JoinSeq, JoinMax, StartLoop}
use Rattle.vir_code.specs.declared.instr.Instr.TheVariants.{LoopBack, EndLoop}
use Rattle.vir_code.specs.Code.{test_of, width, code_at, code_of}
use Rattle.vir_code.specs.Depth.{depth_of}
use Rattle.vir_code.specs.Valid.{IsValid}
use Rattle.vir_code.proofs.Unique.{length-code_at, width_small}

-- a term's code is nowhere deeper than the term is nested
pub depth_small : (t : Tree) → depth_of t ≤ nesting t
depth_small (leaf l) = omega arith
depth_small (rev m) = let h = depth_small m in omega arith
depth_small (seq m n) = let h = depth_small m in let h' = depth_small n in omega arith
depth_small (par m n) = let h = depth_small m in let h' = depth_small n in omega arith
depth_small (loop k m) = let h = depth_small m in omega arith

pub on_ok : {T E : Type 0} (r : Result T E) (P Q : Type 0) → (P → Q) → OnOk r P → OnOk r Q
on_ok (Ok x) P Q f h = f h
on_ok (Err e) P Q f h = tt

pub seq_emitted : (base c1 c2 c3 c4 c5 : List Instr) (m n : Tree) → c1 ≡ base ++ code_at (length base) m → c2 ≡ c1
    ++ KeepDomain ∷ [] → c3 ≡ c2 ++ FetchDomain ∷ [] → c4 ≡ c3 ++ code_at (length c3) n → c5 ≡ c4 ++ JoinSeq ∷ [] → c5
    ≡ base ++ code_at (length base) (seq m n)
seq_emitted base c1 c2 c3 c4 c5 m n e1 e2 e3 e4 e5 =
    let a = code_at (length base) m in
    let l1 = ap length e1 ∙ length-append base a in
    let l2 = ap length e2 ∙ length-append c1 (KeepDomain ∷ []) in
    let l3 = ap length e3 ∙ length-append c2 (FetchDomain ∷ []) in
    let la = length-code_at (length base) m in
    let q : length c3 ≡ length base + width m + 2 = omega arith in
    let all : c5 ≡ ((((base ++ a) ++ KeepDomain ∷ []) ++ FetchDomain ∷ []) ++ code_at (length c3) n) ++ JoinSeq ∷ [] =
    cc in
    let flat : ((((base ++ a) ++ KeepDomain ∷ []) ++ FetchDomain ∷ []) ++ code_at (length c3) n) ++ JoinSeq ∷ [] ≡ base
    ++ (a ++ (KeepDomain ∷ (FetchDomain ∷ (code_at (length c3) n ++ JoinSeq ∷ [])))) = simp append_assoc in
    all ∙ flat ∙ ap (λ p. base ++ (a ++ (KeepDomain ∷ (FetchDomain ∷ (code_at p n ++ JoinSeq ∷ []))))) q

pub par_emitted : (base c1 c2 c3 : List Instr) (m n : Tree) → c1 ≡ base ++ code_at (length base) m → c2 ≡ c1
    ++ code_at (length c1) n → c3 ≡ c2 ++ JoinMax ∷ [] → c3 ≡ base ++ code_at (length base) (par m n)
par_emitted base c1 c2 c3 m n e1 e2 e3 =
    let a = code_at (length base) m in
    let l1 = ap length e1 ∙ length-append base a in
    let la = length-code_at (length base) m in
    let q : length c1 ≡ length base + width m = omega arith in
    let all : c3 ≡ ((base ++ a) ++ code_at (length c1) n) ++ JoinMax ∷ [] = cc in
    let flat : ((base ++ a) ++ code_at (length c1) n) ++ JoinMax ∷ [] ≡ base
    ++ (a ++ (code_at (length c1) n ++ JoinMax ∷ [])) = simp append_assoc in
    all ∙ flat ∙ ap (λ p. base ++ (a ++ (code_at p n ++ JoinMax ∷ []))) q

pub loop_emitted : (base c1 c2 c3 c4 c5 c6 : List Instr) (x : Instr) (test exit : ℕ) (k : End) (m : Tree) → c1 ≡ base
    ++ StartLoop ∷ [] → test ≡ length c1 → c2 ≡ c1 ++ x ∷ [] → c3 ≡ c2 ++ code_at (length c2) m → c4 ≡ c3
    ++ LoopBack test ∷ [] → exit ≡ length c4 → c5 ≡ slice_set c4 test (test_of k exit) → c6 ≡ c5 ++ EndLoop ∷ [] → c6
    ≡ base ++ code_at (length base) (loop k m)
loop_emitted base c1 c2 c3 c4 c5 c6 x test exit k m e1 m1 e2 e3 e4 m2 e5 e6 =
    let p = length base in
    let a = code_at (length c2) m in
    let l1 = ap length e1 ∙ length-append base (StartLoop ∷ []) in
    let l2 = ap length e2 ∙ length-append c1 (x ∷ []) in
    let l3 = ap length e3 ∙ length-append c2 a in
    let l4 = ap length e4 ∙ length-append c3 (LoopBack test ∷ []) in
    let la = length-code_at (length c2) m in
    let q : length c2 ≡ p + 2 = omega arith in
    let r : test ≡ p + 1 = omega arith in
    let s : exit ≡ p + 2 + width m + 1 = omega arith in
    let i = test_of k exit in
    let back = LoopBack test in
    let whole : c4 ≡ ((c1 ++ x ∷ []) ++ a) ++ back ∷ [] = cc in
    let flat : ((c1 ++ x ∷ []) ++ a) ++ back ∷ [] ≡ c1 ++ x ∷ (a ++ back ∷ []) = simp append_assoc in
    let patched : c5 ≡ c1 ++ i ∷ (a ++ back ∷ []) =
    e5 ∙ ap (λ l. slice_set l test i) (whole ∙ flat) ∙ ap (λ n. slice_set (c1 ++ x ∷ (a ++ back ∷ [])) n i) m1
    ∙ set-append_seam c1 x (a ++ back ∷ []) i
    in
    let all : c6 ≡ ((base ++ StartLoop ∷ []) ++ i ∷ (a ++ back ∷ [])) ++ EndLoop ∷ [] = cc in
    let out : ((base ++ StartLoop ∷ []) ++ i ∷ (a ++ back ∷ [])) ++ EndLoop ∷ [] ≡ base
    ++ (StartLoop ∷ (i ∷ (a ++ (back ∷ (EndLoop ∷ []))))) = simp append_assoc in
    all ∙ out
    ∙ ap (λ n. base ++ (StartLoop ∷ (i ∷ (code_at n m ++ (back ∷ (EndLoop ∷ [])))))) q
    ∙ ap (λ n. base ++ (StartLoop ∷ (test_of k n ∷ (code_at (p + 2) m ++ (back ∷ (EndLoop ∷ [])))))) s
    ∙ ap (λ n. base ++ (StartLoop ∷ (test_of k (p + 2 + width m + 1)
    ∷ (code_at (p + 2) m ++ (LoopBack n ∷ (EndLoop ∷ [])))))) r

-- the code of a term within limits is valid
pub compiled_valid : (list : List Instr) (t : Tree) → IsWithinLimits t → list ≡ code_of t → IsValid list
compiled_valid list t within is =
    let long = ap length is ∙ length-code_at 0 t in
    let most = width_small t in
    let small = within.small in
    record { few = omega arith; term = t; within = within; is = is }
