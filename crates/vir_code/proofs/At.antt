-- Lists of instructions at a place of a code.
use Rattle.std.proofs.Common.{◌≡◌, ℕ, suc, ◌+◌, ◌<◌, List, [], ◌∷◌, ◌++◌, length, Some, refl, ap, ◌∙◌, subst, arith}
use Rattle.std.proofs.Common.{append_assoc, length-append}
use Rattle.std.proofs.Math.Seq.{get_or-append_seam}
use Rattle.std.proofs.lemmas.Option.{slice_get-get_or}
use Rattle.vir_code.specs.declared.instr.Instr.{Instr}
use Rattle.vir_code.specs.Places.{HasAt}

pub has_front : (code : List Instr) (p : ℕ) (a b : List Instr) → HasAt code p (a ++ b) → HasAt code p a
has_front code p [] b h = tt
has_front code p (i ∷ a) b h = (h.0, has_front code (p + 1) a b h.1)

pub has_back : (code : List Instr) (p q : ℕ) (a b : List Instr) → p + length a ≡ q → HasAt code p (a ++ b)
    → HasAt code q b
has_back code p q [] b e h = let e' : p ≡ q = omega arith in subst (λ n. HasAt code n b) e' h
has_back code p q (i ∷ a) b e h = has_back code (p + 1) q a b (omega arith) h.1

pub has_both : (code : List Instr) (p q : ℕ) (a b : List Instr) → p + length a ≡ q → HasAt code p a → HasAt code q b
    → HasAt code p (a ++ b)
has_both code p q [] b e g h = let e' : q ≡ p = omega arith in subst (λ n. HasAt code n b) e' h
has_both code p q (i ∷ a) b e g h = (g.0, has_both code (p + 1) q a b (omega arith) g.1 h)

has_rest : (is pre : List Instr) → HasAt (pre ++ is) (length pre) is
has_rest [] pre = tt
has_rest (i ∷ is) pre =
    let lt : length pre < length (pre ++ i ∷ is) = omega (arith, length-append pre (i ∷ is)) in
    let here = slice_get-get_or (pre ++ i ∷ is) (length pre) i lt ∙ ap Some (get_or-append_seam pre i is i) in
    let n : length (pre ++ i ∷ []) ≡ length pre + 1 = omega (arith, length-append pre (i ∷ [])) in
    let rest = has_rest is (pre ++ i ∷ []) in
    let rest' = subst (λ l. HasAt l (length (pre ++ i ∷ [])) is) (append_assoc pre (i ∷ []) is) rest in
    (here, subst (λ m. HasAt (pre ++ i ∷ is) m is) n rest')

-- a code has all of itself
pub has_all : (code : List Instr) → HasAt code 0 code
has_all code = has_rest code []

shift : (i : Instr) (code is : List Instr) (p : ℕ) → HasAt (i ∷ code) (suc p) is → HasAt code p is
shift i code [] p h = tt
shift i code (j ∷ is) p h =
    let e : suc p + 1 ≡ suc (p + 1) = omega arith in
    (h.0, shift i code is (p + 1) (subst (λ n. HasAt (i ∷ code) n is) e h.1))

-- what a code has from its start to its end is the code
pub has_whole : (code is : List Instr) → HasAt code 0 is → length is ≡ length code → code ≡ is
has_whole [] [] h e = refl
has_whole [] (j ∷ is) h e = absurd (omega arith)
has_whole (i ∷ code) [] h e = absurd (omega arith)
has_whole (i ∷ code) (j ∷ is) h e =
    let one : 0 + 1 ≡ suc 0 = omega arith in
    let rest : code ≡ is = has_whole code is (shift i code is 0 (subst (λ n. HasAt (i ∷ code) n is) one h.1))
    (omega arith) in
    let first : Some i ≡ Some j = h.0 in
    cc
