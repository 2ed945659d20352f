-- A place of a code ends the code of one term at most.
use Rattle.std.proofs.Common.{◌≡◌, ℕ, ◌+◌, ◌-◌, ◌*◌, ◌≤◌, List, [], ◌∷◌, ◌++◌, length, Some, refl, sym, ap, ◌∙◌, subst}
use Rattle.std.proofs.Common.{arith, length-append}
use Rattle.std.specs.Prelude.{slice_get}
use Rattle.vir_term.specs.Tree.{Tree, leaf, rev, seq, par, loop, End, exactly, at_most, size}
use Rattle.vir_code.specs.declared.instr.Instr.{Instr}
use Rattle.vir_code.specs.declared.instr.Instr.TheVariants.{Call, KeepDomain, FetchDomain, JoinSeq, JoinMax, Revise}
use Rattle.vir_code.specs.declared.instr.Instr.TheVariants.{StartLoop, LoopBack, EndLoop}
use Rattle.vir_code.specs.Code.{test_of, width, code_at, code_of, CodesAreUnique}
use Rattle.vir_code.specs.Places.{HasAt, EndsAt}
use Rattle.vir_code.proofs.At.{has_front, has_back, has_both, has_all, has_whole}

-- the code is as long as the width
pub length-code_at : (p : ℕ) (t : Tree) → length (code_at p t) ≡ width t
length-code_at p (leaf l) = refl
length-code_at p (rev m) = omega (arith, length-code_at p m, length-append (code_at p m) (Revise ∷ []))
length-code_at p (seq m n) =
    let b = code_at (p + width m + 2) n in
    omega (
      arith,
      length-code_at p m,
      length-code_at (p + width m + 2) n,
      length-append (code_at p m) (KeepDomain
          ∷ (FetchDomain ∷ (b ++ JoinSeq ∷ []))),
      length-append b (JoinSeq ∷ []),
    )
length-code_at p (par m n) =
    let b = code_at (p + width m) n in
    omega (
      arith,
      length-code_at p m,
      length-code_at (p + width m) n,
      length-append (code_at p m) (b ++ JoinMax ∷ []),
      length-append b (JoinMax ∷ []),
    )
length-code_at p (loop k m) =
    omega (arith, length-code_at (p + 2) m, length-append (code_at (p + 2) m) (LoopBack (p + 1) ∷ (EndLoop ∷ [])))

-- a term within limits has short code
pub width_small : (t : Tree) → width t ≤ 4 * size t
width_small (leaf l) = omega arith
width_small (rev m) = omega (arith, width_small m)
width_small (seq m n) = omega (arith, width_small m, width_small n)
width_small (par m n) = omega (arith, width_small m, width_small n)
width_small (loop k m) = omega (arith, width_small m)

pub width_positive : (t : Tree) → 1 ≤ width t
width_positive (leaf l) = omega arith
width_positive (rev m) = omega arith
width_positive (seq m n) = omega arith
width_positive (par m n) = omega arith
width_positive (loop k m) = omega arith

-- the last instruction of a term's code
abbrev pub last_of : Tree → Instr
last_of (leaf l) = Call l
last_of (rev m) = Revise
last_of (seq m n) = JoinSeq
last_of (par m n) = JoinMax
last_of (loop k m) = EndLoop

-- of what the code of a term is made
abbrev pub Parts : List Instr → ℕ → ℕ → Tree → Type 0
Parts code last start (leaf l) = start ≡ last
Parts code last start (rev m) = EndsAt code last start m
Parts code last start (seq m n) =
    (middle : ℕ) × EndsAt code last (middle + 2) n × HasAt code middle (KeepDomain ∷ (FetchDomain ∷ []))
    × EndsAt code middle start m
Parts code last start (par m n) = (middle : ℕ) × EndsAt code last middle n × EndsAt code middle start m
Parts code last start (loop k m) =
    (turn : ℕ) × (turn + 1 ≡ last) × (slice_get code turn ≡ Some (LoopBack (start + 1))) × EndsAt code turn (start + 2)
    m
    × HasAt code start (StartLoop ∷ (test_of k last ∷ []))

-- the code of a term ends in its last instruction, after its parts
pub record Ending (code : List Instr) (last start : ℕ) (t : Tree) : Type 0 where
  pub at_last : slice_get code last ≡ Some (last_of t)
  pub parts : Parts code last start t

pub taken_apart : (code : List Instr) (last start : ℕ) (t : Tree) → EndsAt code (last + 1) start t
    → Ending code last start t
taken_apart code last start (leaf l) h =
    let e : start ≡ last = omega arith in
    record { at_last = subst (λ n. slice_get code n ≡ Some (Call l)) e h.stands.0; parts = e }
taken_apart code last start (rev m) h =
    let a = code_at start m in
    let length-a = length-code_at start m in
    record {
      at_last = (has_back code start last a (Revise ∷ []) (omega arith) h.stands).0;
      parts = record { stands = has_front code start a (Revise ∷ []) h.stands; ends = omega arith };
    }
taken_apart code last start (seq m n) h =
    let a = code_at start m in
    let middle = start + width m in
    let b = code_at (middle + 2) n in
    let between = KeepDomain ∷ (FetchDomain ∷ []) in
    let length-a = length-code_at start m in
    let length-b = length-code_at (middle + 2) n in
    let after_a = has_back code start middle a (between ++ (b ++ JoinSeq ∷ [])) (omega arith) h.stands in
    let after_between = has_back code middle (middle + 2) between (b ++ JoinSeq ∷ []) (omega arith) after_a in
    record {
      at_last = (has_back code (middle + 2) last b (JoinSeq ∷ []) (omega arith) after_between).0;
      parts = (
        middle,
        record {
          stands = has_front code (middle + 2) b (JoinSeq ∷ []) after_between;
          ends = omega arith;
        },
        has_front code middle between (b ++ JoinSeq ∷ []) after_a,
        record
            { stands = has_front code start a (between ++ (b ++ JoinSeq ∷ [])) h.stands; ends = refl },
      );
    }
taken_apart code last start (par m n) h =
    let a = code_at start m in
    let middle = start + width m in
    let b = code_at middle n in
    let length-a = length-code_at start m in
    let length-b = length-code_at middle n in
    let after_a = has_back code start middle a (b ++ JoinMax ∷ []) (omega arith) h.stands in
    record {
      at_last = (has_back code middle last b (JoinMax ∷ []) (omega arith) after_a).0;
      parts = (
        middle,
        record { stands = has_front code middle b (JoinMax ∷ []) after_a; ends = omega arith },
        record
            { stands = has_front code start a (b ++ JoinMax ∷ []) h.stands; ends = refl },
      );
    }
taken_apart code last start (loop k m) h =
    let exit = start + 2 + width m + 1 in
    let head = StartLoop ∷ (test_of k exit ∷ []) in
    let a = code_at (start + 2) m in
    let turn = start + 2 + width m in
    let tail = LoopBack (start + 1) ∷ (EndLoop ∷ []) in
    let length-a = length-code_at (start + 2) m in
    let after_head = has_back code start (start + 2) head (a ++ tail) (omega arith) h.stands in
    let after_a = has_back code (start + 2) turn a tail (omega arith) after_head in
    let e : turn + 1 ≡ last = omega arith in
    record {
      at_last = subst (λ n. slice_get code n ≡ Some EndLoop) e after_a.1.0;
      parts = (
        turn,
        e,
        after_a.0,
        record { stands = has_front code (start + 2) a tail after_head; ends = refl },
        subst
            (λ n. HasAt code start (StartLoop ∷ (test_of k n ∷ []))) e (has_front code start head (a ++ tail) h.stands),
      );
    }

pub put_together : (code : List Instr) (last start : ℕ) (t : Tree) → Ending code last start t → EndsAt code (last + 1)
    start t
put_together code last start (leaf l) h =
    let e : last ≡ start = sym h.parts in
    record { stands = (subst (λ n. slice_get code n ≡ Some (Call l)) e h.at_last, tt); ends = omega arith }
put_together code last start (rev m) h =
    let length-a = length-code_at start m in
    let e = h.parts.ends in
    record {
      stands = has_both code start last (code_at start m) (Revise ∷ []) (omega arith) h.parts.stands
          (h.at_last, tt);
      ends = omega arith;
    }
put_together code last start (seq m n) h =
    let middle = h.parts.0 in
    let a = code_at start m in
    let b = code_at (middle + 2) n in
    let between = KeepDomain ∷ (FetchDomain ∷ []) in
    let length-a = length-code_at start m in
    let length-b = length-code_at (middle + 2) n in
    let ends-b = h.parts.1.ends in
    let ends-a = h.parts.3.ends in
    let from_b = has_both code (middle + 2) last b (JoinSeq ∷ []) (omega arith) h.parts.1.stands (h.at_last, tt) in
    let from_between = has_both code middle (middle + 2) between (b ++ JoinSeq ∷ []) (omega arith) h.parts.2 from_b in
    let e : middle ≡ start + width m = sym ends-a in
    record {
      stands = subst (λ q. HasAt code start (a ++ (between ++ (code_at (q + 2) n ++ JoinSeq ∷ [])))) e
          (has_both code start middle a (between ++ (b ++ JoinSeq ∷ [])) (omega arith) h.parts.3.stands from_between);
      ends = omega arith;
    }
put_together code last start (par m n) h =
    let middle = h.parts.0 in
    let a = code_at start m in
    let b = code_at middle n in
    let length-a = length-code_at start m in
    let length-b = length-code_at middle n in
    let ends-b = h.parts.1.ends in
    let ends-a = h.parts.2.ends in
    let from_b = has_both code middle last b (JoinMax ∷ []) (omega arith) h.parts.1.stands (h.at_last, tt) in
    let e : middle ≡ start + width m = sym ends-a in
    record {
      stands = subst (λ q. HasAt code start (a ++ (code_at q n ++ JoinMax ∷ []))) e
          (has_both code start middle a (b ++ JoinMax ∷ []) (omega arith) h.parts.2.stands from_b);
      ends = omega arith;
    }
put_together code last start (loop k m) h =
    let turn = h.parts.0 in
    let head = StartLoop ∷ (test_of k last ∷ []) in
    let a = code_at (start + 2) m in
    let tail = LoopBack (start + 1) ∷ (EndLoop ∷ []) in
    let length-a = length-code_at (start + 2) m in
    let turn_last = h.parts.1 in
    let ends-a = h.parts.3.ends in
    let e : last ≡ turn + 1 = sym turn_last in
    let from_tail : HasAt code turn tail = (h.parts.2, (subst (λ n. slice_get code n ≡ Some EndLoop) e h.at_last, tt))
    in
    let from_a = has_both code (start + 2) turn a tail (omega arith) h.parts.3.stands from_tail in
    let exit : last ≡ start + 2 + width m + 1 = omega arith in
    record {
      stands = subst (λ n. HasAt code start ((StartLoop ∷ (test_of k n ∷ [])) ++ (a ++ tail))) exit
          (has_both code start (start + 2) head (a ++ tail) (omega arith) h.parts.4 from_a);
      ends = omega arith;
    }

-- where a term's code begins, and which term it is
pub record Same (p q : ℕ) (t u : Tree) : Type 0 where
  pub place : p ≡ q
  pub term : t ≡ u

-- the code of a term that ends at a place ends in an instruction before it
pub last_before : (code : List Instr) (end start : ℕ) (t : Tree) → EndsAt code end start t → (last : ℕ)
    × (last + 1 ≡ end)
last_before code end start t h =
    let some = width_positive t in
    let ends = h.ends in
    (end - 1, omega arith)

pub ending : (code : List Instr) (last end start : ℕ) (t : Tree) → last + 1 ≡ end → EndsAt code end start t
    → Ending code last start t
ending code last end start t e h = taken_apart code last start t (subst (λ n. EndsAt code n start t) (sym e) h)

-- a test tells where its loop ends
same_end : (exit : ℕ) (k j : End) → Some (test_of k exit) ≡ Some (test_of j exit) → k ≡ j
same_end exit (exactly k) (exactly j) e = let same : k ≡ j = cc in ap exactly same
same_end exit (at_most k) (at_most j) e = let same : k ≡ j = cc in ap at_most same
same_end exit (exactly k) (at_most j) e = absurd cc
same_end exit (at_most k) (exactly j) e = absurd cc

-- no instruction ends the code of two terms
same_ending : (code : List Instr) (t u : Tree) (last p q : ℕ) → Ending code last p t → Ending code last q u
    → Same p q t u
same_ending code (leaf l) (leaf l') last p q g h =
    let e : Some (Call l) ≡ Some (Call l') = sym g.at_last ∙ h.at_last in
    record { place = g.parts ∙ sym h.parts; term = cc }
same_ending code (leaf l) u last p q g h = absurd (let e : Some (last_of (leaf l)) ≡ Some (last_of u) = sym g.at_last
    ∙ h.at_last in cc)
same_ending code (rev m) (rev m') last p q g h =
    let z = last_before code last p m g.parts in
    let r = same_ending code m m' z.0 p q (ending code z.0 last p m z.1 g.parts) (ending code z.0 last q m' z.1 h.parts)
    in
    record { place = r.place; term = ap rev r.term }
same_ending code (rev m) u last p q g h = absurd (let e : Some (last_of (rev m)) ≡ Some (last_of u) = sym g.at_last
    ∙ h.at_last in cc)
same_ending code (seq m n) (seq m' n') last p q g h =
    let y = last_before code last (g.parts.0 + 2) n g.parts.1 in
    let r = same_ending code n n' y.0 (g.parts.0 + 2) (h.parts.0 + 2) (ending code y.0 last (g.parts.0 + 2) n y.1
    g.parts.1) (ending code y.0 last (h.parts.0 + 2) n' y.1 h.parts.1) in
    let z = last_before code g.parts.0 p m g.parts.3 in
    let middle = r.place in
    let s = same_ending code m m' z.0 p q (ending code z.0 g.parts.0 p m z.1 g.parts.3)
    (ending code z.0 h.parts.0 q m' (omega arith) h.parts.3) in
    record { place = s.place; term = ap (λ x. seq x n) s.term ∙ ap (λ x. seq m' x) r.term }
same_ending code (seq m n) u last p q g h = absurd (let e : Some (last_of (seq m n)) ≡ Some (last_of u) = sym g.at_last
    ∙ h.at_last in cc)
same_ending code (par m n) (par m' n') last p q g h =
    let y = last_before code last g.parts.0 n g.parts.1 in
    let r = same_ending code n n' y.0 g.parts.0 h.parts.0 (ending code y.0 last g.parts.0 n y.1 g.parts.1)
    (ending code y.0 last h.parts.0 n' y.1 h.parts.1) in
    let z = last_before code g.parts.0 p m g.parts.2 in
    let s = same_ending code m m' z.0 p q (ending code z.0 g.parts.0 p m z.1 g.parts.2)
    (ending code z.0 h.parts.0 q m' (z.1 ∙ r.place) h.parts.2) in
    record { place = s.place; term = ap (λ x. par x n) s.term ∙ ap (λ x. par m' x) r.term }
same_ending code (par m n) u last p q g h = absurd (let e : Some (last_of (par m n)) ≡ Some (last_of u) = sym g.at_last
    ∙ h.at_last in cc)
same_ending code (loop k m) (loop k' m') last p q g h =
    let turn : h.parts.0 ≡ g.parts.0 = omega (arith, g.parts.1, h.parts.1) in
    let z = last_before code g.parts.0 (p + 2) m g.parts.3 in
    let r = same_ending code m m' z.0 (p + 2) (q + 2) (ending code z.0 g.parts.0 (p + 2) m z.1 g.parts.3)
    (ending code z.0 h.parts.0 (q + 2) m' (z.1 ∙ sym turn) h.parts.3) in
    let place : p ≡ q = omega (arith, r.place) in
    let test : Some (test_of k last) ≡ Some (test_of k' last) = sym g.parts.4.1.0 ∙ ap (λ n. slice_get code (n + 1))
    place ∙ h.parts.4.1.0 in
    let number : k ≡ k' = same_end last k k' test in
    record { place = place; term = ap (λ x. loop x m) number ∙ ap (λ x. loop k' x) r.term }
same_ending code (loop k m) u last p q g h = absurd (let e : Some (last_of (loop k m)) ≡ Some (last_of u) =
    sym g.at_last ∙ h.at_last in cc)

-- no place of a code ends the code of two terms
pub one_term : (code : List Instr) (end p q : ℕ) (t u : Tree) → EndsAt code end p t → EndsAt code end q u → Same p q t u
one_term code end p q t u g h =
    let last = last_before code end p t g in
    same_ending code t u last.0 p q (ending code last.0 end p t last.1 g) (ending code last.0 end q u last.1 h)

-- all of a code, as the code of a term
pub whole_code : (code : List Instr) (t : Tree) → code ≡ code_of t → EndsAt code (length code) 0 t
whole_code code t e =
    let long : length code ≡ width t = ap length e ∙ length-code_at 0 t in
    record { stands = subst (HasAt code 0) e (has_all code); ends = omega arith }

-- the other way round
pub is_whole_code : (code : List Instr) (t : Tree) → EndsAt code (length code) 0 t → code ≡ code_of t
is_whole_code code t h =
    let long = length-code_at 0 t in
    let ends = h.ends in
    has_whole code (code_of t) h.stands (omega arith)

-- no two terms have the same code
pub unique : CodesAreUnique
unique t u e = (one_term (code_of t) (length (code_of t)) 0 0 t u (whole_code (code_of t) t refl)
    (whole_code (code_of t) u e)).term
