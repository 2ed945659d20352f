-- What is answered for the parts of a term answers for the term.
use Rattle.std.proofs.Common.{◌≡◌, ℕ, ◌+◌, ◌-◌, ◌≤◌, List, [], ◌∷◌, length, get_or, Bool, true, false, IsTrue, ◌↔◌}
use Rattle.std.proofs.Common.{Option, Some, None, refl, sym, ap, ◌∙◌, subst, arith}
use Rattle.std.specs.Prelude.{slice_get}
use Rattle.std.specs.Bool.{then_some}
use Rattle.std.proofs.lemmas.Option.{slice_get-get_or}
use Rattle.vir_term.specs.Tree.{Tree, leaf, rev, seq, par, loop, End, number_of, size, nesting}
use Rattle.vir_term.specs.declared.leaf.Leaf.{Leaf}
use Rattle.vir_term.specs.Limits.{IsCount, IsLeafInRange, IsInRange}
use Rattle.vir_term.proofs.TreeLemmas.{size_positive, nesting_positive}
use Rattle.vir_code.specs.declared.instr.Instr.{Instr}
use Rattle.vir_code.specs.declared.instr.Instr.TheVariants.{Call, KeepDomain, FetchDomain, JoinSeq, JoinMax, Revise}
use Rattle.vir_code.specs.declared.instr.Instr.TheVariants.{StartLoop, LoopBack, EndLoop}
use Rattle.vir_code.specs.declared.validation.Piece.{Piece}
use Rattle.vir_code.specs.Code.{test_of}
use Rattle.vir_code.specs.Places.{HasAt, EndsAt, NoneFits, IsPiece, IsAnswer}
use Rattle.vir_code.proofs.Unique.{Ending, last_of, ending, put_together, one_term, width_positive}

-- where there is no place, no room or no level, nothing fits
pub none_at_start : (code : List Instr) (end room levels : ℕ) → end ≡ 0 → NoneFits code end room levels
none_at_start code end room levels none start t h small flat ranged =
    let some = width_positive t in
    let ends = h.ends in
    omega arith

pub none_without_room : (code : List Instr) (end room levels : ℕ) → room ≡ 0 → NoneFits code end room levels
none_without_room code end room levels none start t h small flat ranged = let some = size_positive t in omega arith

pub none_without_levels : (code : List Instr) (end room levels : ℕ) → levels ≡ 0 → NoneFits code end room levels
none_without_levels code end room levels none start t h small flat ranged = let some = nesting_positive t in omega arith

module _ (code : List Instr) (read : Instr) (end room levels : ℕ) (some : end ≡ 0 → ⊥) (some_room : room ≡ 0 → ⊥)
    (some_levels : levels ≡ 0 → ⊥) (within : end ≤ length code) (is : read ≡ get_or code (end - 1) read) where
  -- what is read before the place
  reads : (i : Instr) → read ≡ i → slice_get code (end - 1) ≡ Some i
  reads i at = slice_get-get_or code (end - 1) read (omega arith) ∙ ap Some (sym is ∙ at)

  -- the end of a term's code here, and its last instruction
  ends : (i : Instr) → read ≡ i → (start : ℕ) (t : Tree) → EndsAt code end start t → Ending code (end - 1) start t
      × (Some (last_of t) ≡ Some i)
  ends i at start t h =
      let g = ending code (end - 1) end start t (omega arith) h in
      (g, sym g.at_last ∙ reads i at)

  piece_of : (piece : Piece) (t : Tree) → Ending code (end - 1) piece.start t → piece.room + size t ≡ room
      → nesting t ≤ levels → IsInRange t → IsPiece code end room levels piece t
  piece_of piece t h small flat ranged =
      let before : end - 1 + 1 ≡ end = omega arith in
      record {
        place = subst (λ n. EndsAt code n piece.start t) before (put_together code (end - 1) piece.start t h);
        size = small;
        nesting = flat;
        in_range = ranged;
      }

  -- an instruction that ends no term
  pub none_ends : ((l : Leaf) → read ≡ Call l → ⊥) → (read ≡ JoinSeq → ⊥) → (read ≡ JoinMax → ⊥) → (read ≡ Revise → ⊥)
      → (read ≡ EndLoop → ⊥) → NoneFits code end room levels
  none_ends call joins_seq joins_max revises ends_loop start t h small flat ranged =
      let g = ending code (end - 1) end start t (omega arith) h in
      let e : Some read ≡ Some (last_of t) = ap Some is ∙ sym (slice_get-get_or code (end - 1) read (omega arith))
      ∙ g.at_last in
      by t cc
    where
      by : (t : Tree) → read ≡ last_of t → ⊥
      by (leaf l) e = call l e
      by (rev m) e = revises e
      by (seq m n) e = joins_seq e
      by (par m n) e = joins_max e
      by (loop k m) e = ends_loop e

  -- a module, where its numbers are in range
  pub answer_leaf : (l : Leaf) → read ≡ Call l → (b : Bool) → IsTrue b ↔ IsLeafInRange l → IsAnswer code end room levels
      (then_some b (record { start = end - 1; room = room - 1 }))
  answer_leaf l at true ranged = (
    leaf l,
    piece_of (record { start = end - 1; room = room - 1 }) (leaf l)
        (record { at_last = reads (Call l) at; parts = refl }) (omega arith) (omega arith) (ranged.0 refl),
  )
  answer_leaf l at false ranged = λ start t h small flat within. let g = ends (Call l) at start t h in by t g.1 within
    where
      by : (t : Tree) → Some (last_of t) ≡ Some (Call l) → IsInRange t → ⊥
      by (leaf l') e within =
          let same : l' ≡ l = cc in
          let is : false ≡ true = ranged.1 (subst IsLeafInRange same within) in
          cc
      by t e within = cc

  pub answer_rev : read ≡ Revise → (r : Option Piece) → IsAnswer code (end - 1) (room - 1) (levels - 1) r
      → IsAnswer code end room levels r
  answer_rev at None none = λ start t h small flat ranged. let g = ends Revise at start t h in by start t g.0 g.1 small
      flat ranged
    where
      by : (start : ℕ) (t : Tree) → Ending code (end - 1) start t → Some (last_of t) ≡ Some Revise → size t ≤ room
          → nesting t ≤ levels → IsInRange t → ⊥
      by start (rev m) g e small flat ranged = none start m g.parts (omega arith) (omega arith) ranged
      by start t g e small flat ranged = cc
  answer_rev at (Some piece) (m, p) =
      let small = p.size in
      let flat = p.nesting in (
        rev m,
        piece_of piece (rev m) (record { at_last = reads Revise at; parts = p.place }) (omega arith) (omega arith)
            p.in_range,
      )

  -- a sequence, by its second part
  pub none_second : read ≡ JoinSeq → NoneFits code (end - 1) (room - 1) (levels - 1) → NoneFits code end room levels
  none_second at none start t h small flat ranged = let g = ends JoinSeq at start t h in by start t g.0 g.1 small flat
      ranged
    where
      by : (start : ℕ) (t : Tree) → Ending code (end - 1) start t → Some (last_of t) ≡ Some JoinSeq → size t ≤ room
          → nesting t ≤ levels → IsInRange t → ⊥
      by start (seq m n) g e small flat ranged = none (g.parts.0 + 2) n g.parts.1 (omega arith) (omega arith) ranged.1
      by start t g e small flat ranged = cc

  pub none_between : read ≡ JoinSeq → (second : Piece) → (n : Tree) × IsPiece code (end - 1) (room - 1) (levels - 1)
      second n → ((at : ℕ) → at + 2 ≡ second.start → HasAt code at (KeepDomain ∷ (FetchDomain ∷ [])) → ⊥)
      → NoneFits code end room levels
  none_between at second found none start t h small flat ranged = let g = ends JoinSeq at start t h
      in by start t g.0 g.1
    where
      by : (start : ℕ) (t : Tree) → Ending code (end - 1) start t → Some (last_of t) ≡ Some JoinSeq → ⊥
      by start (seq m n) g e =
          let same = one_term code (end - 1) (g.parts.0 + 2) second.start n found.0 g.parts.1 found.1.place in
          none g.parts.0 same.place g.parts.2
      by start t g e = cc

  pub answer_seq : read ≡ JoinSeq → (second : Piece) → (n : Tree) × IsPiece code (end - 1) (room - 1) (levels - 1)
      second n → (middle : ℕ) → (middle + 2 ≡ second.start) × HasAt code middle (KeepDomain ∷ (FetchDomain ∷ []))
      → (r : Option Piece) → IsAnswer code middle second.room (levels - 1) r → IsAnswer code end room levels r
  answer_seq at second found middle between None none = λ start t h small flat ranged. let g = ends JoinSeq at start t h
      in by start t g.0 g.1 small flat ranged
    where
      by : (start : ℕ) (t : Tree) → Ending code (end - 1) start t → Some (last_of t) ≡ Some JoinSeq → size t ≤ room
          → nesting t ≤ levels → IsInRange t → ⊥
      by start (seq m n) g e small flat ranged =
          let same = one_term code (end - 1) (g.parts.0 + 2) second.start n found.0 g.parts.1 found.1.place in
          let place : g.parts.0 ≡ middle = omega (arith, same.place, between.0) in
          let sizes = ap size same.term in
          let left = found.1.size in
          none start m (subst (λ q. EndsAt code q start m) place g.parts.3) (omega arith) (omega arith) ranged.0
      by start t g e small flat ranged = cc
  answer_seq at second (n, q) middle between (Some piece) (m, p) =
      let small = p.size in
      let flat = p.nesting in
      let small' = q.size in
      let flat' = q.nesting in
      let there = subst (λ s. EndsAt code (end - 1) s n) (sym between.0) q.place in (
        seq m n,
        piece_of piece (seq m n)
            (record { at_last = reads JoinSeq at; parts = (middle, there, between.1, p.place) }) (omega arith)
            (omega arith) (p.in_range, q.in_range),
      )

  -- two parts side by side
  pub none_beside : read ≡ JoinMax → NoneFits code (end - 1) (room - 1) (levels - 1) → NoneFits code end room levels
  none_beside at none start t h small flat ranged = let g = ends JoinMax at start t h in by start t g.0 g.1 small flat
      ranged
    where
      by : (start : ℕ) (t : Tree) → Ending code (end - 1) start t → Some (last_of t) ≡ Some JoinMax → size t ≤ room
          → nesting t ≤ levels → IsInRange t → ⊥
      by start (par m n) g e small flat ranged = none g.parts.0 n g.parts.1 (omega arith) (omega arith) ranged.1
      by start t g e small flat ranged = cc

  pub answer_par : read ≡ JoinMax → (second : Piece) → (n : Tree) × IsPiece code (end - 1) (room - 1) (levels - 1)
      second n → (r : Option Piece) → IsAnswer code second.start second.room (levels - 1) r → IsAnswer code end room
      levels r
  answer_par at second found None none = λ start t h small flat ranged. let g = ends JoinMax at start t h
      in by start t g.0 g.1 small flat ranged
    where
      by : (start : ℕ) (t : Tree) → Ending code (end - 1) start t → Some (last_of t) ≡ Some JoinMax → size t ≤ room
          → nesting t ≤ levels → IsInRange t → ⊥
      by start (par m n) g e small flat ranged =
          let same = one_term code (end - 1) g.parts.0 second.start n found.0 g.parts.1 found.1.place in
          let sizes = ap size same.term in
          let left = found.1.size in
          none start m (subst (λ q. EndsAt code q start m) same.place g.parts.2) (omega arith) (omega arith) ranged.0
      by start t g e small flat ranged = cc
  answer_par at second (n, q) (Some piece) (m, p) =
      let small = p.size in
      let flat = p.nesting in
      let small' = q.size in
      let flat' = q.nesting in (
        par m n,
        piece_of piece (par m n)
            (record { at_last = reads JoinMax at; parts = (second.start, q.place, p.place) }) (omega arith)
            (omega arith)
            (p.in_range, q.in_range),
      )

  -- a loop, by its jump back, its body and its start
  pub none_back : read ≡ EndLoop → ((turn test : ℕ) → turn + 1 ≡ end - 1 → HasAt code turn (LoopBack test ∷ []) → ⊥)
      → NoneFits code end room levels
  none_back at none start t h small flat ranged = let g = ends EndLoop at start t h in by start t g.0 g.1
    where
      by : (start : ℕ) (t : Tree) → Ending code (end - 1) start t → Some (last_of t) ≡ Some EndLoop → ⊥
      by start (loop k m) g e = none g.parts.0 (start + 1) g.parts.1 (g.parts.2, tt)
      by start t g e = cc

  pub none_turn : read ≡ EndLoop → NoneFits code (end - 1 - 1) (room - 1) (levels - 1) → NoneFits code end room levels
  none_turn at none start t h small flat ranged = let g = ends EndLoop at start t h in by start t g.0 g.1 small flat
      ranged
    where
      by : (start : ℕ) (t : Tree) → Ending code (end - 1) start t → Some (last_of t) ≡ Some EndLoop → size t ≤ room
          → nesting t ≤ levels → IsInRange t → ⊥
      by start (loop k m) g e small flat ranged =
          let turn : g.parts.0 ≡ end - 1 - 1 = omega (arith, g.parts.1) in
          none (start + 2) m (subst (λ q. EndsAt code q (start + 2) m) turn g.parts.3) (omega arith) (omega arith)
          ranged.1
      by start t g e small flat ranged = cc

  -- where the body of a loop begins
  body_starts : (body : Piece) → (m : Tree) × IsPiece code (end - 1 - 1) (room - 1) (levels - 1) body m
      → (start : ℕ) (k : End) (n : Tree) → Ending code (end - 1) start (loop k n) → start + 2 ≡ body.start
  body_starts body found start k n g =
      let turn : g.parts.0 ≡ end - 1 - 1 = omega (arith, g.parts.1) in
      (one_term code (end - 1 - 1) (start + 2) body.start n found.0 (subst (λ q. EndsAt code q (start + 2) n) turn
      g.parts.3) found.1.place).place

  pub none_started : read ≡ EndLoop → (body : Piece) → (m : Tree) × IsPiece code (end - 1 - 1) (room - 1) (levels - 1)
      body m → ((at : ℕ) (k : End) → at + 2 ≡ body.start → HasAt code at (StartLoop ∷ (test_of k (end - 1) ∷ []))
      → IsCount (number_of k) → ⊥) → NoneFits code end room levels
  none_started at body found none start t h small flat ranged = let g = ends EndLoop at start t h
      in by start t g.0 g.1 ranged
    where
      by : (start : ℕ) (t : Tree) → Ending code (end - 1) start t → Some (last_of t) ≡ Some EndLoop → IsInRange t → ⊥
      by start (loop k m) g e ranged = none start k (body_starts body found start k m g) g.parts.4 ranged.0
      by start t g e ranged = cc

  -- the jump back of a loop leads to its test
  pub none_elsewhere : read ≡ EndLoop → (body : Piece) → (m : Tree) × IsPiece code (end - 1 - 1) (room - 1) (levels - 1)
      body m → (test : ℕ) → (turn : ℕ) × (turn + 1 ≡ end - 1) × HasAt code turn (LoopBack test ∷ []) → (at : ℕ) → at + 2
      ≡ body.start → (test ≡ at + 1 → ⊥) → NoneFits code end room levels
  none_elsewhere at body found test back place starts apart start t h small flat ranged = let g = ends EndLoop at start
      t h in by start t g.0 g.1
    where
      by : (start : ℕ) (t : Tree) → Ending code (end - 1) start t → Some (last_of t) ≡ Some EndLoop → ⊥
      by start (loop k m) g e =
          let same = body_starts body found start k m g in
          let turn : g.parts.0 ≡ back.0 = omega (arith, g.parts.1, back.1) in
          let jumps : Some (LoopBack (start + 1)) ≡ Some (LoopBack test) = sym g.parts.2 ∙ ap (slice_get code) turn
          ∙ back.2.0 in
          let tests : start + 1 ≡ test = cc in
          apart (omega arith)
      by start t g e = cc

  pub answer_loop : read ≡ EndLoop → (body : Piece) → (m : Tree) × IsPiece code (end - 1 - 1) (room - 1) (levels - 1)
      body m → (test : ℕ) → (turn : ℕ) × (turn + 1 ≡ end - 1) × HasAt code turn (LoopBack test ∷ []) → (start : ℕ)
      → (k : End) × (start + 2 ≡ body.start) × HasAt code start (StartLoop ∷ (test_of k (end - 1) ∷ []))
      × IsCount (number_of k) → test ≡ start + 1 → IsAnswer code end room levels
      (Some (record { start = start; room = body.room }))
  answer_loop at body (m, p) test (turn, next, back) start (k, starts, head, count) same =
      let small = p.size in
      let flat = p.nesting in
      let turns : end - 1 - 1 ≡ turn = omega arith in
      let there = subst (λ s. EndsAt code (end - 1 - 1) s m) (sym starts) p.place in
      let here = subst (λ q. EndsAt code q (start + 2) m) turns there in
      let jumps = ap (λ n. Some (LoopBack n)) same in (
        loop k m,
        piece_of (record { start = start; room = body.room }) (loop k m)
            (record { at_last = reads EndLoop at; parts = (turn, next, back.0 ∙ jumps, here, head) }) (omega arith)
            (omega arith) (count, p.in_range),
      )
