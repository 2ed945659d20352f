-- For private clauses and proofs alone: what stands at the places of a list of instructions.
-- (The program's promises don't stand on this file.)
use Rattle.std.specs.Prelude.{◌≡◌, ℕ, ◌+◌, ◌≤◌, List, [], ◌∷◌, Option, Some, MatchOption, slice_get}
use Rattle.vir_term.specs.Tree.{Tree, End, size, nesting}
use Rattle.vir_term.specs.Limits.{IsInRange}
use Rattle.vir_code.specs.declared.instr.Instr.{Instr}
use Rattle.vir_code.specs.declared.instr.Instr.TheVariants.{KeepDomain, FetchDomain, StartLoop}
use Rattle.vir_code.specs.declared.validation.Piece.{Piece}
use Rattle.vir_code.specs.Code.{test_of, width, code_at}

-- the instructions stand in the list from this position on
abbrev pub HasAt : List Instr → ℕ → List Instr → Type 0
HasAt code p [] = Unit {0}
HasAt code p (i ∷ is) = (slice_get code p ≡ Some i) × HasAt code (p + 1) is

-- the code of a term stands in the list, and ends before this place
pub record EndsAt (code : List Instr) (end start : ℕ) (t : Tree) : Type 0 where
  pub stands : HasAt code start (code_at start t)
  pub ends : start + width t ≡ end

-- the two instructions between the parts of a sequence
abbrev pub between : List Instr
between = KeepDomain ∷ (FetchDomain ∷ [])

-- the two instructions before the body of a loop
abbrev pub before_body : End → ℕ → List Instr
before_body k exit = StartLoop ∷ (test_of k exit ∷ [])

-- no term of which the code ends here fits into the room, is nested in at most so many levels, and is in range
abbrev pub NoneFits : List Instr → ℕ → ℕ → ℕ → Type 0
NoneFits code end room levels =
    (start : ℕ) (t : Tree) → EndsAt code end start t → size t ≤ room → nesting t ≤ levels → IsInRange t → ⊥

-- the code of such a term ends here, and leaves so much of the room
pub record IsPiece (code : List Instr) (end room levels : ℕ) (piece : Piece) (t : Tree) : Type 0 where
  pub place : EndsAt code end piece.start t
  pub size : piece.room + size t ≡ room
  pub nesting : nesting t ≤ levels
  pub in_range : IsInRange t

-- whether the code of such a term ends here, and which
abbrev pub IsAnswer : List Instr → ℕ → ℕ → ℕ → Option Piece → Type 0
IsAnswer code end room levels answer =
    MatchOption answer (NoneFits code end room levels) (λ piece. (t : Tree) × IsPiece code end room levels piece t)
