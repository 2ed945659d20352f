-- What is answered for a whole list.
use Rattle.std.proofs.Common.{◌≡◌, ℕ, ◌≤◌, List, length, sym, subst, arith}
use Rattle.vir_term.specs.Tree.{Tree}
use Rattle.vir_term.specs.Limits.{size_limit, nesting_limit}
use Rattle.vir_code.specs.declared.instr.Instr.{Instr}
use Rattle.vir_code.specs.declared.validation.Piece.{Piece}
use Rattle.vir_code.specs.Places.{EndsAt, NoneFits, IsPiece}
use Rattle.vir_code.specs.Valid.{IsValid, code_limit}
use Rattle.vir_code.proofs.Unique.{one_term, whole_code, is_whole_code}

module _ (code seen : List Instr) (end : ℕ) (same : seen ≡ code) (all : end ≡ length code) where
  -- a valid list ends in the code of its term
  valid_ends : (valid : IsValid code) → EndsAt seen end 0 valid.term
  valid_ends valid =
      subst (λ l. EndsAt l end 0 valid.term) (sym same) (subst (λ n. EndsAt code n 0 valid.term) (sym all)
      (whole_code code valid.term valid.is))

  pub invalid_where_none : NoneFits seen end size_limit nesting_limit → IsValid code → ⊥
  invalid_where_none none valid = none 0 valid.term (valid_ends valid) valid.within.small valid.within.flat
      valid.within.in_range

  pub invalid_with_rest : (piece : Piece) → (t : Tree) × IsPiece seen end size_limit nesting_limit piece t
      → (piece.start ≡ 0 → ⊥) → IsValid code → ⊥
  invalid_with_rest piece found rest valid =
      rest (one_term seen end piece.start 0 found.0 valid.term found.1.place (valid_ends valid)).place

  pub valid_from_start : (piece : Piece) → (t : Tree) × IsPiece seen end size_limit nesting_limit piece t → piece.start
      ≡ 0 → length code ≤ code_limit → IsValid code
  valid_from_start piece found first few =
      let h = subst (λ s. EndsAt seen end s found.0) first found.1.place in
      let whole = subst (λ n. EndsAt code n 0 found.0) all (subst (λ l. EndsAt l end 0 found.0) same h) in
      let small = found.1.size in
      record {
        few = few;
        term = found.0;
        within = record {
          small = omega arith;
          flat = found.1.nesting;
          in_range = found.1.in_range;
        };
        is = is_whole_code code found.0 whole;
      }
