use Rattle.std.proofs.Common.{◌≤◌, ◌∙◌, refl, length, arith}
use Rattle.vir_code.specs.Valid.{code_limit}
use Rattle.vir_code.proofs.Whole.{invalid_where_none, invalid_with_rest, valid_from_start}
use Rattle.vir_code.proofs.validation.validate.Goals as goal

pub returns-in_err-piece : goal.returns-in_err-piece
returns-in_err-piece c =
    rw c.from_residual.ensures (invalid_where_none _ _ _ c.deref.ensures.value (c.len-2.ensures ∙ c.args.list.ok.0)
    c.in_err-piece.ensures)

pub invariant_of-result : goal.invariant_of-result
invariant_of-result c =
    let long = c.args.list.ok.0 in
    let few : length c.args.list.items ≤ code_limit = omega arith in
    valid_from_start _ _ _ c.deref.ensures.value (c.len-2.ensures ∙ long) _ c.in_ok-piece.ensures c.if-piece-eq0.true
    few

pub returns-then-piece-eq0 : goal.returns-then-piece-eq0
returns-then-piece-eq0 c =
    let long = c.args.list.ok.0 in
    let few : length c.args.list.items ≤ code_limit = omega arith in (
      valid_from_start _ _ _ c.deref.ensures.value (c.len-2.ensures ∙ long) _ c.in_ok-piece.ensures c.if-piece-eq0.true
          few,
      refl,
    )

pub returns-else-piece-eq0 : goal.returns-else-piece-eq0
returns-else-piece-eq0 c =
    invalid_with_rest _ _ _ c.deref.ensures.value (c.len-2.ensures ∙ c.args.list.ok.0) _ c.in_ok-piece.ensures
    c.if-piece-eq0.false
