use Rattle.std.proofs.Common.{arith, sym, ◌∙◌}
use Rattle.vir_batch.proofs.NameLemmas.{bad_line, good_line, one_line_too_many}
use Rattle.vir_batch.proofs.file_names.FileNames.push_line.Goals as goal

pub returns-in_default : goal.returns-in_default
returns-in_default c =
    rw c.fault.ensures
    (bad_line c.args.self.now c.args.at c.args.line.now (sym c.is_empty.ensures ∙ c.if-is_empty.false)
    c.in_default.ensures.cases.0)

pub returns-then-len-ge-NAME_LIMIT : goal.returns-then-len-ge-NAME_LIMIT
returns-then-len-ge-NAME_LIMIT c =
    rw c.fault-then-len-ge-NAME_LIMIT.ensures
    (one_line_too_many c.args.self.now c.args.at c.args.line.now (sym c.is_empty.ensures ∙ c.if-is_empty.false)
    c.in-Ok.ensures.cases.1 (omega arith))

pub returns : goal.returns
returns c =
    good_line c.args.self.now c.args.at c.args.line.now (sym c.is_empty.ensures ∙ c.if-is_empty.false)
    c.in-Ok.ensures.cases.1 (omega arith) _ _ _ c.in-Ok.ensures.cases.0 c.in_ok-from_str.ensures.ok
    c.in_ok-push.ensures.pushed
