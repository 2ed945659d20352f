use Rattle.vir_rules.specs.Reasons.{reason_seen, reasons_seen}
use Rattle.vir_report.specs.ClaimTexts.{reason_line}
use Rattle.vir_report.proofs.LineLemmas.{lines_next}
use Rattle.vir_report.proofs.why.push_why.Goals as goal

pub loop-i-preserved : goal.loop-i-preserved
loop-i-preserved c =
    lines_next reason_line (reasons_seen c.args.why.now) c.loop-i.i (reason_seen c.in-Some.line.now) _ _ _
    (rw c.in-Some.is at c.at.ensures) c.loop-i.invariant c.in_ok-push_line.ensures
