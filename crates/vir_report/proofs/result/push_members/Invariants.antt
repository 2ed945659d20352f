use Rattle.std.proofs.Common.{◌≡◌, ◌-◌, ◌++◌, ◌≤◌}
use Rattle.vir_altset.specs.Sets.{limit}
use Rattle.vir_altset.specs.Members.{members_up_to}
use Rattle.vir_report.specs.ResultText.{spaced}
use Rattle.vir_report.proofs.result.push_members.Given as goal

abbrev pub invariant-loop-next : goal.invariant-loop-next
invariant-loop-next l = record {
  within : l.last ≤ limit;
  printed : l.text.items ≡ l.fn.text.items ++ spaced (members_up_to l.last l.set);
}

abbrev pub decreases-loop-next : goal.decreases-loop-next
decreases-loop-next l = limit - l.last
