use Rattle.std.proofs.Common.{arith}
use Rattle.vir_report.proofs.SpacedLemmas.{spaced-none, spaced-next, spaced-last}
use Rattle.vir_report.proofs.result.push_members.Goals as goal

pub loop-next-init : goal.loop-next-init
loop-next-init c = record { within = omega arith; printed = spaced-none c.args.set.now c.args.text.now.items }

pub loop-next-preserved : goal.loop-next-preserved
loop-next-preserved c = record {
  within = c.in-Some.ensures.within_limit;
  printed = spaced-next c.args.set.now c.loop-next.last c.in-Some.next _ _ _ c.in-Some.ensures.least
      c.loop-next.invariant.printed c.in_ok-push_member.ensures;
}

pub returns : goal.returns
returns c =
    let last = c.in_default.ensures in
    spaced-last c.args.set.now c.loop-next.last _ _ last.least c.loop-next.invariant.within
    c.loop-next.invariant.printed
