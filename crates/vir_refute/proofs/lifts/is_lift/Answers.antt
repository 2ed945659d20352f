use Rattle.std.proofs.Common.{true≢false, sym, ◌∙◌}
use Rattle.vir_refute.specs.Cases.{IsLift}
use Rattle.vir_refute.specs.Judged.{election_of}
use Rattle.vir_refute.proofs.LiftedElections.{lift_by_lines, may_be_lifted}
use Rattle.vir_refute.proofs.lifts.is_lift.Goals as goal

pub returns-then-may_be_lifted-clause-lift : goal.returns-then-may_be_lifted-clause-lift
returns-then-may_be_lifted-clause-lift c =
    let v = c.args.first.now in
    let w = c.args.second.now in
    let by_lines = rw (c.entries.ensures.lines, c.entries-then-may_be_lifted.ensures.lines) at c.lifts.ensures in (
      λ is. lift_by_lines v w c.args.x (c.may_be_lifted.ensures.0 c.if-may_be_lifted.true) (by_lines.0 is),
      λ (lift : IsLift (election_of v) (election_of w) c.args.x). by_lines.1 lift.lifted,
    )

pub returns-else-may_be_lifted-clause-lift : goal.returns-else-may_be_lifted-clause-lift
returns-else-may_be_lifted-clause-lift c = (
  λ wrong. absurd (true≢false (sym wrong ∙ c.if-may_be_lifted.false)),
  λ lift.
      c.may_be_lifted.ensures.1 (may_be_lifted c.args.first.now c.args.second.now c.args.x lift),
)
