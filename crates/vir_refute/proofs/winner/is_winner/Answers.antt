use Rattle.std.proofs.Common.{true≢false, sym, ◌∙◌, arith}
use Rattle.vir_refute.proofs.AllMembers.{member_of_all}
use Rattle.vir_refute.proofs.Candidates.{beats_more, winner_of_all}
use Rattle.vir_refute.proofs.winner.is_winner.Goals as goal
use Rattle.vir_refute.proofs.winner.is_winner.Goals.{else-y-x-via-then-y-x+else-not-beats, else-y-x-via-else-y-x}

pub returns-then-not-beats : goal.returns-then-not-beats
returns-then-not-beats c = (
  λ wrong. absurd (true≢false (sym wrong)),
  λ winner.
      absurd (true≢false (sym (c.beats.ensures.1 (winner.wins c.loop-y.y
      (member_of_all c.args.profile.now.alternatives c.loop-y.y c.loop-y.auto.y (omega arith)) c.if-y-x.true))
      ∙ c.if-not-beats.true)),
)

pub loop-y-preserved : goal.loop-y-preserved
loop-y-preserved c =
    beats_more c.args.profile.now.alternatives c.args.profile.now.lines c.args.x c.loop-y.y c.loop-y.invariant
    (λ other. elim c.else-y-x.branch [
      | else-y-x-via-then-y-x+else-not-beats w ↦ w.beats.ensures.0 w.if-not-beats.false
      | else-y-x-via-else-y-x w ↦ absurd (other w.if-y-x.false)
    ])

pub returns : goal.returns
returns c = (
  λ right. winner_of_all c.args.profile.now.alternatives c.args.profile.now.lines c.args.x c.loop-y.y c.requires.0
      c.requires.1 (omega arith) c.loop-y.invariant,
  λ winner. search arith,
)
