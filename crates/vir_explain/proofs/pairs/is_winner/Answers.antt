use Rattle.std.proofs.Common.{◌≢◌, ◌<◌, ◌+◌, true≢false, refl, sym, ◌∙◌, arith}
use Rattle.vir_profile.specs.Profiles.{pairwise_weight}
use Rattle.vir_explain.proofs.Listed.{member_of_all, bounds_of_member, each_next}
use Rattle.vir_explain.proofs.pairs.is_winner.Goals as goal

pub stands-requires-clause-second : goal.stands-requires-clause-second
stands-requires-clause-second c = member_of_all _ _ (omega arith) (omega (arith, c.alternatives-m.ensures.number))

pub returns-then-not-stands : goal.returns-then-not-stands
returns-then-not-stands c =
    let member = member_of_all c.args.election.now.profile.alternatives (c.loop-y.y + 1) (omega arith)
    (omega (arith, c.alternatives-m.ensures.number)) in (
      λ no. absurd (true≢false (sym no)),
      λ win. absurd (true≢false (sym (c.stands.ensures.1 (win.wins _ member)) ∙
          c.if-not-stands.true)),
    )

pub loop-y-preserved : goal.loop-y-preserved
loop-y-preserved c =
    each_next (λ z. z ≢ c.args.w → pairwise_weight c.args.election.now.profile.lines z c.args.w
    < pairwise_weight c.args.election.now.profile.lines c.args.w z) c.loop-y.y c.loop-y.invariant
    (c.stands.ensures.0 c.if-not-stands.false)

pub returns : goal.returns
returns c = (
  λ _. record {
    member = c.requires;
    wins = λ y member apart. (let bounds = bounds_of_member c.args.election.now.profile.alternatives y member in
        c.loop-y.invariant y bounds.0 (omega (arith, bounds.1, c.alternatives-m.ensures.number)) apart);
  },
  λ _. refl,
)
