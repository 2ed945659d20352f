use Rattle.std.proofs.Common.{◌+◌, ◌≤◌, ℕ, ◌∙◌, length, sym, ap, arith, subst}
use Rattle.std.specs.FinSet as set
use Rattle.std.specs.Option.{option_copied}
use Rattle.vir_altset.specs.Sets.{all}
use Rattle.vir_mean.specs.Numbers.{number_of}
use Rattle.vir_profile.proofs.OrderLaws.{range_of_member}
use Rattle.vir_positional.specs.Gains.{AreFirst}
use Rattle.vir_positional.specs.Weights.{weight_of, IsForm}
use Rattle.vir_positional.proofs.ElectionLines.{line_at, none_got, fits, goes_on, small_sum}
use Rattle.vir_positional.proofs.GainLemmas.{line_gain, kept_listing}
use Rattle.vir_positional.proofs.WeighedLines.{weighed-drop, restricted_weighed-le}
use Rattle.vir_positional.proofs.WeightLaws.{weight-le}
use Rattle.vir_positional.proofs.sums.add_up.Goals as goal
use Rattle.vir_positional.proofs.sums.add_up.Goals.{in-Some, in_default}

pub add_line-requires-clause-listed : goal.add_line-requires-clause-listed
add_line-requires-clause-listed g c =
    let votes = c.args.election.now.profile in
    let at = line_at votes c.loop-i.i c.in-Some.line.now c.alternatives-alternatives.ensures.limits (sym c.line.ensures
    ∙ ap option_copied c.in-Some.is) in
    rw c.alternatives.ensures at.alternatives

pub add_line-requires-clause-few : goal.add_line-requires-clause-few
add_line-requires-clause-few g c =
    let votes = c.args.election.now.profile in
    let at = line_at votes c.loop-i.i c.in-Some.line.now c.alternatives-alternatives.ensures.limits (sym c.line.ensures
    ∙ ap option_copied c.in-Some.is) in
    rw c.alternatives.ensures at.few

pub add_line-requires-clause-room : goal.add_line-requires-clause-room
add_line-requires-clause-room g c x marked low high =
    let votes = c.args.election.now.profile in
    let limits = c.alternatives-alternatives.ensures.limits in
    let line = c.in-Some.line.now in
    let i = c.loop-i.i in
    let d = c.args.domain.now in
    let kept = g.W.Weighing.kept c.args.rule.now in
    let f = λ (i : ℕ). weight_of kept i (set.len d) in
    let at = line_at votes i line limits (sym c.line.ensures ∙ ap option_copied c.in-Some.is) in
    let inside = sym (c.mark.ensures.marked x) ∙ marked in
    let first = subst (λ n. AreFirst n (λ i. weight_of kept i n) c.list_weights.new.weights) c.count.ensures.exact
    c.list_weights.ensures in
    let few : set.len d ≤ 1024 = omega (arith, c.count.ensures.exact, c.count.ensures.within_limit) in
    let small = weight-le kept (subst IsForm c.form.ensures c.bounded.ensures) (set.len d) in
    fits (number_of c.loop-i.sums x) _ _ _ _ _
    (line_gain d f _ _ _ line.order line.weight x first c.mark.ensures.marked c.alternatives.ensures
    (kept_listing (all votes.alternatives) d line.order c.requires.part at.lists) inside)
    (ap (λ r. number_of c.loop-i.sums x + r) (sym (weighed-drop f x d votes.lines i line at.within at.here))
    ∙ c.loop-i.invariant.sums x inside)
    (restricted_weighed-le f (λ i. small i few) d votes.lines x) limits.weights

pub loop-i-preserved : goal.loop-i-preserved
loop-i-preserved g c =
    let votes = c.args.election.now.profile in
    let limits = c.alternatives-alternatives.ensures.limits in
    let most = limits.few in
    let i = c.loop-i.i in
    let d = c.args.domain.now in
    let kept = g.W.Weighing.kept c.args.rule.now in
    let f = λ (i : ℕ). weight_of kept i (set.len d) in
    let first = subst (λ n. AreFirst n (λ i. weight_of kept i n) c.list_weights.new.weights) c.count.ensures.exact
    c.list_weights.ensures in
    elim c.match-line.branch [
      | in-Some w ↦
          let line = w.in-Some.line.now in
          let at = line_at votes i line limits (sym c.line.ensures ∙ ap option_copied w.in-Some.is) in
          record {
            size = ap length w.sums-is ∙ w.add_line.ensures.size;
            sums = λ x inside.
                let range = range_of_member votes.alternatives x (c.requires.part x inside) in
                let low = range.0 in
                let high = range.1 in
                goes_on (number_of c.loop-i.sums x) _ _ _ _ _
                (ap (λ l. number_of l x) w.sums-is ∙ w.add_line.ensures.added x (c.mark.ensures.marked x ∙ inside) low
                (omega arith))
                (line_gain d f _ _ _ line.order line.weight x first c.mark.ensures.marked w.alternatives.ensures
                (kept_listing (all votes.alternatives) d line.order c.requires.part at.lists) inside)
                (ap (λ r. number_of c.loop-i.sums x + r) (sym (weighed-drop f x d votes.lines i line at.within at.here))
                ∙ c.loop-i.invariant.sums x inside);
          }
      | in_default w ↦
          let past = none_got votes.lines i (sym c.line.ensures ∙ ap option_copied w.in_default.is) in
          absurd (omega (arith, c.lines-i-end.ensures, c.loop-i-test.true))
    ]

pub returns-clause-small : goal.returns-clause-small
returns-clause-small g c x inside =
    let votes = c.args.election.now.profile in
    let d = c.args.domain.now in
    let kept = g.W.Weighing.kept c.args.rule.now in
    let f = λ (i : ℕ). weight_of kept i (set.len d) in
    let few : set.len d ≤ 1024 = omega (arith, c.count.ensures.exact, c.count.ensures.within_limit) in
    let small = weight-le kept (subst IsForm c.form.ensures c.bounded.ensures) (set.len d) in
    small_sum _ _ _ _ (c.loop-i.invariant.sums x inside) (restricted_weighed-le f (λ i. small i few) d votes.lines x)
    c.alternatives-alternatives.ensures.limits.weights
