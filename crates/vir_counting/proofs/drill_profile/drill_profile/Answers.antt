use Rattle.std.proofs.Common.{◌≡◌, ◌+◌, ◌-◌, ◌++◌, length, sym, ap, ◌∙◌, arith}
use Rattle.std.proofs.lemmas.List.{length_push}
use Rattle.vir_profile.specs.Add.{add_fault}
use Rattle.vir_profile.specs.Profiles.{Votes, total_weight}
use Rattle.vir_counting.specs.Drill.{drawn_from, lines_from}
use Rattle.vir_counting.proofs.DrillLemmas.{lines_from_none, add_fault-drawn, lines_from-more, total_weight-more}
use Rattle.vir_counting.proofs.DrillLemmas.{same_votes}
use Rattle.vir_counting.proofs.drill_profile.drill_profile.Goals as goal

pub add_faultless-requires : goal.add_faultless-requires
add_faultless-requires c =
    let profile = c.loop.profile in
    let state = c.loop.draws.state in
    ap (λ order. add_fault profile (record { weight = 1; order = order })) (c.in_ok-ballot.ensures ∙
    c.in_ok-order.ensures.order)
    ∙ ap (λ m. add_fault profile (record { weight = 1; order = (drawn_from state m).order }))
    (sym c.loop.invariant.alternatives)
    ∙ add_fault-drawn profile state (omega arith) (omega arith)

pub loop-preserved : goal.loop-preserved
loop-preserved c =
    let m = c.args.alternatives in
    let left = c.args.lines - c.loop.counter in
    let less : c.args.lines - (c.loop.counter + 1) ≡ left - 1 = omega arith in
    let added = c.in_ok-add_faultless.ensures in
    let lines = ap (λ (votes : Votes). votes.lines) added in
    let more = lines_from-more m c.loop.draws.state left c.drawn_order.new.draws.state c.in_ok-ballot.ballot
    c.loop.profile.lines
    c.add_faultless.new.profile.lines (lines_from m c.args.seed c.args.lines) (omega arith) (c.in_ok-ballot.ensures
    ∙ c.in_ok-order.ensures.order) c.in_ok-order.ensures.state lines c.loop.invariant.lines in
    let longer = ap length lines ∙ length_push c.loop.profile.lines (record {
      weight = 1;
      order =
          c.in_ok-ballot.ballot;
    }) in
    let heavier = ap total_weight lines ∙ total_weight-more c.loop.profile.lines c.in_ok-ballot.ballot in
    record {
      alternatives = ap (λ (votes : Votes). votes.alternatives) added ∙ c.loop.invariant.alternatives;
      lines = ap (λ n. c.add_faultless.new.profile.lines ++ lines_from m c.drawn_order.new.draws.state n) less ∙ more;
      many = omega arith;
      total = omega arith;
    }

pub returns : goal.returns
returns c =
    let none = lines_from_none c.args.alternatives c.loop.draws.state (c.args.lines - c.loop.counter) (omega arith) in
    same_votes c.loop.profile c.args.alternatives (lines_from c.args.alternatives c.args.seed c.args.lines)
    c.loop.invariant.alternatives
    (ap (λ rest. c.loop.profile.lines ++ rest) (sym none) ∙ c.loop.invariant.lines)
