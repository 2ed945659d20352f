use Rattle.std.proofs.Common.{Vec, Global, ◌≡◌, ◌+◌, ◌-◌, ◌%◌, ℕ, [], ◌∷◌, ◌++◌, length, sym, ap, ◌∙◌, arith}
use Rattle.std.proofs.lemmas.List.Edits.{length-insert}
use Rattle.std.proofs.lemmas.Nat.{mod_below}
use Rattle.std.specs.List.{insert}
use Rattle.vir_counting.specs.declared.drill_profile.Draws.{Draws}
use Rattle.vir_counting.specs.Drill.{Drawn, drawn_from}
use Rattle.vir_counting.proofs.DrillLemmas.{drawn_from_one, drawn_from-more}
use Rattle.vir_counting.proofs.drill_profile.drawn_order.Goals as goal
use Rattle.vir_counting.proofs.drill_profile.drawn_order.Goals.{else-loop-j-test}
use Rattle.vir_counting.proofs.drill_profile.drawn_order.Goals.{then-loop-j-test+in_ok-insert+else-j-alternatives}

pub loop-j-init : goal.loop-j-init
loop-j-init c =
    let one = drawn_from_one c.args.draws.now.state in
    let first = c.in_ok-push.ensures.items ∙ ap (λ items. items ++ 1 ∷ []) c.in_ok-order.ensures.items in
    record {
      order = first ∙ sym (ap (λ (d : Drawn). d.order) one);
      state = sym (ap (λ (d : Drawn). d.state) one);
      placed = ap length first;
      within = omega arith;
    }

pub loop-j-preserved : goal.loop-j-preserved
loop-j-preserved c =
    let j = c.loop-j.j in
    let back : j + 1 - 1 ≡ j = omega arith in
    let put = c.in_ok-insert.ensures.items ∙ ap (λ n. insert c.loop-j.order.items (c.draw.result % n) j)
    c.from-in-loop-j.ensures in
    let more = drawn_from-more c.args.draws.now.state j c.loop-j.order.items c.loop-j.draws.state c.draw.new.self.state
    c.draw.result c.insert.new.self.items (omega arith) c.loop-j.invariant.order c.loop-j.invariant.state
    c.draw.ensures.state c.draw.ensures.drawn put in
    let place = mod_below c.draw.result j (omega arith) in
    let long = ap length put ∙ length-insert c.loop-j.order.items (c.draw.result % j) j (omega arith) in
    record {
      order = more.0 ∙ ap (λ n. (drawn_from c.args.draws.now.state n).order) (sym back);
      state = more.1 ∙ ap (λ n. (drawn_from c.args.draws.now.state n).state) (sym back);
      placed = omega arith;
      within = omega arith;
    }

pub returns-clause-order : goal.returns-clause-order
returns-clause-order c = elim c.loop-j-test.branch [
  | else-loop-j-test w ↦
      let all : c.loop-j.j - 1 ≡ c.args.alternatives = omega arith in
      ap (λ (v : Vec ℕ Global). v.items) w.order-is ∙ c.loop-j.invariant.order
      ∙ ap (λ n. (drawn_from c.args.draws.now.state n).order) all
  | then-loop-j-test+in_ok-insert+else-j-alternatives w ↦
      let j = c.loop-j.j in
      let last : j ≡ c.args.alternatives = omega arith in
      let put = w.in_ok-insert.ensures.items ∙ ap (λ n. insert c.loop-j.order.items (w.draw.result % n) j)
      w.from-in-loop-j.ensures in
      let more = drawn_from-more c.args.draws.now.state j c.loop-j.order.items c.loop-j.draws.state
      w.draw.new.self.state w.draw.result w.insert.new.self.items (omega arith) c.loop-j.invariant.order
      c.loop-j.invariant.state w.draw.ensures.state w.draw.ensures.drawn put in
      ap (λ (v : Vec ℕ Global). v.items) w.order-is ∙ more.0 ∙ ap (λ n. (drawn_from c.args.draws.now.state n).order)
      last
]

pub returns-clause-state : goal.returns-clause-state
returns-clause-state c = elim c.loop-j-test.branch [
  | else-loop-j-test w ↦
      let all : c.loop-j.j - 1 ≡ c.args.alternatives = omega arith in
      ap (λ (d : Draws). d.state) w.draws-is ∙ c.loop-j.invariant.state
      ∙ ap (λ n. (drawn_from c.args.draws.now.state n).state) all
  | then-loop-j-test+in_ok-insert+else-j-alternatives w ↦
      let j = c.loop-j.j in
      let last : j ≡ c.args.alternatives = omega arith in
      let put = w.in_ok-insert.ensures.items ∙ ap (λ n. insert c.loop-j.order.items (w.draw.result % n) j)
      w.from-in-loop-j.ensures in
      let more = drawn_from-more c.args.draws.now.state j c.loop-j.order.items c.loop-j.draws.state
      w.draw.new.self.state w.draw.result w.insert.new.self.items (omega arith) c.loop-j.invariant.order
      c.loop-j.invariant.state w.draw.ensures.state w.draw.ensures.drawn put in
      ap (λ (d : Draws). d.state) w.draws-is ∙ more.1 ∙ ap (λ n. (drawn_from c.args.draws.now.state n).state) last
]
