use Rattle.std.proofs.Common.{sym, ap, ◌∙◌}
use Rattle.vir_derive.specs.Numbers.{is_listed}
use Rattle.vir_synth.proofs.NumberLists.{pushed_there, others_stay, pushed_once}
use Rattle.vir_synth.proofs.wanted.add_number.Goals as goal

pub returns-clause-there : goal.returns-clause-there
returns-clause-there c = pushed_there c.args.numbers.now.items c.push.new.self.items c.args.number
    c.in_ok-push.ensures.items

pub returns-clause-stay : goal.returns-clause-stay
returns-clause-stay c = others_stay c.args.numbers.now.items c.push.new.self.items c.args.number
    c.in_ok-push.ensures.items

pub returns-clause-once : goal.returns-clause-once
returns-clause-once c = pushed_once c.args.numbers.now.items c.push.new.self.items c.args.number
    (sym (ap (λ xs. is_listed xs c.args.number) c.deref.ensures.value) ∙ sym c.contains.ensures.value
    ∙ c.if-contains.false)
    c.in_ok-push.ensures.items
