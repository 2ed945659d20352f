use Rattle.std.proofs.Common.{◌≡◌, ◌+◌, ℕ, suc, sym, ap, ◌∙◌, arith}
use Rattle.std.specs.FinSet as set
use Rattle.vir_find.proofs.ExchangedSets.{exchanged-same, exchanged-up, exchanged-down, one_more}
use Rattle.vir_find.proofs.exchanging.exchanged_set.Goals as goal

pub returns-then-second : goal.returns-then-second
returns-then-second c = exchanged-same c.args.i c.args.a.now
    (sym c.has.ensures ∙ c.if-has.true ∙ sym c.if-second.true ∙ c.has-second.ensures
    ∙ ap (set.contains c.args.a.now) (one_more c.args.i))

pub returns-else-second : goal.returns-else-second
returns-else-second c =
    c.with.ensures
    ∙ ap (λ s. set.insert s (c.args.i + 1)) c.without.ensures
    ∙ ap (set.insert (set.remove c.args.a.now c.args.i)) (one_more c.args.i)
    ∙ exchanged-up c.args.i c.args.a.now (sym c.has.ensures ∙ c.if-has.true)
    (ap (set.contains c.args.a.now) (sym (one_more c.args.i)) ∙ sym c.has-second.ensures ∙ c.if-second.false)

pub returns-then-second-2 : goal.returns-then-second-2
returns-then-second-2 c =
    c.with-then-second-2.ensures
    ∙ ap (λ s. set.insert s c.args.i) (c.without-then-second-2.ensures
    ∙ ap (set.remove c.args.a.now) (one_more c.args.i))
    ∙ exchanged-down c.args.i c.args.a.now (sym c.has.ensures ∙ c.if-has.false)
    (ap (set.contains c.args.a.now) (sym (one_more c.args.i)) ∙ sym c.has-second.ensures ∙ c.if-second-2.true)

pub returns-else-second-2 : goal.returns-else-second-2
returns-else-second-2 c = exchanged-same c.args.i c.args.a.now
    (sym c.has.ensures ∙ c.if-has.false ∙ sym c.if-second-2.false ∙ c.has-second.ensures
    ∙ ap (set.contains c.args.a.now) (one_more c.args.i))
