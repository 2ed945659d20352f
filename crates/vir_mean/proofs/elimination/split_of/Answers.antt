use Rattle.std.proofs.Common.{◌∙◌, sym, true≢false, rules}
use Rattle.std.specs.Bool.{IsTrue}
use Rattle.vir_mean.proofs.elimination.split_of.Goals as goal
use Rattle.vir_mean.proofs.EliminatedSplits.{all_gone, some_stay}

pub returns-then-equals : goal.returns-then-equals
returns-then-equals c =
    let is : IsTrue c.equals.result = search rules in
    c.defer_all.ensures ∙ all_gone c.args.domain.now c.args.gone (sym c.minus-left.ensures ∙ c.equals.ensures.0 is
    ∙ c.empty.ensures)

pub returns : goal.returns
returns c =
    c.elect_none.ensures
    ∙ some_stay c.args.domain.now c.args.gone _ c.minus-left.ensures
    (λ none. let is : IsTrue c.equals.result = c.equals.ensures.1 (c.minus-left.ensures ∙ none ∙ sym c.empty.ensures)
    in true≢false (sym is ∙ c.if-equals.false))
