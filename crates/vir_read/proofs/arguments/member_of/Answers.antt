use Rattle.std.proofs.Common.{◌≤◌, arith, [], sym}
use Rattle.vir_read.specs.Arguments.{value_at}
use Rattle.vir_read.proofs.TypingLemmas.{order_more, ranged_ok}
use Rattle.vir_read.proofs.arguments.member_of.Goals as goal

pub returns-else-contains-clause-faultless : goal.returns-else-contains-clause-faultless
returns-else-contains-clause-faultless c = λ faultless.
    let n = c.in_ok-n-in-Number.field-0 in
    let r = ranged_ok c.from.result c.in-Number.start (value_at c.args.text.now c.in-Number.start c.in-Number.end) n
    c.in_ok-n-in-Number.ensures in
    let most = c.from.ensures in
    let few : n ≤ 1024 = omega (arith, r.1, most) in
    order_more [] c.args.before.now n r.0 few (sym c.if-contains.ensures.value) faultless
