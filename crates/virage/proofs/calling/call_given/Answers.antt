use Rattle.std.proofs.Common.{ℕ, Ok, refl, ◌∙◌}
use Rattle.std.proofs.lemmas.Iterator.{items_from_collect}
use Rattle.std.proofs.lemmas.Iterator.Adapters.{YieldsList-from_vec}
use Rattle.virage.proofs.calling.call_given.Goals as goal

pub returns-in-Ok-collect-clause-words : goal.returns-in-Ok-collect-clause-words
returns-in-Ok-collect-clause-words g c =
    let given = YieldsList-from_vec _ refl c.in-Ok.args.rest.ok.0 in
    let all = items_from_collect {E = ℕ} (Ok c.in-Ok-collect.all) c.in-Ok-collect.ensures.ran given in
    let words = c.deref.ensures.value ∙ all in
    rw c.in-Ok.is (rw (← words) c.call.ensures)
