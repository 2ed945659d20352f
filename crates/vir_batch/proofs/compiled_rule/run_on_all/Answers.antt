use Rattle.std.proofs.Common.{refl}
use Rattle.vir_counting.proofs.RunLemmas.{run_of_whole, split_of_whole, whole_of}
use Rattle.vir_batch.proofs.compiled_rule.run_on_all.Goals as goal

pub returns-clause-split : goal.returns-clause-split
returns-clause-split g c = λ t is.
    let election = c.args.election.now in
    let whole = whole_of election election c.alternatives.result c.all-domain.result refl c.all-domain.ensures
    c.alternatives.ensures.number c.alternatives.ensures.limits in
    split_of_whole t election.profile _ _ _ whole (c.run.ensures.meaning t is)

pub returns-clause-ran : goal.returns-clause-ran
returns-clause-ran g c = λ t is.
    let election = c.args.election.now in
    let whole = whole_of election election c.alternatives.result c.all-domain.result refl c.all-domain.ensures
    c.alternatives.ensures.number c.alternatives.ensures.limits in
    run_of_whole t election.profile _ _ _ _ whole (c.run.ensures.calls t is) c.run.ensures.runs
