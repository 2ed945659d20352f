use Rattle.std.proofs.Common.{◌∙◌, ap, subst}
use Rattle.vir_altset.specs.Splits.{IsSplitOf}
use Rattle.vir_profile.specs.Profiles.{restrict}
use Rattle.vir_mean.proofs.MeaningLaws.{mean-split}
use Rattle.vir_compile.specs.Calls.{calls_of}
use Rattle.vir_machine.specs.Asked.{asked}
use Rattle.vir_machine.proofs.Asked.{asked-calls_of}
use Rattle.vir_machine.proofs.Steps.{popped}
use Rattle.vir_machine.proofs.machine.Machine.run.Goals as goal

pub returns-clause-split : goal.returns-clause-split
returns-clause-split g c =
    let q = c.requires.served in
    let lines = restrict c.args.domain.now c.args.election.now.profile.lines in
    let same = popped _ _ _ _ c.pop.ensures.item (ap (λ s. s.0) (c.run_code.ensures.splits q.0 q.1)) in
    subst (IsSplitOf c.args.domain.now) same (mean-split q.0 c.args.domain.now lines)

pub returns-clause-calls : goal.returns-clause-calls
returns-clause-calls g c = λ t is.
    let a = c.args.domain.now in
    let lines = restrict c.args.domain.now c.args.election.now.profile.lines in
    c.run_code.ensures.calls t is ∙ ap (asked (calls_of t a lines)) c.count_run.ensures.counters
    ∙ asked-calls_of t a lines _
