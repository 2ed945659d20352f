use Rattle.std.proofs.Common.{◌++◌, ◌∷◌, refl}
use Rattle.vir_course.specs.declared.stop.Stop.TheVariants.{TextRefused}
use Rattle.vir_top.proofs.BatchDueLemmas.{batch_due, batch_missing_due, batch_unserved_due, manifest_due}
use Rattle.vir_top.proofs.laws.batches_are_counted.Goals as goal

pub returns-clause-refused : goal.returns-clause-refused
returns-clause-refused c = λ kinds all rule manifest status term is_rule has due.
    manifest_due all kinds rule manifest status due term is_rule (TextRefused has.0) has.1

pub returns-clause-unserved : goal.returns-clause-unserved
returns-clause-unserved c = λ kinds all rule manifest status term names leaf is_rule is_manifest some due.
    batch_unserved_due all kinds rule manifest status due term is_rule names is_manifest leaf some

pub returns-clause-counted : goal.returns-clause-counted
returns-clause-counted c = λ kinds all rule manifest status term names is_rule is_manifest served there due.
    batch_due all kinds rule manifest status due term is_rule names is_manifest served there

pub returns-clause-missing : goal.returns-clause-missing
returns-clause-missing c = λ kinds all rule manifest status term before behind name is_rule is_manifest served there
    none due.
    batch_missing_due all kinds rule manifest status due term is_rule (before ++ name ∷ behind) is_manifest served
    before name behind refl there none
